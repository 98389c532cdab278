-- `bench_values::read_hex` meets its contract. Assumes nothing.
use lib.ListN.{length}
use mathlib.Core.Path.{sym, ◌∙◌}
use native.Mathlib.Omega.{arith}
use borrow.Author.Tests.{lt-ltb, le-ltb}
use Rattle.rows.proofs.RowLaws.{overlay_nil}
use Rattle.bench_values.specs.Values.{hex_word}
use Rattle.bench_values.specs.ValueLaws.{length_hex_bytes}
use Rattle.bench_values.proofs.read_hex.Goals as goal

pub returns-then-is_dash-clause-value : goal.returns-then-is_dash-clause-value
unfolding hex_word
returns-then-is_dash-clause-value c = simp (sym c.is_dash.ensures ∙ c.if-is_dash.true, le-ltb (length c.args.out.now) 0 (omega arith))

pub returns-then-is_dash-clause-out_after : goal.returns-then-is_dash-clause-out_after
unfolding hex_word
returns-then-is_dash-clause-out_after c = simp (sym c.is_dash.ensures ∙ c.if-is_dash.true) (sym (overlay_nil c.args.out.now 0))

pub returns-then-not-is_hex-clause-value : goal.returns-then-not-is_hex-clause-value
unfolding hex_word
returns-then-not-is_hex-clause-value c = simp (sym c.is_dash.ensures ∙ c.if-is_dash.false, sym c.is_hex.ensures ∙ c.if-not-is_hex.true)

pub returns-then-out-n-clause-value : goal.returns-then-out-n-clause-value
unfolding hex_word
returns-then-out-n-clause-value c =
    simp (sym c.is_dash.ensures ∙ c.if-is_dash.false, sym c.is_hex.ensures ∙ c.if-not-is_hex.false, length_hex_bytes, lt-ltb _ _ c.if-out-n.true)

pub returns-else-out-n-clause-value : goal.returns-else-out-n-clause-value
unfolding hex_word
returns-else-out-n-clause-value c =
    simp (sym c.is_dash.ensures ∙ c.if-is_dash.false, sym c.is_hex.ensures ∙ c.if-not-is_hex.false, length_hex_bytes, le-ltb _ _ c.if-out-n.false)

pub returns-else-out-n-clause-out_after : goal.returns-else-out-n-clause-out_after
unfolding hex_word
returns-else-out-n-clause-out_after c = simp (sym c.is_dash.ensures ∙ c.if-is_dash.false, sym c.is_hex.ensures ∙ c.if-not-is_hex.false) c.write_hex.ensures
