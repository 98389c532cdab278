-- `bench_values::read_row` meets its contract. Assumes nothing.
use lib.ListN.{length}
use mathlib.Core.Path.{sym, ◌∙◌}
use native.Mathlib.Omega.{arith}
use borrow.Author.Tests.{lt-ltb, le-ltb}
use Rattle.rows.proofs.RowLaws.{overlay_nil}
use Rattle.bench_values.specs.Values.{row_word}
use Rattle.bench_values.specs.ValueLaws.{length_row_bits}
use Rattle.bench_values.proofs.read_row.Goals as goal

pub returns-then-is_dash-clause-value : goal.returns-then-is_dash-clause-value
unfolding row_word
returns-then-is_dash-clause-value c = simp (sym c.is_dash.ensures ∙ c.if-is_dash.true, le-ltb (length c.args.out.now) 0 (omega arith))

pub returns-then-is_dash-clause-out_after : goal.returns-then-is_dash-clause-out_after
unfolding row_word
returns-then-is_dash-clause-out_after c = simp (sym c.is_dash.ensures ∙ c.if-is_dash.true) (sym (overlay_nil c.args.out.now 0))

pub returns-then-not-is_row-clause-value : goal.returns-then-not-is_row-clause-value
unfolding row_word
returns-then-not-is_row-clause-value c = simp (sym c.is_dash.ensures ∙ c.if-is_dash.false, sym c.is_row.ensures ∙ c.if-not-is_row.true)

pub returns-then-out-n-clause-value : goal.returns-then-out-n-clause-value
unfolding row_word
returns-then-out-n-clause-value c =
    simp (sym c.is_dash.ensures ∙ c.if-is_dash.false, sym c.is_row.ensures ∙ c.if-not-is_row.false, length_row_bits, lt-ltb _ _ c.if-out-n.true)

pub returns-else-out-n-clause-value : goal.returns-else-out-n-clause-value
unfolding row_word
returns-else-out-n-clause-value c =
    simp (sym c.is_dash.ensures ∙ c.if-is_dash.false, sym c.is_row.ensures ∙ c.if-not-is_row.false, length_row_bits, le-ltb _ _ c.if-out-n.false)

pub returns-else-out-n-clause-out_after : goal.returns-else-out-n-clause-out_after
unfolding row_word
returns-else-out-n-clause-out_after c = simp (sym c.is_dash.ensures ∙ c.if-is_dash.false, sym c.is_row.ensures ∙ c.if-not-is_row.false) c.write_row.ensures
