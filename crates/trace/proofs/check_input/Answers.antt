use mathlib.Core.Path.{sym, ap₂, ◌∙◌}
use native.Mathlib.Omega.{arith}
use borrow.Author.Tests.{lt-ltb, le-ltb, eqb-true, eqb-false}
use Rattle.rows.specs.Rows.{is_nil}
use Rattle.rows.specs.ListLaws.{is_nil_law}
use Rattle.rows.specs.CleanLaws.{not_nil}
use Rattle.trace_rules.specs.Check.{check, check_log}
use Rattle.trace.specs.ReadLaws.{stamp_is, log_behind}
use Rattle.trace.proofs.check_input.Goals as goal

pub returns-then-input : goal.returns-then-input
unfolding check
returns-then-input c = rw (lt-ltb _ _ c.if-input.true) c.refused.ensures

pub returns-then-is_empty : goal.returns-then-is_empty
unfolding check is_nil
returns-then-is_empty c = let e = eqb-true _ 0 (sym c.is_empty.ensures ∙ c.if-is_empty.true) in
    rw (le-ltb _ _ c.if-input.false, is_nil_law c.args.input.now e) c.refused-then-is_empty.ensures

pub returns-then-mode-gt1 : goal.returns-then-mode-gt1
unfolding check
returns-then-mode-gt1 c = let e = eqb-false _ 0 (sym c.is_empty.ensures ∙ c.if-is_empty.false) in
    rw (le-ltb _ _ c.if-input.false, not_nil c.args.input.now (omega (arith, e)), lt-ltb 1 _ c.if-mode-gt1.true) c.refused-then-mode-gt1.ensures

pub returns : goal.returns
unfolding check
returns c = let e = eqb-false _ 0 (sym c.is_empty.ensures ∙ c.if-is_empty.false) in
    rw (le-ltb _ _ c.if-input.false, not_nil c.args.input.now (omega (arith, e)), le-ltb 1 _ c.if-mode-gt1.false) (c.check_log.ensures ∙ ap₂ check_log (stamp_is _ c.if-mode-gt1.false) (log_behind c.args.input.now))
