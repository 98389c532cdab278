-- `air_log::within::bit` meets its contract. Assumes nothing.
use Rattle.std.proofs.Common.{sym, ap, ◌∙◌, arith, ltb-false}
use lib.ListN.{get_or-eq_default}
use borrow.Author.Rules.{rules}
use Rattle.air_log.specs.Calls.{is_marks, shown_bit, shown}
use Rattle.air_log.specs.PackLaws.{shown_at, length_shown}
use Rattle.air_log.proofs.within.bit.Goals as goal

pub returns-in-Some : goal.returns-in-Some
returns-in-Some c = let a = c.args in
    c.shown_bit.ensures ∙ ap (shown_bit (is_marks a.part)) (search rules) ∙ sym (shown_at (is_marks a.part) a.row.now a.i)

pub returns-in-None : goal.returns-in-None
returns-in-None c = let a = c.args in
    sym (get_or-eq_default (shown (is_marks a.part) a.row.now) 0 (omega (arith, ltb-false _ _ (sym c.in-None.ensures.lookup.0), length_shown (is_marks a.part) a.row.now)))
