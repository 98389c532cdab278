-- `card_b::answer::send` meets its contract: the row is empty or it is not. Assumes nothing.
use Rattle.std.proofs.Common.{length, sym, ◌∙◌, eqb-true}
use Rattle.std.proofs.lemmas.Bool.{eqb-false}
use Rattle.card_b.specs.TakenBLaws.{sends_none, sends_some}
use Rattle.card_b.proofs.answer.send.Goals as goal

pub returns-then-is_empty : goal.returns-then-is_empty
returns-then-is_empty c = let a = c.args in record { value = c.silent.ensures ∙ sends_none a.c a.s a.row.now (eqb-true (length a.row.now) 0 (sym c.is_empty.ensures ∙ c.if-is_empty.true)); out_after = c.put.ensures }

pub returns : goal.returns
returns c = let a = c.args in record { value = sends_some a.c _ a.s a.row.now c.with_state.ensures (eqb-false (length a.row.now) 0 (sym c.is_empty.ensures ∙ c.if-is_empty.false)); out_after = c.put.ensures }
