use Rattle.reader.specs.Calls.{hear_call, row_after}
use Rattle.reader.specs.SakLevelLaws.{completed_valid, call_completed}
use Rattle.reader.specs.StepLaws.{call_not_due, call_room, call_due, call_says_law, row_declined}
use mathlib.Core.Path.{sym, ◌∙◌}
use borrow.Author.Rules.{rules}
use Rattle.reader.proofs.hear.Goals as goal

pub returns-then-not-is_awaiting : goal.returns-then-not-is_awaiting
unfolding hear_call
returns-then-not-is_awaiting c = let a = c.args in
    let e = c.declines.ensures ∙ sym (call_not_due _ a.r _ _ (sym c.is_awaiting.ensures ∙ c.if-not-is_awaiting.true)) in record { value = e; out_after = row_declined _ a.r _ a.out.now c.declines.ensures; result_value = call_says_law _ a.r _ _ _ e; completed = call_completed _ a.r _ _ _ e (completed_valid a.r (search rules) (search rules) a.row.now) }

pub returns-then-out-lt-FRAME_ROOM : goal.returns-then-out-lt-FRAME_ROOM
unfolding hear_call
returns-then-out-lt-FRAME_ROOM c = let a = c.args in
    let e = c.declines-then-out-lt-FRAME_ROOM.ensures ∙ sym (call_room _ a.r _ _ (sym c.is_awaiting.ensures ∙ c.if-not-is_awaiting.false) c.if-out-lt-FRAME_ROOM.true) in record { value = e; out_after = row_declined _ a.r _ a.out.now c.declines-then-out-lt-FRAME_ROOM.ensures; result_value = call_says_law _ a.r _ _ _ e; completed = call_completed _ a.r _ _ _ e (completed_valid a.r (search rules) (search rules) a.row.now) }

pub returns : goal.returns
unfolding hear_call row_after
returns c = let a = c.args in
    let e = c.hear_rules-t.ensures ∙ sym (call_due _ a.r _ _ (sym c.is_awaiting.ensures ∙ c.if-not-is_awaiting.false) c.if-out-lt-FRAME_ROOM.false) in record { value = e; out_after = c.put_sent.ensures; result_value = call_says_law _ a.r _ _ _ e; completed = call_completed _ a.r _ _ _ e (completed_valid a.r (search rules) (search (rules, c.well_formed.0.1.1.1.1.1.1.0)) a.row.now) }
