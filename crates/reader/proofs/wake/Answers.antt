-- `reader::wake` meets its contract: 11 and 1 are tested, then the UID. Assumes nothing.
use mathlib.Core.Path.{sym, ◌∙◌}
use Rattle.reader.specs.Calls.{wake_call, row_after}
use Rattle.reader.specs.KnownLaws.{wake_says_law}
use Rattle.reader.specs.StepLaws.{call_not_due, call_room, call_due, row_declined}
use Rattle.reader.proofs.wake.Goals as goal

pub returns-then-not-is_new : goal.returns-then-not-is_new
unfolding wake_call
returns-then-not-is_new c = let a = c.args in
    let e = c.declines.ensures ∙ sym (call_not_due _ a.r _ _ (sym c.is_new.ensures ∙ c.if-not-is_new.true)) in record { value = e; out_after = row_declined _ a.r _ a.out.now c.declines.ensures; result_value = wake_says_law a.r a.bytes.now _ _ e }

pub returns-then-out-lt-FRAME_ROOM : goal.returns-then-out-lt-FRAME_ROOM
unfolding wake_call
returns-then-out-lt-FRAME_ROOM c = let a = c.args in
    let e = c.declines-then-out-lt-FRAME_ROOM.ensures ∙ sym (call_room _ a.r _ _ (sym c.is_new.ensures ∙ c.if-not-is_new.false) c.if-out-lt-FRAME_ROOM.true) in record { value = e; out_after = row_declined _ a.r _ a.out.now c.declines-then-out-lt-FRAME_ROOM.ensures; result_value = wake_says_law a.r a.bytes.now _ _ e }

pub returns : goal.returns
unfolding wake_call row_after
returns c = let a = c.args in
    let n = sym c.is_new.ensures ∙ c.if-not-is_new.false in
    let e = c.wake_turn-t.ensures ∙ sym (call_due _ a.r _ _ n c.if-out-lt-FRAME_ROOM.false) in record { value = e; out_after = c.put_sent.ensures; result_value = wake_says_law a.r a.bytes.now _ _ e }
