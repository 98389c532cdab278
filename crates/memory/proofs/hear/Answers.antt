-- `memory::hear` meets its contract. Assumes nothing.
use mathlib.Core.Path.{sym, ◌∙◌}
use Rattle.reader.specs.Calls.{row_after}
use Rattle.reader.specs.SakLevelLaws.{completed_valid}
use Rattle.memory.proofs.CallLaws.{hear_not_due, hear_room, hear_due, hear_says_law, heard_valid, refused_row_law, refused_valid}
use borrow.Author.Rules.{rules}
use Rattle.memory.proofs.hear.Goals as goal

pub returns-then-not-is_awaiting : goal.returns-then-not-is_awaiting
returns-then-not-is_awaiting c = let a = c.args in
    let e = c.declines.ensures ∙ sym (hear_not_due a.r a.p a.row.now _ (sym c.is_awaiting.ensures ∙ c.if-not-is_awaiting.true)) in record { value = e; out_after = refused_row_law a.r a.p _ _ a.out.now c.declines.ensures; turn_value = hear_says_law a.r a.p a.row.now _ _ e; completed = refused_valid a.r a.p _ _ c.declines.ensures }

pub returns-then-out-lt-FRAME_ROOM : goal.returns-then-out-lt-FRAME_ROOM
returns-then-out-lt-FRAME_ROOM c = let a = c.args in
    let e = c.declines-then-out-lt-FRAME_ROOM.ensures ∙ sym (hear_room a.r a.p a.row.now _ (sym c.is_awaiting.ensures ∙ c.if-not-is_awaiting.false) c.if-out-lt-FRAME_ROOM.true) in record { value = e; out_after = refused_row_law a.r a.p _ _ a.out.now c.declines-then-out-lt-FRAME_ROOM.ensures; turn_value = hear_says_law a.r a.p a.row.now _ _ e; completed = refused_valid a.r a.p _ _ c.declines-then-out-lt-FRAME_ROOM.ensures }

pub returns : goal.returns
unfolding row_after
returns c = let a = c.args in
    let e = c.hear_rules-m.ensures ∙ sym (hear_due a.r a.p a.row.now _ (sym c.is_awaiting.ensures ∙ c.if-not-is_awaiting.false) c.if-out-lt-FRAME_ROOM.false) in record { value = e; out_after = c.put_sent.ensures; turn_value = hear_says_law a.r a.p a.row.now _ _ e; completed = heard_valid a.r _ a.row.now _ c.hear_rules-m.ensures (completed_valid a.r (search (rules, c.well_formed.0.1.1)) (search (rules, c.well_formed.0.1.1.1.1.1.1.0)) a.row.now) }
