-- The reader's calls with lent room for its next frame: 11 is tested first, then 1, and both leave all unchanged.
use Rattle.std.specs.Prelude.{◌≡◌, ℕ, Bool, true, false, cond, not, List, [], ◌∷◌, ltb, Result, Ok, Err}
use Rattle.limits.specs.Limits.{frame_room}
use Rattle.rows.specs.Rows.{overlay}
use Rattle.uid.specs.Uid.{uid_bytes, valid}
use Rattle.refusal.specs.declared.Refusal.{Refusal}
use Rattle.uid.specs.declared.Uid.{Uid}
use Rattle.uid.specs.Calls.{uid_of, new_uid, valid_bytes}
use Rattle.refusal.specs.Refusal.{Said, giving, refusal_says, decline_if}
use Rattle.refusal.specs.declared.Refusal.TheVariants.{Room, Argument, NotDue}
use Rattle.reader.specs.declared.Phase.{Phase}
use Rattle.reader.specs.declared.Phase.TheVariants.{New, ReqaSent, AnticollisionSent, SelectSent, HltaSent, Selected, Finished, Stopped, WupaSent, UidSelectSent}
use Rattle.reader.specs.declared.Reader.{Reader}
use Rattle.reader.specs.declared.Answer.{Answer}
use Rattle.reader.specs.declared.Answer.TheVariants.{Sends, Finds, Selects, Finishes, Declines}
use Rattle.reader.specs.declared.Turn.{Turn}
use Rattle.reader.specs.Reader.{frame, turn, hear, begin, wakes, is_new}

-- a row is awaited
abbrev pub awaits : Phase → Bool
awaits New = false
awaits ReqaSent = true
awaits (AnticollisionSent l) = true
awaits (SelectSent l) = true
awaits HltaSent = true
awaits Selected = false
awaits Finished = false
awaits Stopped = false
awaits WupaSent = true
awaits (UidSelectSent l) = true

-- the call by the rules' turn t, which is due or not
unfoldable pub call : Bool → Reader → Turn → ℕ → Turn
call due r t room =
    cond (not due) (turn r (Declines NotDue))
    (cond (ltb room frame_room) (turn r (Declines Room)) t)

unfoldable pub hear_call : Reader → List ℕ → ℕ → Turn
hear_call r h room = call (awaits r.phase) r (hear r h) room

unfoldable pub begin_call : Bool → Reader → ℕ → Turn
begin_call s r room = call (is_new r.phase) r (begin s) room

-- T-03: "(invalid: 6)", after 11 and 1: the bytes are not those of a valid UID
abbrev pub wake_made : Reader → Result Uid Refusal → Turn
wake_made r (Ok u) = wakes u
wake_made r (Err e) = turn r (Declines Argument)

unfoldable pub wake_turn : Reader → List ℕ → Turn
wake_turn r l = wake_made r (new_uid l)

unfoldable pub wake_call : Reader → List ℕ → ℕ → Turn
wake_call r l room = call (is_new r.phase) r (wake_turn r l) room

-- ---- what an answer says, in the table's numbers

-- the next frame's air bits; of a card that is found or selected its last SAK and the bytes of its UID
abbrev pub answer_says : Answer → Reader → Said
answer_says (Sends n) r = giving (n ∷ [])
answer_says (Finds n) r = giving (n ∷ r.sak ∷ uid_bytes r.uid)
answer_says Selects r = giving (r.sak ∷ uid_bytes r.uid)
answer_says Finishes r = giving []
answer_says (Declines e) r = refusal_says e

abbrev pub turn_says : Turn → Said
turn_says t = answer_says t.answer t.reader

-- "A call tests 11, 1": a call that is due or not, with a lent row of so many bits, by the rules' turn t
abbrev pub call_says : Bool → Turn → ℕ → Said
call_says due t room = decline_if (not due) 11 (decline_if (ltb room frame_room) 1 (turn_says t))

abbrev pub hear_says : Reader → List ℕ → ℕ → Said
hear_says r h room = call_says (awaits r.phase) (hear r h) room

abbrev pub begin_says : Bool → Reader → ℕ → Said
begin_says s r room = call_says (is_new r.phase) (begin s) room

abbrev pub wake_says : Reader → List ℕ → ℕ → Said
wake_says r l room =
    decline_if (not (is_new r.phase)) 11
    (decline_if (ltb room frame_room) 1
    (decline_if (not (valid_bytes l)) 6
    (turn_says (wakes (uid_of l)))))

-- T-04: a UID that an answer completes is valid
abbrev pub Completed : Answer → Reader → Type 0
Completed (Sends n) r = Unit {0}
Completed (Finds n) r = valid r.uid ≡ true
Completed Selects r = valid r.uid ≡ true
Completed Finishes r = Unit {0}
Completed (Declines e) r = Unit {0}

-- ---- the lent row

-- what a turn sends
abbrev pub sent_by : Answer → Reader → List ℕ
sent_by (Sends n) r = frame r
sent_by (Finds n) r = frame r
sent_by Selects r = []
sent_by Finishes r = []
sent_by (Declines e) r = []

-- the lent row afterwards
unfoldable pub row_after : Turn → List ℕ → List ℕ
row_after t out = overlay out 0 (sent_by t.answer t.reader)
