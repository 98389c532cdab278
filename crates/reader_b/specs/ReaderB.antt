-- Document 02, T-05: what a Type B reader does with its host's calls and with a row. What the row says is the matter of crate selection_b.
use Rattle.std.specs.Prelude.{ℕ, ◌+◌, Bool, true, false, cond, not, List, [], ◌∷◌, replicate, ltb, Result, Ok, Err}
use Rattle.rows.specs.Rows.{overlay}
use Rattle.frame_b.specs.LimitsB.{frame_room_b}
use Rattle.selection_b.specs.TypeB.{is_slots, marker}
use Rattle.selection_b.specs.HeardB.{entry, read_slot, read_attrib, read_hltb}
use Rattle.refusal.specs.Refusal.{Said, giving, refusal_says, decline_if}
use Rattle.refusal.specs.declared.Refusal.{Refusal}
use Rattle.refusal.specs.declared.Refusal.TheVariants.{Room, Argument, NotDue}
use Rattle.selection_b.specs.declared.Held.{Held}
use Rattle.reader_b.specs.declared.PhaseB.{PhaseB}
use Rattle.reader_b.specs.declared.PhaseB.TheVariants.{Ready, Slot, AttribSent, HltbSent, Stopped}
use Rattle.reader_b.specs.declared.ReaderB.{ReaderB}
use Rattle.reader_b.specs.declared.AnswerB.{AnswerB}
use Rattle.reader_b.specs.declared.AnswerB.TheVariants.{Sends, Marks, Ends, Attached, Halted, Declines}
use Rattle.reader_b.specs.declared.TurnB.{TurnB}

-- ---- readers and turns: what a phase does not need is zero

abbrev pub reader : PhaseB → ℕ → ℕ → ReaderB
reader p n s = record { phase = p; slots = n; slot = s }

abbrev pub blank : PhaseB → ReaderB
blank p = reader p 0 0

abbrev pub is_ready : PhaseB → Bool
is_ready Ready = true
is_ready Slot = false
is_ready AttribSent = false
is_ready HltbSent = false
is_ready Stopped = false

abbrev pub turn : ReaderB → AnswerB → TurnB
turn r a = record { reader = r; answer = a; atqb = replicate 12 0 }

-- declined: "reader stopped"
abbrev pub stop : Refusal → TurnB
stop e = turn (blank Stopped) (Declines e)

-- ---- the host's calls, tested 11, then 6, which leave all unchanged

-- a call of a reader that is ready, else 11
abbrev pub due : ReaderB → TurnB → TurnB
due r t = cond (is_ready r.phase) t (turn r (Declines NotDue))

-- a request with n slots goes out, of 40 bits: what comes back is slot 1
abbrev pub opens : ℕ → TurnB
opens n = turn (reader Slot n 1) (Sends 40)

-- REQB, or WUPB where wake: "N in 1, 2, 4, 8, 16; others are 6"
unfoldable pub requests : ReaderB → Bool → ℕ → ℕ → TurnB
requests r wake n afi = due r (cond (is_slots n) (opens n) (turn r (Declines Argument)))

-- ATTRIB, of 88 bits, to the card of an ATQB, with the reader's own size index: document 01: "index over 8" is 6
unfoldable pub attaches : ReaderB → ℕ → TurnB
attaches r index = due r (cond (ltb 8 index) (turn r (Declines Argument)) (turn (blank AttribSent) (Sends 88)))

-- HLTB, of 56 bits
unfoldable pub halts : ReaderB → TurnB
halts r = due r (turn (blank HltbSent) (Sends 56))

-- ---- a row h is heard

-- the frame that goes out next, in a slot but the first
unfoldable pub next : ReaderB → List ℕ
next r = marker r.slot

-- "one request with all its markers": the markers go out in the order of the slots
unfoldable pub held : ReaderB → Held → List ℕ → TurnB
held r k atqb =
    cond (ltb r.slot r.slots) (record { reader = reader Slot r.slots (r.slot + 1); answer = Marks k; atqb = atqb })
    (record { reader = blank Ready; answer = Ends k; atqb = atqb })

abbrev pub slot_turn : ReaderB → Result Held Refusal → List ℕ → TurnB
slot_turn r (Ok k) atqb = held r k atqb
slot_turn r (Err e) atqb = stop e

abbrev pub attrib_turn : Result ℕ Refusal → TurnB
attrib_turn (Ok m) = turn (blank Ready) (Attached m)
attrib_turn (Err e) = stop e

abbrev pub hltb_turn : Result Unit Refusal → TurnB
hltb_turn (Ok tt) = turn (blank Ready) Halted
hltb_turn (Err e) = stop e

abbrev pub hear_in : PhaseB → ReaderB → List ℕ → TurnB
hear_in Ready r h = turn r (Declines NotDue)
hear_in Slot r h = slot_turn r (read_slot h).says (read_slot h).atqb
hear_in AttribSent r h = attrib_turn (read_attrib h)
hear_in HltbSent r h = hltb_turn (read_hltb h)
hear_in Stopped r h = turn r (Declines NotDue)

unfoldable pub hear : ReaderB → List ℕ → TurnB
hear r h = hear_in r.phase r h

-- ---- calls, with lent room for the frame that goes out

-- 11, then 1; both change nothing
unfoldable pub call_with : Bool → ReaderB → ℕ → TurnB → TurnB
call_with isDue r room t = cond isDue (cond (ltb room frame_room_b) (turn r (Declines Room)) t) (turn r (Declines NotDue))

-- a row is due
abbrev pub awaits : PhaseB → Bool
awaits Ready = false
awaits Slot = true
awaits AttribSent = true
awaits HltbSent = true
awaits Stopped = false

-- a frame is out
abbrev pub goes : AnswerB → Bool
goes (Sends n) = true
goes (Marks k) = true
goes (Ends k) = false
goes (Attached m) = false
goes Halted = false
goes (Declines e) = false

-- the lent row afterwards: the frame that goes out at its front, or unchanged
abbrev pub row_after : AnswerB → List ℕ → List ℕ → List ℕ
row_after (Sends n) frame out = overlay out 0 frame
row_after (Marks k) frame out = overlay out 0 frame
row_after (Ends k) frame out = out
row_after (Attached m) frame out = out
row_after Halted frame out = out
row_after (Declines e) frame out = out

-- ---- what an answer says, in the table's numbers

-- the bits of the frame that goes out; of a slot its 13 bytes of the list; of a card that is attached its MBLI
abbrev pub answer_says : AnswerB → List ℕ → Said
answer_says (Sends n) atqb = giving (n ∷ [])
answer_says (Marks k) atqb = giving (entry k atqb)
answer_says (Ends k) atqb = giving (entry k atqb)
answer_says (Attached m) atqb = giving (m ∷ [])
answer_says Halted atqb = giving []
answer_says (Declines e) atqb = refusal_says e

abbrev pub turn_says : TurnB → Said
turn_says t = answer_says t.answer t.atqb

-- "A call tests 11, 1": a call that is due or not, with a lent row of so many bits, by the rules' turn t
abbrev pub call_says : Bool → ℕ → TurnB → Said
call_says isDue room t = decline_if (not isDue) 11 (decline_if (ltb room frame_room_b) 1 (turn_says t))
