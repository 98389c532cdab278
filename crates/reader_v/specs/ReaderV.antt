-- Document 02, T-10: the reader of vicinity cards: its phases, and what it does with a row. What the row says is the matter of crate answer_v.
use Rattle.std.specs.Prelude.{ℕ, ◌+◌, Bool, true, false, cond, not, ◌&&◌, List, replicate, set, ltb, leb, Result, Ok, Err}
use Rattle.rows.specs.Rows.{is_nil}
use Rattle.sent_v.specs.Sent.{grown_mask}
use Rattle.sent_v.specs.declared.Round.{Round}
use Rattle.answer_v.specs.Heard.{read_slot, read_answer}
use Rattle.answer_v.specs.declared.SlotV.{SlotV}
use Rattle.answer_v.specs.declared.Turn.{Turn}
use Rattle.answer_v.specs.declared.AnswerSays.{AnswerSays}
use Rattle.answer_v.specs.declared.AnswerSays.TheVariants.{Good, Fails, NotGood}
use Rattle.refusal.specs.declared.Refusal.{Refusal}
use Rattle.refusal.specs.declared.Refusal.TheVariants.{Forbidden, NotDue}
use Rattle.selection_b.specs.declared.Held.{Held}
use Rattle.selection_b.specs.declared.Held.TheVariants.{None, One, More}
use Rattle.reader_v.specs.Met.{flags, flag_of, length_of, slot_of, first_met}
use Rattle.reader_v.specs.declared.PhaseV.{PhaseV}
use Rattle.reader_v.specs.declared.PhaseV.TheVariants.{Ready, InRound, InSweep, QuietSent, ReadSent, OtherSent, Stopped}
use Rattle.reader_v.specs.declared.ReaderV.{ReaderV}
use Rattle.reader_v.specs.declared.AnswerR.{AnswerR}
use Rattle.reader_v.specs.declared.AnswerR.TheVariants.{NextSlot, NextRound, Ends, Quieted, Data, Done, TagError, Declines}
use Rattle.reader_v.specs.declared.TurnV.{TurnV}

-- ---- readers and turns: what a phase does not need is zero

abbrev pub no_round : Round
no_round = record { one = false; asks = false; afi = 0; len = 0; mask = replicate 8 0 }

abbrev pub blank : PhaseV → ReaderV
blank p = record { phase = p; round = no_round; slot = 0; count = 0; status = false; met = replicate flags 0 }

-- the first slot of a round, with the slots m that are still to come
abbrev pub at_round : PhaseV → Round → List ℕ → ReaderV
at_round p k m = record { phase = p; round = k; slot = 0; count = 0; status = false; met = m }

-- a read of count + 1 blocks is out
abbrev pub reading : ℕ → Bool → ReaderV
reading count status = record { phase = ReadSent; round = no_round; slot = 0; count = count; status = status; met = replicate flags 0 }

abbrev pub turn : ReaderV → AnswerR → TurnV
turn r a = record { reader = r; answer = a; bits = 0; dsfid = 0; uid = replicate 8 0 }

-- declined: "reader stopped"
abbrev pub stop : Refusal → TurnV
stop e = turn (blank Stopped) (Declines e)

abbrev pub is_ready : PhaseV → Bool
is_ready Ready = true
is_ready InRound = false
is_ready InSweep = false
is_ready QuietSent = false
is_ready ReadSent = false
is_ready OtherSent = false
is_ready Stopped = false

-- a row is due
abbrev pub awaits : PhaseV → Bool
awaits Ready = false
awaits InRound = true
awaits InSweep = true
awaits QuietSent = true
awaits ReadSent = true
awaits OtherSent = true
awaits Stopped = false

-- ---- a slot

-- in a sweep a mask of 60 bits cannot grow
abbrev pub is_deep : Bool → ℕ → Bool
is_deep sweeps len = sweeps && leb 60 len

-- what is awaited
abbrev pub turn_of : Bool → ReaderV → Turn
turn_of sweeps r =
    record { one = r.round.one; deep = is_deep sweeps r.round.len; len = r.round.len; mask = r.round.mask; slot = r.slot }

abbrev pub is_more : Held → Bool
is_more None = false
is_more One = false
is_more More = true

-- the slots that are still to come: this one too, where two tags met in it
unfoldable pub met_after : Bool → ReaderV → Held → List ℕ
met_after sweeps r k = cond (sweeps && is_more k) (set r.met (flag_of r.round.len r.slot) 1) r.met

-- a turn that tells what a slot held
abbrev pub telling : ReaderV → AnswerR → SlotV → TurnV
telling r a s = record { reader = r; answer = a; bits = 0; dsfid = s.dsfid; uid = s.uid }

-- the next slot of the round
abbrev pub next_slot : ReaderV → List ℕ → ReaderV
next_slot r m = record { phase = r.phase; round = r.round; slot = r.slot + 1; count = 0; status = false; met = m }

-- the round of flag i: "lengthening the mask by the slot number wherever two tags met"
unfoldable pub round_of : Round → ℕ → Round
round_of k i =
    record { one = false; asks = k.asks; afi = k.afi; len = length_of i + 4; mask = grown_mask k.mask (length_of i) (slot_of i) }

-- "a round is finished, then its met slots are taken in rising order, each to its end"
unfoldable pub finished : Bool → ReaderV → Held → SlotV → List ℕ → TurnV
finished sweeps r k s m =
    cond (sweeps && ltb (first_met m) flags)
    (telling (at_round InSweep (round_of r.round (first_met m)) (set m (first_met m) 0)) (NextRound k) s)
    (telling (blank Ready) (Ends k) s)

-- of 16 slots the next one, 15 times
unfoldable pub told : Bool → ReaderV → Held → SlotV → TurnV
told sweeps r k s =
    let m : List ℕ = met_after sweeps r k in
    cond (not r.round.one && ltb r.slot 15) (telling (next_slot r m) (NextSlot k) s) (finished sweeps r k s m)

abbrev pub slot_turn : Bool → ReaderV → Result Held Refusal → SlotV → TurnV
slot_turn sweeps r (Ok k) s = told sweeps r k s
slot_turn sweeps r (Err e) s = stop e

unfoldable pub hear_slot : Bool → ReaderV → List ℕ → TurnV
hear_slot sweeps r h = slot_turn sweeps r (read_slot (turn_of sweeps r) h).says (read_slot (turn_of sweeps r) h)

-- ---- other answers

-- "Stay quiet is never answered": as after HLTA, anything but silence is 9
abbrev pub hear_quiet : List ℕ → TurnV
hear_quiet h = cond (is_nil h) (turn (blank Ready) Quieted) (stop Forbidden)

abbrev pub done_answer : Bool → ℕ → AnswerR
done_answer reads n = cond reads (Data n) Done

-- done, or an error of the tag, which is no refusal: the reader is ready
abbrev pub answer_turn : Bool → AnswerSays → TurnV
answer_turn reads (Good n) = turn (blank Ready) (done_answer reads n)
answer_turn reads (Fails e) = turn (blank Ready) (TagError e)
answer_turn reads (NotGood e) = stop e

-- ---- a row h is heard

abbrev pub hear_in : PhaseV → ReaderV → List ℕ → TurnV
hear_in Ready r h = turn r (Declines NotDue)
hear_in InRound r h = hear_slot false r h
hear_in InSweep r h = hear_slot true r h
hear_in QuietSent r h = hear_quiet h
hear_in ReadSent r h = answer_turn true (read_answer true r.count r.status h)
hear_in OtherSent r h = answer_turn false (read_answer false 0 false h)
hear_in Stopped r h = turn r (Declines NotDue)

unfoldable pub hear : ReaderV → List ℕ → TurnV
hear r h = hear_in r.phase r h
