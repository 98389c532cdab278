-- Document 02, T-10: the call with which the reader hears a row, with lent room for a read's data and for the frame that goes out.
use Rattle.std.specs.Prelude.{ℕ, ◌+◌, ◌*◌, Bool, cond, not, ◌||◌, List, [], ◌∷◌, length, drop, ltb}
use Rattle.rows.specs.Rows.{overlay}
use Rattle.frame.specs.Frame.{bytes_of}
use Rattle.selection_b.specs.HeardB.{held_number}
use Rattle.refusal.specs.Refusal.{Said, giving, refusal_says, decline_if}
use Rattle.refusal.specs.declared.Refusal.TheVariants.{Room, NotDue}
use Rattle.reader_v.specs.ReaderV.{turn, awaits, hear}
use Rattle.reader_v.specs.CallsV.{round_frame}
use Rattle.reader_v.specs.declared.PhaseV.{PhaseV}
use Rattle.reader_v.specs.declared.PhaseV.TheVariants.{Ready, InRound, InSweep, QuietSent, ReadSent, OtherSent, Stopped}
use Rattle.reader_v.specs.declared.ReaderV.{ReaderV}
use Rattle.reader_v.specs.declared.AnswerR.{AnswerR}
use Rattle.reader_v.specs.declared.AnswerR.TheVariants.{Sends, NextSlot, NextRound, Ends, Quieted, Data, Done, TagError, Declines}
use Rattle.reader_v.specs.declared.TurnV.{TurnV}

-- ---- what a turn sends and hands over

-- the frame that goes out: a sweep's next round
abbrev pub out_in : AnswerR → ReaderV → List ℕ
out_in Sends r = []
out_in (NextSlot k) r = []
out_in (NextRound k) r = round_frame r.round
out_in (Ends k) r = []
out_in Quieted r = []
out_in (Data n) r = []
out_in Done r = []
out_in (TagError e) r = []
out_in (Declines e) r = []

unfoldable pub out_frame : TurnV → List ℕ
out_frame t = out_in t.answer t.reader

-- the bytes of a read: all behind the flags
abbrev pub data_in : AnswerR → List ℕ → List ℕ
data_in Sends h = []
data_in (NextSlot k) h = []
data_in (NextRound k) h = []
data_in (Ends k) h = []
data_in Quieted h = []
data_in (Data n) h = bytes_of n (drop 8 h)
data_in Done h = []
data_in (TagError e) h = []
data_in (Declines e) h = []

abbrev pub with_bits : TurnV → ℕ → TurnV
with_bits t n = record { reader = t.reader; answer = t.answer; bits = n; dsfid = t.dsfid; uid = t.uid }

abbrev pub sized : TurnV → TurnV
sized t = with_bits t (length (out_frame t))

-- ---- the call

-- where a read is awaited, room for its blocks at their longest, each with its status byte if that was asked for
abbrev pub data_room : PhaseV → ReaderV → ℕ
data_room Ready r = 0
data_room InRound r = 0
data_room InSweep r = 0
data_room QuietSent r = 0
data_room ReadSent r = (r.count + 1) * cond r.status 33 32
data_room OtherSent r = 0
data_room Stopped r = 0

unfoldable pub is_short : ReaderV → ℕ → ℕ → Bool
is_short r room out = ltb room (data_room r.phase r) || ltb out 112

-- 11, then 1; both change nothing
unfoldable pub hear_call : ReaderV → List ℕ → ℕ → ℕ → TurnV
hear_call r h room out =
    cond (not (awaits r.phase)) (turn r (Declines NotDue)) (cond (is_short r room out) (turn r (Declines Room)) (sized (hear r h)))

unfoldable pub heard_data : ReaderV → List ℕ → List ℕ → List ℕ → List ℕ
heard_data r h bytes out =
    cond (not (awaits r.phase)) bytes (cond (is_short r (length bytes) (length out)) bytes (overlay bytes 0 (data_in (hear r h).answer h)))

unfoldable pub heard_row : ReaderV → List ℕ → List ℕ → List ℕ → List ℕ
heard_row r h bytes out =
    cond (not (awaits r.phase)) out (cond (is_short r (length bytes) (length out)) out (overlay out 0 (out_frame (hear r h))))

-- ---- in the table's numbers

-- of a slot 0, 1 or 2 for none, one, more, then DSFID and UID; of a read how many bytes; of a tag's error its code
abbrev pub answer_says : AnswerR → ℕ → List ℕ → Said
answer_says Sends dsfid uid = giving []
answer_says (NextSlot k) dsfid uid = giving (held_number k ∷ dsfid ∷ uid)
answer_says (NextRound k) dsfid uid = giving (held_number k ∷ dsfid ∷ uid)
answer_says (Ends k) dsfid uid = giving (held_number k ∷ dsfid ∷ uid)
answer_says Quieted dsfid uid = giving []
answer_says (Data n) dsfid uid = giving (n ∷ [])
answer_says Done dsfid uid = giving []
answer_says (TagError e) dsfid uid = giving (e ∷ [])
answer_says (Declines e) dsfid uid = refusal_says e

abbrev pub turn_says : TurnV → Said
turn_says t = answer_says t.answer t.dsfid t.uid

abbrev pub hear_says : ReaderV → List ℕ → ℕ → ℕ → Said
hear_says r h room out = decline_if (not (awaits r.phase)) 11 (decline_if (is_short r room out) 1 (turn_says (hear r h)))
