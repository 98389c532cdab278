-- Document 02, T-10: the host's calls of the reader. A call tests 11, 1, 6, which leave all unchanged; else a frame goes out.
use Rattle.std.specs.Prelude.{◌≡◌, ℕ, ◌+◌, ◌-◌, ◌*◌, ◌/◌, ◌%◌, Bool, true, false, cond, not, ◌&&◌, ◌||◌, List, [], ◌∷◌, length, replicate, eqb, leb, ltb}
use Rattle.rows.specs.Rows.{overlay}
use Rattle.frame_b.specs.FrameB.{frame_b}
use Rattle.request_v.specs.Inventory.{most_mask}
use Rattle.sent_v.specs.Sent.{round_bytes, request_bytes}
use Rattle.sent_v.specs.declared.Mode.{Mode}
use Rattle.sent_v.specs.declared.Mode.TheVariants.{Addressed}
use Rattle.sent_v.specs.declared.Round.{Round}
use Rattle.sent_v.specs.declared.Head.{Head}
use Rattle.refusal.specs.Refusal.{Said, giving, refusal_says, decline_if}
use Rattle.refusal.specs.declared.Refusal.TheVariants.{Room, Argument, NotDue}
use Rattle.reader_v.specs.Met.{flags}
use Rattle.reader_v.specs.ReaderV.{blank, at_round, reading, turn, is_ready}
use Rattle.reader_v.specs.declared.PhaseV.TheVariants.{InRound, InSweep, QuietSent, OtherSent}
use Rattle.reader_v.specs.declared.ReaderV.{ReaderV}
use Rattle.reader_v.specs.declared.AnswerR.{AnswerR}
use Rattle.reader_v.specs.declared.AnswerR.TheVariants.{Sends, NextSlot, NextRound, Ends, Quieted, Data, Done, TagError, Declines}
use Rattle.reader_v.specs.declared.TurnV.{TurnV}

-- a call: the room that it asks for, whether its arguments are good, and, if it is made, the frame that goes out and the reader that awaits what comes back
pub record Calling : Type 0 where
  pub asked : ℕ
  pub good : Bool
  pub frame : List ℕ
  pub next : ReaderV

unfoldable pub call_of : ReaderV → ℕ → Calling → TurnV
call_of r room k =
    cond (not (is_ready r.phase)) (turn r (Declines NotDue))
    (cond (ltb room k.asked) (turn r (Declines Room))
    (cond (not k.good) (turn r (Declines Argument))
    (record { reader = k.next; answer = Sends; bits = length k.frame; dsfid = 0; uid = replicate 8 0 })))

-- the lent row afterwards
unfoldable pub call_row : ReaderV → List ℕ → Calling → List ℕ
call_row r out k =
    cond (not (is_ready r.phase)) out (cond (ltb (length out) k.asked) out (cond (not k.good) out (overlay out 0 k.frame)))

-- in the table's numbers: the bits that go out
abbrev pub sent_in : AnswerR → ℕ → Said
sent_in Sends n = giving (n ∷ [])
sent_in (NextSlot k) n = giving []
sent_in (NextRound k) n = giving []
sent_in (Ends k) n = giving []
sent_in Quieted n = giving []
sent_in (Data m) n = giving []
sent_in Done n = giving []
sent_in (TagError e) n = giving []
sent_in (Declines e) n = refusal_says e

abbrev pub call_says : ReaderV → ℕ → Calling → Said
call_says r room k =
    decline_if (not (is_ready r.phase)) 11 (decline_if (ltb room k.asked) 1 (decline_if (not k.good) 6 (giving (length k.frame ∷ []))))

-- what a call promises: q is what it gives, out₁ the lent row afterwards
pub record Called (r : ReaderV) (k : Calling) (out₀ : List ℕ) (q : TurnV) (out₁ : List ℕ) : Type 0 where
  pub turn : q ≡ call_of r (length out₀) k
  pub row : out₁ ≡ call_row r out₀ k
  pub says : sent_in q.answer q.bits ≡ call_says r (length out₀) k

-- ---- frames and arguments

-- the longest request without data has 14 bytes
abbrev pub asked_for : ℕ → ℕ
asked_for n = 112 + 8 * n

-- "inventory with 1 or 16 slots, mask of 0 to 64 or 0 to 60 bits (refusal 6 beyond)"
unfoldable pub is_round : ℕ → ℕ → Bool
is_round slots len = (eqb slots 1 || eqb slots 16) && leb len (most_mask (eqb slots 1))

abbrev pub round_for : Bool → Bool → ℕ → ℕ → List ℕ → Round
round_for one asks afi len mask = record { one = one; asks = asks; afi = afi; len = len; mask = mask }

-- a sweep begins with no mask, and 16 slots
abbrev pub first_round : Bool → ℕ → Round
first_round asks afi = round_for false asks afi 0 (replicate 8 0)

abbrev pub head_for : Mode → List ℕ → Bool → ℕ → Head
head_for m uid option code = record { mode = m; uid = uid; option = option; code = code }

abbrev pub round_frame : Round → List ℕ
round_frame k = frame_b (round_bytes k)

abbrev pub request_frame : Head → List ℕ → List ℕ → List ℕ
request_frame k parameters bytes = frame_b (request_bytes k parameters bytes)

-- one to 256 blocks
unfoldable pub is_count : ℕ → Bool
is_count count = leb 1 count && leb count 256

-- the count as it is sent, less one
unfoldable pub less_one : ℕ → ℕ
less_one count = (count - 1) % 256

-- the data of a write: as many bytes for each block, 1 to 32
unfoldable pub is_filling : ℕ → ℕ → Bool
is_filling count n = is_count count && (eqb (n % count) 0 && (leb 1 (n / count) && leb (n / count) 32))

-- ---- the calls

abbrev pub round_call : Bool → Round → ReaderV → Calling
round_call good k next = record { asked = asked_for 0; good = good; frame = round_frame k; next = next }

abbrev pub request_call : Bool → Head → List ℕ → List ℕ → ReaderV → Calling
request_call good k parameters bytes next = record { asked = asked_for (length bytes); good = good; frame = request_frame k parameters bytes; next = next }

abbrev pub inventory_call : ℕ → ℕ → List ℕ → Bool → ℕ → Calling
inventory_call slots len mask asks afi =
    round_call (is_round slots len) (round_for (eqb slots 1) asks afi len mask) (at_round InRound (round_for (eqb slots 1) asks afi len mask) (replicate flags 0))

abbrev pub sweep_call : Bool → ℕ → Calling
sweep_call asks afi = round_call true (first_round asks afi) (at_round InSweep (first_round asks afi) (replicate flags 0))

-- stay quiet, select: always addressed
abbrev pub quiet_call : List ℕ → Calling
quiet_call uid = request_call true (head_for Addressed uid false 0x02) [] [] (blank QuietSent)

abbrev pub select_call : List ℕ → Calling
select_call uid = request_call true (head_for Addressed uid false 0x25) [] [] (blank OtherSent)

abbrev pub reset_call : Mode → List ℕ → Calling
reset_call m uid = request_call true (head_for m uid false 0x26) [] [] (blank OtherSent)

-- reads: with the Option flag for the status
abbrev pub read_call : Mode → List ℕ → ℕ → Bool → Calling
read_call m uid block status = request_call true (head_for m uid status 0x20) (block ∷ []) [] (reading 0 status)

abbrev pub reads_call : Mode → List ℕ → ℕ → ℕ → Bool → Calling
reads_call m uid first count status = request_call (is_count count) (head_for m uid status 0x23) (first ∷ less_one count ∷ []) [] (reading (less_one count) status)

abbrev pub write_call : Mode → List ℕ → ℕ → List ℕ → Calling
write_call m uid block bytes = request_call (is_filling 1 (length bytes)) (head_for m uid false 0x21) (block ∷ []) bytes (blank OtherSent)

abbrev pub writes_call : Mode → List ℕ → ℕ → ℕ → List ℕ → Calling
writes_call m uid first count bytes =
    request_call (is_filling count (length bytes)) (head_for m uid false 0x24) (first ∷ less_one count ∷ []) bytes (blank OtherSent)

abbrev pub lock_call : Mode → List ℕ → ℕ → Calling
lock_call m uid block = request_call true (head_for m uid false 0x22) (block ∷ []) [] (blank OtherSent)
