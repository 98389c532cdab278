-- Document 01, "RATS, ATS and blocks": the reader's end. What it does is decided on numbers alone: the block heard, how many bytes its payload,
-- the message buffer and the lent message have.
use Rattle.std.specs.Prelude.{ℕ, ◌+◌, ◌%◌, Bool, true, false, cond, not, ◌&&◌, leb, ltb}
use Rattle.std.specs.Bool.{beq as same}
use Rattle.refusal.specs.declared.Refusal.{Refusal}
use Rattle.refusal.specs.declared.Refusal.TheVariants.{Room, Forbidden, TooLong, NotDue, Repeats}
use Rattle.block.specs.declared.Block.{Block}
use Rattle.block.specs.declared.Block.TheVariants.{I, Ack, Nak, Deselect, Wtx, Unknown, Nothing}
use Rattle.block.specs.declared.Told.TheVariants.{Quiet, Message, Deselected, Refused}
use Rattle.reader_blocks.specs.declared.ReaderPhase.{ReaderPhase}
use Rattle.reader_blocks.specs.declared.ReaderPhase.TheVariants.{Open, Talking, Leaving, Finished, Stopped}
use Rattle.reader_blocks.specs.declared.Turn.{Turn}
use Rattle.reader_blocks.specs.declared.Turn.TheVariants.{Sending, Awaiting, Joining}
use Rattle.reader_blocks.specs.declared.ReaderLink.{ReaderLink}
use Rattle.reader_blocks.specs.declared.ReaderStep.{ReaderStep}
use Rattle.limits.specs.Limits.{message_max}
use Rattle.block.specs.Cut.{payload_max, follows, fits}
use Rattle.block.specs.Block.{is_i, wtx_ok}

-- between messages, with block number n
abbrev pub reader_open : ℕ → ℕ → Bool → ReaderLink
reader_open own card n = record { own = own; card = card; number = n; phase = Open; at = 0; joined = 0; again = 0; repeats = 0 }

-- a reader with which nothing more is due; it holds nothing
abbrev pub reader_done : ReaderPhase → ReaderLink
reader_done ph = record { own = 0; card = 0; number = false; phase = ph; at = 0; joined = 0; again = 0; repeats = 0 }

-- the same reader further on
abbrev pub reader_at : ReaderLink → Bool → ReaderPhase → ℕ → ℕ → ℕ → ℕ → ReaderLink
reader_at r n ph at joined again repeats =
    record { own = r.own; card = r.card; number = n; phase = ph; at = at; joined = joined; again = again; repeats = repeats }

-- declined, and nothing changes
abbrev pub reader_keeps : ReaderLink → Refusal → ReaderStep
reader_keeps r e = record { link = r; send = Nothing; told = Refused e; joins = false }

-- declined, and the reader stopped
abbrev pub stops : Refusal → ReaderStep
stops e = record { link = reader_done Stopped; send = Nothing; told = Refused e; joins = false }

abbrev pub reader_sends : ReaderLink → Block → ReaderStep
reader_sends r b = record { link = r; send = b; told = Quiet; joins = false }

-- the I of its message, of len bytes, that begins at place at
unfoldable pub reader_i : ReaderLink → Bool → ℕ → ℕ → ReaderStep
reader_i r n at len = reader_sends (reader_at r n (Talking (cond more Sending Awaiting)) at 0 0 0) (I n more)
  where
    more : Bool
    more = follows r.card at len

-- "the last I again, at most twice for that I, then 9"
unfoldable pub reader_again : ReaderLink → Turn → Bool → ReaderStep
reader_again r t chained =
    cond (ltb r.again 2) (reader_sends (reader_at r r.number (Talking t) r.at r.joined (r.again + 1) 0) (I r.number chained))
    (stops Forbidden)

-- R(ACK) of the own number "while the reader has more to send: next I"
abbrev pub ack_own : ReaderLink → Turn → ℕ → ReaderStep
ack_own r Sending len = reader_i r (not r.number) (r.at + payload_max r.card) len
ack_own r Awaiting len = stops Forbidden
ack_own r Joining len = stops Forbidden

-- R(ACK) of the other number "before any I of the awaited answer has come: the last I again"
abbrev pub ack_other : ReaderLink → Turn → ReaderStep
ack_other r Sending = reader_again r Sending true
ack_other r Awaiting = reader_again r Awaiting false
ack_other r Joining = stops Forbidden

-- "joined, and R(ACK) if chained"; the reader toggles
abbrev pub reader_joins : ReaderLink → Bool → Bool → ℕ → ReaderStep
reader_joins r n true end = record { link = reader_at r n (Talking Joining) 0 end 0 0; send = Ack n; told = Quiet; joins = true }
reader_joins r n false end = record { link = reader_open r.own r.card n; send = Nothing; told = Message end; joins = true }

-- "I of the own number once its last I is out"
abbrev pub last_is_out : Turn → Bool
last_is_out Sending = false
last_is_out Awaiting = true
last_is_out Joining = true

-- "Silence or a damaged frame: R(NAK), or R(ACK) again while the card is chaining"
abbrev pub asks_again : Turn → Bool → Block
asks_again Sending n = Nak n
asks_again Awaiting n = Nak n
asks_again Joining n = Ack n

-- ".. at most twice running; then 12"
unfoldable pub reader_repeats : ReaderLink → ReaderPhase → Block → ReaderStep
reader_repeats r ph b =
    cond (ltb r.repeats 2) (reader_sends (reader_at r r.number ph r.at r.joined r.again (r.repeats + 1)) b)
    (stops Repeats)

-- "WTX 1 to 59 is echoed, its two top bits cleared; other values 9"
unfoldable pub reader_echoes : ReaderLink → Turn → ℕ → ReaderStep
reader_echoes r t v =
    cond (wtx_ok (v % 64)) (reader_sends (reader_at r r.number (Talking t) r.at r.joined r.again 0) (Wtx (v % 64)))
    (stops Forbidden)

-- an I is due: "I of the own number once its last I is out"
abbrev pub awaits_i : ReaderLink → Turn → Bool → Bool
awaits_i r t n = same n r.number && last_is_out t

-- an I whose payload has so many bytes, with a buffer of room bytes: joined, or 10; not due: 9
unfoldable pub reader_takes_i : ReaderLink → Turn → Bool → Bool → ℕ → ℕ → ReaderStep
reader_takes_i r t n chained bytes room =
    cond (awaits_i r t n)
    (cond (fits (r.joined + bytes) room) (reader_joins r (not r.number) chained (r.joined + bytes)) (stops TooLong))
    (stops Forbidden)

unfoldable pub reader_takes_ack : ReaderLink → Turn → Bool → ℕ → ReaderStep
reader_takes_ack r t n len = cond (same n r.number) (ack_own r t len) (ack_other r t)

-- The rules, by the block: its payload has so many bytes, the buffer room, the message len. "Any other block or block length ..: 9"
abbrev pub reader_rules : ReaderLink → Turn → Block → ℕ → ℕ → ℕ → ReaderStep
reader_rules r t (I n chained) bytes room len = reader_takes_i r t n chained bytes room
reader_rules r t (Ack n) bytes room len = reader_takes_ack r t n len
reader_rules r t (Nak n) bytes room len = stops Forbidden
reader_rules r t Deselect bytes room len = stops Forbidden
reader_rules r t (Wtx v) bytes room len = reader_echoes r t v
reader_rules r t Unknown bytes room len = stops Forbidden
reader_rules r t Nothing bytes room len = reader_repeats r (Talking t) (asks_again t r.number)

-- "or DESELECT again"; "after DESELECT all but C2: 9"
abbrev pub reader_leaves : ReaderLink → Block → ReaderStep
reader_leaves r Deselect = record { link = reader_done Finished; send = Nothing; told = Deselected; joins = false }
reader_leaves r Nothing = reader_repeats r Leaving Deselect
reader_leaves r (I n chained) = stops Forbidden
reader_leaves r (Ack n) = stops Forbidden
reader_leaves r (Nak n) = stops Forbidden
reader_leaves r (Wtx v) = stops Forbidden
reader_leaves r Unknown = stops Forbidden

-- A step that sends an I cuts it from the message that is lent, of len bytes. 1: the message ends before the place where that I begins; then 10:
-- it is over 4,096 bytes. Nothing is sent and nothing changes. A step that sends no I looks at no message, so any may be lent
unfoldable pub lent_for : ReaderLink → ℕ → ReaderStep → ReaderStep
lent_for r len s =
    cond (is_i s.send) (cond (ltb len s.link.at) (reader_keeps r Room) (cond (ltb message_max len) (reader_keeps r TooLong) s)) s

-- a frame is due while a block or DESELECT's answer is awaited
abbrev pub reader_takes : ReaderLink → ReaderPhase → Block → ℕ → ℕ → ℕ → ReaderStep
reader_takes r (Talking t) b bytes room len = lent_for r len (reader_rules r t b bytes room len)
reader_takes r Leaving b bytes room len = reader_leaves r b
reader_takes r Open b bytes room len = reader_keeps r NotDue
reader_takes r Finished b bytes room len = reader_keeps r NotDue
reader_takes r Stopped b bytes room len = reader_keeps r NotDue

abbrev pub is_open : ReaderPhase → Bool
is_open Open = true
is_open (Talking t) = false
is_open Leaving = false
is_open Finished = false
is_open Stopped = false

-- between messages the host's message, of len bytes, is due
unfoldable pub reader_starts : ReaderLink → ℕ → ReaderStep
reader_starts r len =
    cond (is_open r.phase) (cond (leb len message_max) (reader_i r r.number 0 len) (reader_keeps r TooLong)) (reader_keeps r NotDue)

-- .. and its DESELECT
unfoldable pub reader_parts : ReaderLink → ReaderStep
reader_parts r = cond (is_open r.phase) (reader_sends (reader_at r r.number Leaving 0 0 0 0) Deselect) (reader_keeps r NotDue)
