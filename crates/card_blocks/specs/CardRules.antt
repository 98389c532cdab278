-- Document 01, "RATS, ATS and blocks": the card's end. What it does is decided on numbers alone: the block heard, how many bytes its payload,
-- the message buffer and the lent message have.
use Rattle.std.specs.Prelude.{ℕ, ◌+◌, Bool, true, false, cond, not, eqb, leb, ltb}
use Rattle.std.specs.Bool.{beq as same}
use Rattle.refusal.specs.declared.Refusal.TheVariants.{Room, Argument, TooLong, NotDue}
use Rattle.block.specs.declared.Block.{Block}
use Rattle.block.specs.declared.Block.TheVariants.{I, Ack, Nak, Deselect, Wtx, Unknown, Nothing}
use Rattle.block.specs.declared.Told.{Told}
use Rattle.block.specs.declared.Told.TheVariants.{Quiet, Message, Granted, Deselected, Refused}
use Rattle.card_blocks.specs.declared.CardPhase.{CardPhase}
use Rattle.card_blocks.specs.declared.CardPhase.TheVariants.{Receiving, Owing, Waiting, Answering}
use Rattle.card_blocks.specs.declared.CardLink.{CardLink}
use Rattle.card_blocks.specs.declared.CardStep.{CardStep}
use Rattle.limits.specs.Limits.{message_max}
use Rattle.block.specs.Cut.{payload_max, follows, fits}
use Rattle.block.specs.Block.{is_i, wtx_ok}

-- after RATS: "card [starts] at 1"; nothing joined, no block sent
abbrev pub card_open : ℕ → ℕ → CardLink
card_open own reader = record { own = own; reader = reader; number = true; phase = Receiving; last = Nothing; joined = 0; at = 0 }

-- the same card further on
abbrev pub card_at : CardLink → Bool → CardPhase → Block → ℕ → ℕ → CardLink
card_at c n ph last joined at = record { own = c.own; reader = c.reader; number = n; phase = ph; last = last; joined = joined; at = at }

-- silence
abbrev pub card_silent : CardLink → Told → CardStep
card_silent c t = record { link = c; send = Nothing; told = t; joins = false }

-- sends what its link then has as its last block
abbrev pub card_sends : CardLink → CardStep
card_sends c = record { link = c; send = c.last; told = Quiet; joins = false }

-- the I of its answer, of len bytes, that begins at place at
unfoldable pub card_i : CardLink → Bool → ℕ → ℕ → CardStep
card_i c n at len = card_sends (card_at c n (cond more Answering Receiving) (I n more) 0 at)
  where
    more : Bool
    more = follows c.reader at len

-- "The card toggles on every I": n is its number then, end how many bytes are joined. "chained I: R(ACK). Last I: the message is delivered".
-- "An I drops any answer or WTX under way"
abbrev pub card_joins : CardLink → Bool → Bool → ℕ → CardStep
card_joins c n true end = record { link = card_at c n Receiving (Ack n) end 0; send = Ack n; told = Quiet; joins = true }
card_joins c n false end = record { link = card_at c n Owing Nothing 0 0; send = Nothing; told = Message end; joins = true }

-- "R(ACK) of the other number while chaining: next block; otherwise silent, no toggle"
abbrev pub card_next : CardLink → CardPhase → ℕ → CardStep
card_next c Answering len = card_i c (not c.number) (c.at + payload_max c.reader) len
card_next c Receiving len = card_silent c Quiet
card_next c Owing len = card_silent c Quiet
card_next c (Waiting v) len = card_silent c Quiet

-- "is asked again after the reply"; "a WTX answer not asked for or of another value": silence
abbrev pub card_granted : CardLink → CardPhase → ℕ → CardStep
card_granted c (Waiting v) w =
    cond (eqb w v) (card_silent (card_at c c.number Owing Nothing 0 0) Granted) (card_silent c Quiet)
card_granted c Receiving w = card_silent c Quiet
card_granted c Owing w = card_silent c Quiet
card_granted c Answering w = card_silent c Quiet

-- an I whose payload has so many bytes, with a buffer of room bytes: joined, or 10
unfoldable pub card_takes_i : CardLink → Bool → ℕ → ℕ → CardStep
card_takes_i c chained bytes room =
    cond (fits (c.joined + bytes) room) (card_joins c (not c.number) chained (c.joined + bytes)) (card_silent c (Refused TooLong))

-- "R of equal number: last block again; with none sent yet, silent"; R(ACK) of the other number as above
unfoldable pub card_takes_ack : CardLink → Bool → ℕ → CardStep
card_takes_ack c n len = cond (same n c.number) (card_sends c) (card_next c c.phase len)

-- "R(NAK) of the other number: R(ACK)", which then is the last block
unfoldable pub card_takes_nak : CardLink → Bool → CardStep
card_takes_nak c n =
    cond (same n c.number) (card_sends c) (card_sends (card_at c c.number c.phase (Ack c.number) c.joined c.at))

-- The rules, by the block: its payload has so many bytes, the buffer room, the answer len. "DESELECT: its answer, then Halt", with all
-- else dropped; other blocks get silence
abbrev pub card_rules : CardLink → Block → ℕ → ℕ → ℕ → CardStep
card_rules c (I n chained) bytes room len = card_takes_i c chained bytes room
card_rules c (Ack n) bytes room len = card_takes_ack c n len
card_rules c (Nak n) bytes room len = card_takes_nak c n
card_rules c Deselect bytes room len = record { link = card_open c.own c.reader; send = Deselect; told = Deselected; joins = false }
card_rules c (Wtx w) bytes room len = card_granted c c.phase w
card_rules c Unknown bytes room len = card_silent c Quiet
card_rules c Nothing bytes room len = card_silent c Quiet

abbrev pub owes : CardPhase → Bool
owes Owing = true
owes Receiving = false
owes (Waiting v) = false
owes Answering = false

-- A step that sends an I cuts it from the answer that is lent, of len bytes. 1: the answer ends before the place where that I begins; then 10:
-- it is over 4,096 bytes. Nothing is sent and nothing changes. A step that sends no I looks at no answer, so any may be lent
unfoldable pub lent_for : CardLink → ℕ → CardStep → CardStep
lent_for c len s =
    cond (is_i s.send)
    (cond (ltb len s.link.at) (card_silent c (Refused Room)) (cond (ltb message_max len) (card_silent c (Refused TooLong)) s)) s

-- "a card owing its host's answer takes no frame"; else the rules, with the answer that is lent
unfoldable pub card_takes : CardLink → Block → ℕ → ℕ → ℕ → CardStep
card_takes c b bytes room len =
    cond (owes c.phase) (card_silent c (Refused NotDue)) (lent_for c len (card_rules c b bytes room len))

-- the host's answer, of len bytes, goes out
unfoldable pub card_replies : CardLink → ℕ → CardStep
card_replies c len =
    cond (owes c.phase) (cond (leb len message_max) (card_i c c.number 0 len) (card_silent c (Refused TooLong))) (card_silent c (Refused NotDue))

-- "Before its answer's first block the host may ask for WTX with 1 to 59"
unfoldable pub card_asks : CardLink → ℕ → CardStep
card_asks c v =
    cond (owes c.phase) (cond (wtx_ok v) (card_sends (card_at c c.number (Waiting v) (Wtx v) 0 0)) (card_silent c (Refused Argument)))
    (card_silent c (Refused NotDue))
