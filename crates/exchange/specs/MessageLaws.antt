-- A message that a card's host is told of fits the buffer that was lent. Assumes nothing.
use Rattle.std.specs.Prelude.{◌≡◌, Bool, cond, not, List, ℕ, ◌+◌, ◌≤◌, eqb, ltb}
use Rattle.std.proofs.Math.Path.{refl}
use Rattle.std.proofs.Common.{sym}
use Rattle.std.proofs.Math.Bool.{true, false}
use Rattle.std.specs.Bool.{beq as same}
use native.Mathlib.Omega.{arith}
use Rattle.std.proofs.Math.ListN.{length}
use Rattle.limits.specs.Limits.{row_room}
use Rattle.refusal.specs.declared.Refusal.TheVariants.{NotDue, Room, TooLong}
use Rattle.card.specs.declared.CardState.{CardState}
use Rattle.card.specs.declared.CardState.TheVariants.{Off, Idle, Ready, Active, Halt, ReadyStar, ActiveStar, Protocol}
use Rattle.block.specs.declared.Block.{Block}
use Rattle.block.specs.declared.Block.TheVariants.{I, Ack, Nak, Deselect, Wtx, Unknown, Nothing}
use Rattle.block.specs.declared.Told.{Told}
use Rattle.block.specs.declared.Told.TheVariants.{Quiet, Message, Granted, Deselected, Refused}
use Rattle.block.specs.Block.{heard_block, payload}
use Rattle.block.specs.Cut.{fits}
use Rattle.block.specs.CutLaws.{fits_true}
use Rattle.block.specs.Row.{heard_row}
use Rattle.card_blocks.specs.declared.CardPhase.{CardPhase}
use Rattle.card_blocks.specs.declared.CardPhase.TheVariants.{Receiving, Owing, Waiting, Answering}
use Rattle.card_blocks.specs.declared.CardLink.{CardLink}
use Rattle.card_blocks.specs.declared.CardStep.{CardStep}
use Rattle.card_link.specs.declared.LinkCard.{LinkCard}
use Rattle.card_blocks.specs.CardRules.{card_silent, card_i, card_joins, card_next, card_granted, card_takes_i, card_takes_ack, card_takes_nak, card_rules, owes, card_takes}
use Rattle.card_blocks.specs.CardFrames.{card_out, card_block}
use Rattle.card_blocks.specs.CardLaws.{lent_either}
use Rattle.card_link.specs.CardCalls.{owing, declined, called, takes_outside, takes_inside, takes_in, take_call}

-- how many bytes the message has that a host is told of
abbrev pub message_in : Told → ℕ
message_in (Message n) = n
message_in Quiet = 0
message_in Granted = 0
message_in Deselected = 0
message_in (Refused e) = 0

module _ (c : CardLink) (bytes room len : ℕ) where
  -- a step whose message fits
  abbrev Holds : CardStep → Type 0
  Holds s = message_in s.told ≤ room

  either : (t : Bool) (a b : CardStep) → Holds a → Holds b → Holds (cond t a b)
  either true a b x y = x
  either false a b x y = y

  joins_holds : (n chained : Bool) → c.joined + bytes ≤ room → Holds (card_joins c n chained (c.joined + bytes))
  joins_holds n true h = omega arith
  joins_holds n false h = h

  i_holds : (chained : Bool) → Holds (card_takes_i c chained bytes room)
  unfolding card_takes_i
  i_holds chained = go (fits (c.joined + bytes) room) refl
    where
      go : (t : Bool) → fits (c.joined + bytes) room ≡ t → Holds (cond t (card_joins c (not c.number) chained (c.joined + bytes)) (card_silent c (Refused TooLong)))
      go true e = joins_holds (not c.number) chained (fits_true (c.joined + bytes) room (sym e)).1
      go false e = omega arith

  next_holds : (ph : CardPhase) → Holds (card_next c ph len)
  unfolding card_i
  next_holds Answering = omega arith
  next_holds Receiving = omega arith
  next_holds Owing = omega arith
  next_holds (Waiting v) = omega arith

  granted_holds : (ph : CardPhase) (w : ℕ) → Holds (card_granted c ph w)
  granted_holds (Waiting v) w = either (eqb w v) _ _ (omega arith) (omega arith)
  granted_holds Receiving w = omega arith
  granted_holds Owing w = omega arith
  granted_holds Answering w = omega arith

  rules_hold : (b : Block) → Holds (card_rules c b bytes room len)
  unfolding card_takes_ack card_takes_nak
  rules_hold (I n chained) = i_holds chained
  rules_hold (Ack n) = either (same n c.number) _ _ (omega arith) (next_holds c.phase)
  rules_hold (Nak n) = either (same n c.number) _ _ (omega arith) (omega arith)
  rules_hold Deselect = omega arith
  rules_hold (Wtx w) = granted_holds c.phase w
  rules_hold Unknown = omega arith
  rules_hold Nothing = omega arith

  takes_hold : (b : Block) → Holds (card_takes c b bytes room len)
  unfolding card_takes
  takes_hold b = either (owes c.phase) _ _ (omega arith) (lent_either Holds c len (card_rules c b bytes room len) (omega arith) (omega arith) (rules_hold b))

module _ (x : LinkCard) (f m buffer : List ℕ) where
  takes_in_law : (s : CardState) → message_in (takes_in s x f m buffer).told ≤ length buffer
  unfolding takes_outside takes_inside card_block card_out
  takes_in_law (Protocol i) = takes_hold x.link (length (payload (heard_row x.link.own f))) (length buffer) (length m) (heard_block (heard_row x.link.own f))
  takes_in_law Off = omega arith
  takes_in_law Idle = omega arith
  takes_in_law (Ready l) = omega arith
  takes_in_law Active = omega arith
  takes_in_law Halt = omega arith
  takes_in_law (ReadyStar l) = omega arith
  takes_in_law ActiveStar = omega arith

  pub message_fits : (room : ℕ) → message_in (take_call x f m buffer room).told ≤ length buffer
  unfolding take_call called
  message_fits room = go (not (owing x)) (ltb room row_room)
    where
      go : (d r : Bool)
          → message_in (cond (not d) (declined x buffer NotDue) (cond r (declined x buffer Room) (takes_in x.card.state x f m buffer))).told ≤ length buffer
      go false r = omega arith
      go true true = omega arith
      go true false = takes_in_law x.card.state
