-- Cases of document 01 as laws of the card's end. Assumes nothing.
use Rattle.std.specs.Prelude.{◌≡◌, refl, ℕ, ◌+◌, ◌<◌, Bool, true, false, cond, not, eqb}
use Rattle.std.proofs.Common.{sym}
use Rattle.std.proofs.lemmas.Bool.{false≢true}
use Rattle.std.specs.Bool.{beq as same}
use Rattle.limits.specs.Limits.{message_max}
use Rattle.refusal.specs.declared.Refusal.TheVariants.{TooLong}
use Rattle.block.specs.declared.Block.{Block}
use Rattle.block.specs.declared.Block.TheVariants.{I, Ack, Nak, Deselect, Wtx, Unknown, Nothing}
use Rattle.block.specs.declared.Told.{Told}
use Rattle.block.specs.declared.Told.TheVariants.{Quiet, Message, Granted, Deselected, Refused}
use Rattle.block.specs.Cut.{fits}
use Rattle.block.specs.CutLaws.{fits_none}
use Rattle.card_blocks.specs.declared.CardPhase.{CardPhase}
use Rattle.card_blocks.specs.declared.CardPhase.TheVariants.{Receiving, Owing, Waiting, Answering}
use Rattle.card_blocks.specs.declared.CardLink.{CardLink}
use Rattle.card_blocks.specs.declared.CardStep.{CardStep}
use Rattle.card_blocks.specs.CardRules.{card_open, card_joins, card_silent, card_i, card_next, card_granted, card_takes_i, card_takes_ack, card_takes_nak, card_rules, owes, card_takes}
use Rattle.card_blocks.specs.CardLaws.{lent_either, lent_any}

-- "message over 4,096 bytes": 10 in a buffer of any size; "card silent, not toggled, its host told"
pub too_long : (c : CardLink) (n chained : Bool) (bytes room len : ℕ) → owes c.phase ≡ false → message_max < c.joined + bytes
    → card_takes c (I n chained) bytes room len ≡ card_silent c (Refused TooLong)
unfolding card_takes card_takes_i
too_long c n chained bytes room len o h = rw (o, sym (fits_none (c.joined + bytes) room h)) (lent_any c len (card_silent c (Refused TooLong)) refl)

-- ---- only DESELECT leaves Protocol

abbrev pub is_deselect : Block → Bool
is_deselect Deselect = true
is_deselect (I n chained) = false
is_deselect (Ack n) = false
is_deselect (Nak n) = false
is_deselect (Wtx v) = false
is_deselect Unknown = false
is_deselect Nothing = false

-- the news that the card leaves Protocol
abbrev pub leaves : Told → Bool
leaves Deselected = true
leaves Quiet = false
leaves (Message n) = false
leaves Granted = false
leaves (Refused e) = false

abbrev Stays : CardStep → Type 0
Stays s = leaves s.told ≡ false

either : (t : Bool) (a b : CardStep) → Stays a → Stays b → Stays (cond t a b)
either true a b x y = x
either false a b x y = y

joins_stays : (c : CardLink) (n chained : Bool) (end : ℕ) → Stays (card_joins c n chained end)
joins_stays c n true end = refl
joins_stays c n false end = refl

next_stays : (c : CardLink) (ph : CardPhase) (len : ℕ) → Stays (card_next c ph len)
unfolding card_i
next_stays c Answering len = refl
next_stays c Receiving len = refl
next_stays c Owing len = refl
next_stays c (Waiting v) len = refl

granted_stays : (c : CardLink) (ph : CardPhase) (w : ℕ) → Stays (card_granted c ph w)
granted_stays c (Waiting v) w = either (eqb w v) _ _ refl refl
granted_stays c Receiving w = refl
granted_stays c Owing w = refl
granted_stays c Answering w = refl

rules_stay : (c : CardLink) (b : Block) (bytes room len : ℕ) → is_deselect b ≡ false → Stays (card_rules c b bytes room len)
unfolding card_takes_i card_takes_ack card_takes_nak
rules_stay c (I n chained) bytes room len e = either (fits (c.joined + bytes) room) _ _ (joins_stays c (not c.number) chained (c.joined + bytes)) refl
rules_stay c (Ack n) bytes room len e = either (same n c.number) _ _ refl (next_stays c c.phase len)
rules_stay c (Nak n) bytes room len e = either (same n c.number) _ _ refl refl
rules_stay c Deselect bytes room len e = absurd (false≢true (sym e))
rules_stay c (Wtx w) bytes room len e = granted_stays c c.phase w
rules_stay c Unknown bytes room len e = refl
rules_stay c Nothing bytes room len e = refl

-- a block that is not DESELECT, silence and damage too, leaves the card in Protocol
pub takes_stay : (c : CardLink) (b : Block) (bytes room len : ℕ) → is_deselect b ≡ false → leaves (card_takes c b bytes room len).told ≡ false
unfolding card_takes
takes_stay c b bytes room len e = either (owes c.phase) _ _ refl (lent_either Stays c len (card_rules c b bytes room len) refl refl (rules_stay c b bytes room len e))

-- DESELECT is answered and leaves it, whatever is under way and whatever is lent
pub deselect_leaves : (c : CardLink) (bytes room len : ℕ) → owes c.phase ≡ false
    → card_takes c Deselect bytes room len ≡ record { link = card_open c.own c.reader; send = Deselect; told = Deselected; joins = false }
unfolding card_takes
deselect_leaves c bytes room len o = rw o (lent_any c len (card_rules c Deselect bytes room len) refl)
