-- "Protocol: blocks, below. DESELECT: its answer, then Halt": only DESELECT leaves Protocol. Assumes nothing.
use Rattle.std.specs.Prelude.{◌≡◌, ℕ, ◌≤◌, Bool, cond, not, List, [], length, ltb}
use Rattle.std.proofs.Math.Path.{refl, ap}
use Rattle.std.proofs.Common.{sym, ◌∙◌}
use Rattle.std.proofs.Math.Bool.{true, false}
use Rattle.std.proofs.lemmas.Bool.{false≢true}
use borrow.Author.Tests.{le-ltb}
use Rattle.limits.specs.Limits.{row_room}
use Rattle.refusal.specs.declared.Refusal.TheVariants.{Room, NotDue}
use Rattle.frame.specs.Frame.{Verdict}
use Rattle.card.specs.Card.{with_state}
use Rattle.card.specs.declared.Card.{Card}
use Rattle.card.specs.declared.CardState.TheVariants.{Halt, Protocol}
use Rattle.block.specs.declared.Block.TheVariants.{Deselect}
use Rattle.block.specs.declared.Told.{Told}
use Rattle.block.specs.declared.Told.TheVariants.{Quiet, Message, Granted, Deselected, Refused}
use Rattle.block.specs.Block.{heard_block, payload, block_bytes}
use Rattle.block.specs.Row.{block_row, heard_row}
use Rattle.card_blocks.specs.declared.CardLink.{CardLink}
use Rattle.card_blocks.specs.declared.CardStep.{CardStep}
use Rattle.card_blocks.specs.CardRules.{owes, card_takes}
use Rattle.card_blocks.specs.CardFrames.{card_out, card_block}
use Rattle.card_blocks.specs.CaseLaws.{is_deselect, leaves, takes_stay, deselect_leaves}
use Rattle.card_link.specs.declared.LinkCard.{LinkCard}
use Rattle.card_link.specs.CardCalls.{no_link, left_by, takes_inside, takes_in, owing, declined, called, take_call}

-- news that does not leave Protocol changes nothing but the link
pub left_stays : (t : Told) (c : Card) (l : CardLink) → leaves t ≡ false → left_by t c l ≡ record { card = c; link = l }
left_stays Quiet c l e = refl
left_stays (Message n) c l e = refl
left_stays Granted c l e = refl
left_stays Deselected c l e = absurd (false≢true (sym e))
left_stays (Refused r) c l e = refl

module _ (x : LinkCard) (i : ℕ) (s : x.card.state ≡ Protocol i) (f m buffer : List ℕ) (room : ℕ) where
  inside_stays : is_deselect (heard_block (heard_row x.link.own f)) ≡ false → (takes_inside x f m buffer).link.card ≡ x.card
  unfolding takes_inside card_block card_out
  inside_stays e =
      let v : Verdict = heard_row x.link.own f in
      let z : CardStep = card_takes x.link (heard_block v) (length (payload v)) (length buffer) (length m) in
      ap (λ (y : LinkCard). y.card) (left_stays z.told x.card z.link (takes_stay x.link (heard_block v) (length (payload v)) (length buffer) (length m) e))

  -- any other frame, block or none, damaged or not, leaves the card in Protocol, and all of it but its link
  pub stays : is_deselect (heard_block (heard_row x.link.own f)) ≡ false → (take_call x f m buffer room).link.card ≡ x.card
  unfolding take_call called
  stays e = go (not (owing x)) (ltb room row_room)
    where
      go : (d r : Bool) → (cond (not d) (declined x buffer NotDue) (cond r (declined x buffer Room) (takes_in x.card.state x f m buffer))).link.card ≡ x.card
      go false r = refl
      go true true = refl
      go true false = ap (λ t. (takes_in t x f m buffer).link.card) s ∙ inside_stays e

  -- DESELECT is answered, whatever the host lends, and the card halts and has no link
  pub deselected : owes x.link.phase ≡ false → row_room ≤ room → heard_block (heard_row x.link.own f) ≡ Deselect
      → ((take_call x f m buffer room).link ≡ record { card = with_state x.card Halt; link = no_link })
      × ((take_call x f m buffer room).sent ≡ block_row (block_bytes Deselect []))
  unfolding take_call called takes_inside card_block card_out
  deselected o h e = rw (s, o, le-ltb room row_room h, e, deselect_leaves x.link (length (payload (heard_row x.link.own f))) (length buffer) (length m) o) (refl, refl)
