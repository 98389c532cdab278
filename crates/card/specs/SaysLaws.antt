-- What a new card says in the table's numbers: 6 for a UID that is not valid or an index over 8, and only then. Assumes nothing.
use Rattle.std.specs.Prelude.{◌≡◌, refl, ℕ, Bool, true, false, cond, not, ◌||◌, List, [], ltb, Result, Ok, Err}
use Rattle.std.proofs.Common.{sym, ap, ◌∙◌}
use Rattle.refusal.specs.Refusal.{giving, declining, decline_if, made_says}
use Rattle.refusal.specs.declared.Refusal.{Refusal}
use Rattle.refusal.specs.declared.Refusal.TheVariants.{Argument}
use Rattle.uid.specs.Calls.{new_uid, valid_bytes}
use Rattle.uid.specs.SaysLaws.{new_says_law}
use Rattle.uid.specs.declared.Uid.{Uid}
use Rattle.card.specs.declared.Card.{Card}
use Rattle.card.specs.Calls.{card_of, new_card, new_card_says}

made_card : (blocks : Bool) (index : ℕ) (m : Result Uid Refusal) (v : Bool) → made_says m ≡ decline_if (not v) 6 (giving [])
    → made_says (card_of m blocks index) ≡ decline_if (not v) 6 (giving [])
made_card blocks index (Ok u) v e = e
made_card blocks index (Err x) v e = e

card_says_law : (l : List ℕ) (blocks : Bool) (index : ℕ) (r : Result Card Refusal) → r ≡ new_card l blocks index → made_says r ≡ new_card_says l index
unfolding new_card
card_says_law l blocks index r e = ap made_says e ∙ go (ltb 8 index) ∙ sym (apart (ltb 8 index))
  where
    go : (b : Bool) → made_says (cond b (Err Argument) (card_of (new_uid l) blocks index)) ≡ cond b (declining 6) (decline_if (not (valid_bytes l)) 6 (giving []))
    go true = refl
    go false = made_card blocks index (new_uid l) (valid_bytes l) (new_says_law l)

    apart : (b : Bool) → decline_if (b || not (valid_bytes l)) 6 (giving []) ≡ cond b (declining 6) (decline_if (not (valid_bytes l)) 6 (giving []))
    apart true = refl
    apart false = refl

-- a card that is made as the definition makes it says what the definition says
pub card_made : (l : List ℕ) (blocks : Bool) (index : ℕ) (r : Result Card Refusal) → r ≡ new_card l blocks index → (r ≡ new_card l blocks index) × (made_says r ≡ new_card_says l index)
card_made l blocks index r e = (e, card_says_law l blocks index r e)
