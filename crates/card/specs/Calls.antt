-- The card's calls: a new card, and a step of the rules handed back.
use Rattle.std.specs.Prelude.{ℕ, Bool, cond, not, ◌||◌, List, [], ◌∷◌, length, ltb, Option, Some, None, Result, Ok, Err}
use Rattle.refusal.specs.Refusal.{Said, giving, decline_if}
use Rattle.uid.specs.Calls.{new_uid, valid_bytes}
use Rattle.card.specs.Card.{Step, with_state}
use Rattle.refusal.specs.declared.Refusal.TheVariants.{Argument}
use Rattle.uid.specs.declared.Uid.{Uid}
use Rattle.refusal.specs.declared.Refusal.{Refusal}
use Rattle.card.specs.declared.Card.{Card}
use Rattle.card.specs.declared.CardState.TheVariants.{Off}
use Rattle.card.specs.declared.Taken.{Taken}

-- a card without power, of a UID that could be made
abbrev pub card_of : Result Uid Refusal → Bool → ℕ → Result Card Refusal
card_of (Ok u) blocks index = Ok (record { uid = u; blocks = blocks; index = index; state = Off })
card_of (Err e) blocks index = Err e

-- 6: "invalid .. UID, .. index over 8"
unfoldable pub new_card : List ℕ → Bool → ℕ → Result Card Refusal
new_card l blocks index = cond (ltb 8 index) (Err Argument) (card_of (new_uid l) blocks index)

-- .. in the table's numbers
abbrev pub new_card_says : List ℕ → ℕ → Said
new_card_says l index = decline_if (ltb 8 index || not (valid_bytes l)) 6 (giving [])

-- what a card answers by the row that it sends
abbrev pub answer_of : List ℕ → Option ℕ
answer_of [] = None
answer_of (x ∷ r) = Some (length (x ∷ r))

-- the card after a step of the rules, and its answer
abbrev pub taken : Card → Step → Taken
taken c s = record { card = with_state c s.0; answer = answer_of s.1 }

-- the air bits of an answer
abbrev pub bits_in : Option ℕ → ℕ
bits_in (Some n) = n
bits_in None = 0
