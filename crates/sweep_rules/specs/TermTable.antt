-- Document 01, "When the core declines", row 6: which fields a sweep takes, one case for each of its words. A table of theorems on the definition.
use Rattle.std.specs.Prelude.{◌≡◌, refl, ℕ, zero, suc, true, false, List, [], ◌∷◌}
use Rattle.limits.specs.Limits.{most_cards}
use Rattle.rows.specs.Rows.{any, same}
use Rattle.uid.specs.Uid.{valid, uid_bytes}
use Rattle.sweep_rules.specs.Terms.{card_fits, all_fit, apart, within}
use Rattle.uid.specs.declared.Level.TheVariants.{One}
use Rattle.uid.specs.declared.UidSize.{UidSize}
use Rattle.uid.specs.declared.UidSize.TheVariants.{Single, Double, Triple}
use Rattle.card.specs.declared.Card.{Card}
use Rattle.card.specs.declared.CardState.{CardState}
use Rattle.card.specs.declared.CardState.TheVariants.{Off, Idle, Ready, Active, Halt, ReadyStar, ActiveStar, Protocol}

-- a card, by its UID's size, its u0 and u3, its size index and its state
abbrev card : UidSize → ℕ → ℕ → ℕ → CardState → Card
card z first fourth index s =
    record { uid = record { size = z; bytes = first ∷ 2 ∷ 3 ∷ fourth ∷ 5 ∷ 6 ∷ 7 ∷ 8 ∷ 9 ∷ 10 ∷ [] }; blocks = true; index = index; state = s }

-- a card that a sweep takes, in a state and with a size index
abbrev of : CardState → ℕ → Card
of s index = card Single 1 4 index s

-- n cards with different UIDs
unfoldable pub many : ℕ → List Card
many zero = []
many (suc k) = card Single k 4 8 Idle ∷ many k

pub record TermTable : Type 0 where
  -- Idle and Halt, and no other state
  pub none : within [] ≡ true
  pub idle : within (of Idle 8 ∷ []) ≡ true
  pub halted : within (of Halt 0 ∷ []) ≡ true
  pub off : within (of Off 8 ∷ []) ≡ false
  pub ready : within (of (Ready One) 8 ∷ []) ≡ false
  pub active : within (of Active 8 ∷ []) ≡ false
  -- T-03: the second states are neither
  pub ready_star : within (of (ReadyStar One) 8 ∷ []) ≡ false
  pub active_star : within (of ActiveStar 8 ∷ []) ≡ false
  pub protocol : within (of (Protocol 8) 8 ∷ []) ≡ false
  -- "index over 8 (a card's in the field too)", of a halted one as well
  pub index_9 : within (of Idle 9 ∷ []) ≡ false
  pub index_9_halted : within (of Halt 9 ∷ []) ≡ false
  -- "invalid .. UID": u0 of 4 bytes, u3 of 7; other 88s are good
  pub u0_of_4 : within (card Single 0x88 4 8 Idle ∷ []) ≡ false
  pub u3_of_7 : within (card Double 1 0x88 8 Idle ∷ []) ≡ false
  pub u0_of_7 : within (card Double 0x88 4 8 Idle ∷ []) ≡ true
  pub u0_and_u3_of_10 : within (card Triple 0x88 0x88 8 Idle ∷ []) ≡ true
  -- "repeated UID", also where one of them is halted; the same bytes in another length are another UID
  pub repeated : within (of Idle 8 ∷ of Halt 8 ∷ []) ≡ false
  pub another_length : within (of Idle 8 ∷ card Double 1 4 8 Idle ∷ []) ≡ true
  -- as many cards as the limit, and one more
  pub full : within (many most_cards) ≡ true
  pub over : within (many (suc most_cards)) ≡ false

pub term_table : TermTable
unfolding within all_fit card_fits apart any same valid uid_bytes many
term_table = record {
  none = refl;
  idle = refl;
  halted = refl;
  off = refl;
  ready = refl;
  active = refl;
  ready_star = refl;
  active_star = refl;
  protocol = refl;
  index_9 = refl;
  index_9_halted = refl;
  u0_of_4 = refl;
  u3_of_7 = refl;
  u0_of_7 = refl;
  u0_and_u3_of_10 = refl;
  repeated = refl;
  another_length = refl;
  full = refl;
  over = refl;
}
