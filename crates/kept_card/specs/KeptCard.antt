-- A card kept in lent bytes, by places from the front:
--     0 state, 1 its level, 2 the reader's size index of Protocol, 3 blocks, 4 own size index, 5 to 8 zeros, 9 UID size, 10 ten bytes of the UID.
-- The UID stands where a reader's state has it.
use Rattle.std.specs.Prelude.{ℕ, cond, List, ◌∷◌, get_or, eqb}
use Rattle.card.specs.declared.Card.{Card}
use Rattle.card.specs.declared.CardState.{CardState}
use Rattle.card.specs.declared.CardState.TheVariants.{Off, Idle, Ready, Active, Halt, ReadyStar, ActiveStar, Protocol}
use Rattle.kept.specs.Kept.{bytes_at, flag, flag_of, level_tag, level_of, size_tag, uid_in}

abbrev pub state_tag : CardState → ℕ
state_tag Off = 0
state_tag Idle = 1
state_tag (Ready l) = 2
state_tag Active = 3
state_tag Halt = 4
state_tag (ReadyStar l) = 5
state_tag ActiveStar = 6
state_tag (Protocol i) = 7

abbrev pub state_level : CardState → ℕ
state_level Off = 0
state_level Idle = 0
state_level (Ready l) = level_tag l
state_level Active = 0
state_level Halt = 0
state_level (ReadyStar l) = level_tag l
state_level ActiveStar = 0
state_level (Protocol i) = 0

abbrev pub state_index : CardState → ℕ
state_index Off = 0
state_index Idle = 0
state_index (Ready l) = 0
state_index Active = 0
state_index Halt = 0
state_index (ReadyStar l) = 0
state_index ActiveStar = 0
state_index (Protocol i) = i

-- a state by its byte, its level and the reader's size index
abbrev pub state_in : ℕ → ℕ → ℕ → CardState
state_in t l i =
    cond (eqb t 0) Off
    (cond (eqb t 1) Idle
    (cond (eqb t 2) (Ready (level_of l))
    (cond (eqb t 3) Active
    (cond (eqb t 4) Halt
    (cond (eqb t 5) (ReadyStar (level_of l))
    (cond (eqb t 6) ActiveStar (Protocol i)))))))

unfoldable pub card_bytes : Card → List ℕ
card_bytes c =
    state_tag c.state ∷ state_level c.state ∷ state_index c.state ∷ flag c.blocks ∷ c.index ∷ 0 ∷ 0 ∷ 0 ∷ 0
    ∷ size_tag c.uid.size ∷ bytes_at 10 c.uid.bytes 0

-- every row of bytes is one card
unfoldable pub card_in : List ℕ → Card
card_in b = record {
  uid = uid_in b;
  blocks = flag_of (get_or b 3 0);
  index = get_or b 4 0;
  state = state_in (get_or b 0 0) (get_or b 1 0) (get_or b 2 0);
}
