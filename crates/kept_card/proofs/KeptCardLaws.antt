-- A card that is kept is read back. Assumes nothing.
use Rattle.std.specs.Prelude.{◌≡◌, refl, Bool, false, List, ◌++◌, ℕ, length, replicate}
use Rattle.std.proofs.Common.{ap}
use Rattle.card.specs.declared.Card.{Card}
use Rattle.card.specs.declared.CardState.{CardState}
use Rattle.card.specs.declared.CardState.TheVariants.{Off, Idle, Ready, Active, Halt, ReadyStar, ActiveStar, Protocol}
use Rattle.uid.specs.declared.UidSize.{UidSize}
use Rattle.uid.specs.declared.UidSize.TheVariants.{Single}
use Rattle.kept.specs.Kept.{bytes_at}
use Rattle.kept.specs.KeptLaws.{level_back, flag_back, size_back, bytes_whole}
use Rattle.kept_card.specs.KeptCard.{state_tag, state_level, state_index, state_in, card_bytes, card_in}

pub state_back : (s : CardState) → state_in (state_tag s) (state_level s) (state_index s) ≡ s
state_back Off = refl
state_back Idle = refl
state_back (Ready l) = ap Ready (level_back l)
state_back Active = refl
state_back Halt = refl
state_back (ReadyStar l) = ap ReadyStar (level_back l)
state_back ActiveStar = refl
state_back (Protocol i) = refl

made : (c : Card) (z : UidSize) (u : List ℕ) (b : Bool) (s : CardState) → z ≡ c.uid.size → u ≡ c.uid.bytes → b ≡ c.blocks → s ≡ c.state
    → record { uid = record { size = z; bytes = u }; blocks = b; index = c.index; state = s } ≡ c
made c z u b s d e f g = rw (d, e, f, g)

-- "encoding then decoding gives the card back", whatever stands behind it
pub card_back : (c : Card) (rest : List ℕ) → length c.uid.bytes ≡ 10 → card_in (card_bytes c ++ rest) ≡ c
unfolding card_bytes card_in bytes_at
card_back c rest u = made c _ _ _ _ (size_back c.uid.size) (bytes_whole 10 c.uid.bytes u) (flag_back c.blocks) (state_back c.state)

pub card_length : (c : Card) → length (card_bytes c) ≡ 20
unfolding card_bytes bytes_at
card_length c = refl

-- zeros are a card without power, its UID four zeros
abbrev pub zero_card : Card
zero_card = record { uid = record { size = Single; bytes = replicate 10 0 }; blocks = false; index = 0; state = Off }

pub card_zeros : card_in (replicate 20 0) ≡ zero_card
unfolding card_in bytes_at
card_zeros = refl
