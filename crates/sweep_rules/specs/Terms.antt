-- The fields that a sweep takes: refusal 6 is given exactly where `within` is false.
use Rattle.std.specs.Prelude.{Bool, true, false, not, ◌&&◌, ◌||◌, List, [], ◌∷◌, length, leb}
use Rattle.rows.specs.Rows.{any, same}
use Rattle.uid.specs.Uid.{valid, uid_bytes}
use Rattle.limits.specs.Limits.{most_cards}
use Rattle.card.specs.declared.Card.{Card}
use Rattle.card.specs.declared.CardState.{CardState}
use Rattle.card.specs.declared.CardState.TheVariants.{Off, Idle, Ready, Active, Halt, ReadyStar, ActiveStar, Protocol}

abbrev pub is_idle : CardState → Bool
is_idle Off = false
is_idle Idle = true
is_idle (Ready l) = false
is_idle Active = false
is_idle Halt = false
is_idle (ReadyStar l) = false
is_idle ActiveStar = false
is_idle (Protocol i) = false

abbrev pub is_halt : CardState → Bool
is_halt Off = false
is_halt Idle = false
is_halt (Ready l) = false
is_halt Active = false
is_halt Halt = true
is_halt (ReadyStar l) = false
is_halt ActiveStar = false
is_halt (Protocol i) = false

-- a valid UID, an index up to 8, Idle or Halt
unfoldable pub card_fits : Card → Bool
card_fits c = valid c.uid && leb c.index 8 && (is_idle c.state || is_halt c.state)

unfoldable pub all_fit : List Card → Bool
all_fit [] = true
all_fit (c ∷ cs) = card_fits c && all_fit cs

-- no UID is there twice
unfoldable pub apart : List Card → Bool
apart [] = true
apart (c ∷ cs) = not (any (λ k. same (uid_bytes c.uid) (uid_bytes k.uid)) cs) && apart cs

unfoldable pub within : List Card → Bool
within cs = leb (length cs) most_cards && all_fit cs && apart cs
