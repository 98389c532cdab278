-- Document 02, T-05: the fields that a request takes: 6 is given exactly where `within` is false.
use Rattle.std.specs.Prelude.{ℕ, Bool, true, false, not, ◌&&◌, List, [], ◌∷◌, length, leb}
use Rattle.limits.specs.Limits.{most_cards}
use Rattle.rows.specs.Rows.{any, same}
use Rattle.selection_b.specs.TypeB.{is_slots}
use Rattle.card_b.specs.CardB.{drawn}
use Rattle.card_b.specs.declared.StateB.{StateB}
use Rattle.card_b.specs.declared.StateB.TheVariants.{Off, Idle, Requested, Declared, Active, Halt}
use Rattle.field_b.specs.declared.Drawn.{Drawn}

-- "a card neither idle nor halted"
abbrev pub idle_or_halted : StateB → Bool
idle_or_halted Off = false
idle_or_halted Idle = true
idle_or_halted (Requested s) = false
idle_or_halted Declared = false
idle_or_halted Active = false
idle_or_halted Halt = true

-- idle or halted, and a slot number from 1 to n
unfoldable pub card_fits : ℕ → Drawn → Bool
card_fits n d = idle_or_halted d.card.state && drawn d.number n

unfoldable pub all_fit : ℕ → List Drawn → Bool
all_fit n [] = true
all_fit n (d ∷ ds) = card_fits n d && all_fit n ds

-- "a PUPI twice": none is there twice
unfoldable pub apart : List Drawn → Bool
apart [] = true
apart (d ∷ ds) = not (any (λ k. same d.card.pupi k.card.pupi) ds) && apart ds

-- N, "over 16 cards", the cards
unfoldable pub within : ℕ → List Drawn → Bool
within n ds = is_slots n && leb (length ds) most_cards && all_fit n ds && apart ds
