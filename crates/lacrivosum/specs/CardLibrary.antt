-- The whole card for C: the calls of crate card_link on the card that the lent bytes say, by `card_turn_left` and `kept_card_after` of crate kept_card.
use Rattle.std.specs.Prelude.{ℕ, Bool, true, false, cond, List, [], length, eqb, ltb, Result, Ok, Err}
use Rattle.refusal.specs.declared.Refusal.{Refusal}
use Rattle.refusal.specs.declared.Refusal.TheVariants.{Room}
use Rattle.rows.specs.Rows.{overlay}
use Rattle.block.specs.declared.Told.TheVariants.{Quiet}
use Rattle.block.specs.Out.{Out}
use Rattle.card.specs.Calls.{new_card}
use Rattle.card_link.specs.declared.LinkCard.{LinkCard}
use Rattle.card_link.specs.CardCalls.{without_link, declined, turn_of}
use Rattle.kept.specs.Kept.{state_size, refused, told_number}
use Rattle.kept_card.specs.KeptWhole.{card_turn_left}
use Rattle.lacrivosum.specs.Library.{Done, done}

-- a card's call that gives t by value, on the state s and the row o. A state that is too short: 1, all unchanged
unfoldable pub card_done : List ℕ → List ℕ → Out LinkCard → Done
card_done s o t =
    cond (ltb (length s) state_size) (done (refused Room) s o)
    (done (told_number (length t.sent) t.told) (card_turn_left s (turn_of t)) (overlay o 0 t.sent))

-- a call that sends nothing and tells nothing
abbrev pub quiet : LinkCard → Out LinkCard
quiet x = record { link = x; sent = []; told = Quiet; buffer = [] }

-- a number as C has it for true and false: 0 is false, any other true
abbrev pub speaks : ℕ → Bool
speaks b = cond (eqb b 0) false true

-- a new card, without power and without a link, over the card x; where it is refused x stays
abbrev pub new_by : LinkCard → Result LinkCard Refusal → Out LinkCard
new_by x (Ok y) = quiet y
new_by x (Err e) = declined x [] e

unfoldable pub new_call : LinkCard → List ℕ → ℕ → ℕ → Out LinkCard
new_call x uid blocks index = new_by x (without_link (new_card uid (speaks blocks) index))
