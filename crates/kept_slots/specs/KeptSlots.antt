-- A row of Type B cards kept in lent bytes, one state of 64 bytes behind the other, each with the slot number that its host drew for it; and what a
-- request with all its markers leaves (T-05): in each card's state its first 15 bytes, and in the reader's state what the last slot's row would,
-- heard by hand.
use Rattle.std.specs.Prelude.{ℕ, ◌+◌, ◌-◌, ◌*◌, false, cond, ◌||◌, List, [], map, ◌≡◌, length, take, get_or, replicate, eqb, ltb}
use Rattle.limits.specs.Limits.{most_cards}
use Rattle.frame_b.specs.LimitsB.{most_slots}
use Rattle.card_b.specs.declared.CardB.{CardB}
use Rattle.reader_b.specs.declared.AnswerB.{AnswerB}
use Rattle.reader_b.specs.declared.ReaderB.{ReaderB}
use Rattle.reader_b.specs.declared.TurnB.{TurnB}
use Rattle.field_b.specs.declared.Drawn.{Drawn}
use Rattle.slots.specs.declared.Inquired.{Inquired}
use Rattle.kept.specs.Kept.{bytes_at}
use Rattle.kept.specs.States.{states_from, array_of, states_left}
use Rattle.kept_b.specs.KeptCardB.{card_bytes, card_in}
use Rattle.kept_b.specs.KeptReaderB.{answer_number, answer_refuses, stays}

-- ---- the cards

-- the card that a state says, with its slot number
abbrev pub drawn_at : ℕ → List ℕ → Drawn
drawn_at number b = record { card = card_in b; number = number }

-- .. of place i, by the host's slot numbers
abbrev pub read_at : List ℕ → ℕ → List ℕ → Drawn
read_at numbers i b = drawn_at (get_or numbers i 0) b

-- the cards of a row of states, one for each slot number: card i from the bytes at 64 * i on
unfoldable pub drawn_in : List ℕ → List ℕ → List Drawn
drawn_in numbers b = states_from (read_at numbers) 0 (length numbers) b

-- a card of zeros
abbrev pub no_card : Drawn
no_card = drawn_at 0 []

-- the array that a request takes: as many of the cards as it holds, then cards of zeros
unfoldable pub field_in : List ℕ → List ℕ → List Drawn
field_in numbers b = array_of (read_at numbers) no_card most_cards (length numbers) b

-- the cards that a row of states says, and cards written back, each over the front of its own state; slot numbers are no part of a state
unfoldable pub cards_in : ℕ → List ℕ → List CardB
cards_in n b = states_from (λ i. card_in) 0 n b

abbrev pub card_of : Drawn → CardB
card_of d = d.card

abbrev pub drawn_bytes : Drawn → List ℕ
drawn_bytes d = card_bytes d.card

unfoldable pub cards_left : List ℕ → List Drawn → List ℕ
cards_left b l = states_left drawn_bytes b l

-- ---- the reader

-- the ATQB of the last slot that a list tells of, 13 bytes a slot, the first of them what it held; zeros where it tells of none
unfoldable pub last_atqb : ℕ → List ℕ → List ℕ
last_atqb slots list = cond (eqb slots 0 || ltb most_slots slots) (replicate 12 0) (bytes_at 12 list (13 * (slots - 1) + 1))

-- the turn that a request leaves of its reader: its last answer, and the ATQB that the list has of the last slot
unfoldable pub inquired_turn : ReaderB → AnswerB → ℕ → List ℕ → TurnB
inquired_turn r a slots list =
    record { reader = r; answer = a; atqb = cond (answer_refuses a) (replicate 12 0) (last_atqb slots list) }

-- .. of a request that gives s by value
abbrev pub turn_by : Inquired → List ℕ → TurnB
turn_by s list = inquired_turn s.reader s.answer s.slots list

-- how many slots the list tells of, or minus a refusal's number
abbrev pub inquired_number : AnswerB → ℕ → ℕ
inquired_number a slots = cond (answer_refuses a) (answer_number a) slots

-- the row of cards' states b, of which the first n are the field, of a request on the reader x: nothing is written where it is refused and x stays
unfoldable pub row_left : ReaderB → ℕ → List ℕ → Inquired → List ℕ → List ℕ
row_left x n b s list = cond (stays x (turn_by s list)) b (cards_left b (take n s.cards))

-- what the bytes say of the cards then, where they were written
abbrev pub Says : ReaderB → ℕ → Inquired → List ℕ → List ℕ → Type 0
Says x n s list cards₁ =
    stays x (turn_by s list) ≡ false
    → (cards_in (length (take n s.cards)) cards₁ ≡ map card_of (take n s.cards)) × (length s.cards ≡ most_cards)
