-- A row of cards kept in lent bytes, one state of 64 bytes behind the other, and what a sweep over them leaves: in each card's state its first
-- 20 bytes, and in the reader's state the reader, at 45 the event 3, at 46 the bytes of log written and at 54 the frames sent (eight bytes each).
use Rattle.std.specs.Prelude.{ℕ, false, cond, List, [], ◌∷◌, ◌++◌, ◌≡◌, length, take}
use Rattle.limits.specs.Limits.{most_cards}
use Rattle.rows.specs.Rows.{overlay}
use Rattle.card.specs.declared.Card.{Card}
use Rattle.reader.specs.declared.Reader.{Reader}
use Rattle.reader_link.specs.declared.Link.{Link}
use Rattle.reader_link.specs.declared.LinkReader.{LinkReader}
use Rattle.sweep.specs.declared.Start.{Start}
use Rattle.sweep.specs.declared.Swept.{Swept}
use Rattle.kept.specs.Kept.{word, number, event_of, length_of}
use Rattle.kept.specs.States.{states_from, array_of, states_left}
use Rattle.kept_card.specs.KeptCard.{card_bytes, card_in}
use Rattle.kept_reader.specs.KeptReader.{selection_bytes, selection_of, link_bytes, link_of, reader_of, selection_number, selection_refuses}

-- ---- the cards

-- the first n cards of a row of states: card i from the bytes at 64 * i on (law `state_at` of crate kept)
unfoldable pub cards_in : ℕ → List ℕ → List Card
cards_in n b = states_from (λ i. card_in) 0 n b

-- a card of zeros
abbrev pub no_card : Card
no_card = card_in []

-- the array that a sweep takes: as many of the cards as it holds, then cards of zeros
unfoldable pub field_in : ℕ → List ℕ → List Card
field_in n b = array_of (λ i. card_in) no_card most_cards n b

-- cards written back, each over the front of its own state
unfoldable pub cards_left : List ℕ → List Card → List ℕ
cards_left b l = states_left card_bytes b l

-- ---- the reader

abbrev pub start_in : List ℕ → ℕ → Start
start_in b t = record { reader = selection_of b; tick = t }

unfoldable pub swept_tail : ℕ → ℕ → List ℕ
swept_tail logged frames = 3 ∷ (word 8 logged ++ word 8 frames)

abbrev pub swept_bytes : Reader → Link → ℕ → ℕ → List ℕ
swept_bytes r k logged frames = (selection_bytes r ++ link_bytes k) ++ swept_tail logged frames

-- the frames of the last sweep
abbrev pub frames_of : List ℕ → ℕ
frames_of b = number 8 b 54

-- what a reader's state says after a sweep
pub record SweptKept : Type 0 where
  pub reader : LinkReader
  pub event : ℕ
  pub logged : ℕ
  pub frames : ℕ

abbrev pub swept_in : List ℕ → SweptKept
swept_in b = record { reader = reader_of b; event = event_of b; logged = length_of b; frames = frames_of b }

abbrev pub swept_kept : Reader → Link → ℕ → ℕ → SweptKept
swept_kept r k logged frames = record { reader = record { reader = r; link = k }; event = 3; logged = logged; frames = frames }

-- ---- what a sweep leaves that gives s by value: the number of UIDs found; or minus a refusal's number, and then the reader's state and the cards
-- are unchanged

abbrev pub swept_number : Swept → ℕ
swept_number s = cond (selection_refuses s.answer) (selection_number s.answer) s.found

unfoldable pub state_left : List ℕ → Swept → List ℕ
state_left b s = cond (selection_refuses s.answer) b (overlay b 0 (swept_bytes s.reader (link_of b) s.logged s.frames))

unfoldable pub row_left : ℕ → List ℕ → Swept → List ℕ
row_left n b s = cond (selection_refuses s.answer) b (cards_left b (take n s.cards))

-- what the bytes say then: where the sweep was not refused, the reader that it leaves, with the link that it had, and the cards
abbrev pub Says : List ℕ → ℕ → Swept → List ℕ → List ℕ → Type 0
Says state₀ n s state₁ cards₁ =
    selection_refuses s.answer ≡ false
    → (swept_in state₁ ≡ swept_kept s.reader (link_of state₀) s.logged s.frames) × (cards_in (length (take n s.cards)) cards₁ ≡ take n s.cards)
    × (length s.cards ≡ most_cards)
