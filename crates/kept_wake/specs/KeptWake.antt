-- What waking one known card of a row of cards in lent bytes leaves (T-03): in the reader's state what a step of its selection by hand would, and
-- in the cards' states the cards.
use Rattle.std.specs.Prelude.{ℕ, false, cond, List, ◌≡◌, length, take}
use Rattle.limits.specs.Limits.{most_cards}
use Rattle.reader.specs.declared.Answer.{Answer}
use Rattle.reader.specs.declared.Reader.{Reader}
use Rattle.reader_link.specs.declared.Link.{Link}
use Rattle.reader_link.specs.declared.LinkAnswer.TheVariants.{Selection}
use Rattle.reader_link.specs.declared.LinkReader.{LinkReader}
use Rattle.reader_link.specs.declared.LinkTurn.{LinkTurn}
use Rattle.wake.specs.declared.Woken.{Woken}
use Rattle.kept_reader.specs.KeptReader.{selection_number, selection_refuses}
use Rattle.kept_field.specs.KeptField.{cards_in, cards_left}

-- the reader r, its link k and what it answered
abbrev pub turn_of : Reader → Link → Answer → LinkTurn
turn_of r k a = record { reader = record { reader = r; link = k }; answer = Selection a }

-- what a call that gives s by value leaves of the whole reader x: its link stays
abbrev pub woken_turn : LinkReader → Woken → LinkTurn
woken_turn x s = turn_of s.reader x.link s.answer

-- the frames that were sent, or minus a refusal's number
abbrev pub woken_number : Woken → ℕ
woken_number s = cond (selection_refuses s.answer) (selection_number s.answer) s.frames

-- the row of cards' states b, of which the first n are the field. By a refusal all cards are what they were (law `refused_absent`), and nothing is
-- written
unfoldable pub row_left : ℕ → List ℕ → Woken → List ℕ
row_left n b s = cond (selection_refuses s.answer) b (cards_left b (take n s.cards))

-- what the bytes say of the cards then, where the call was not refused
abbrev pub Says : ℕ → Woken → List ℕ → Type 0
Says n s cards₁ =
    selection_refuses s.answer ≡ false
    → (cards_in (length (take n s.cards)) cards₁ ≡ take n s.cards) × (length s.cards ≡ most_cards)
