-- T-03 over a lent row: what the call over values gives, of a row. What the call is stands in crate wake.
use Rattle.std.specs.Prelude.{List}
use Rattle.wake.specs.declared.Woken.{Woken}
use Rattle.card.specs.declared.Card.{Card}
use Rattle.wake_row.specs.declared.RowWoken.{RowWoken}

-- what the call over values gives, of a row that holds these cards afterwards
abbrev pub woken_row : RowWoken → List Card → Woken
woken_row s cards = record { reader = s.reader; answer = s.answer; cards = cards; frames = s.frames }

abbrev pub row_of : Woken → RowWoken
row_of w = record { reader = w.reader; answer = w.answer; frames = w.frames }
