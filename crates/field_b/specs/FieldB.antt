-- Document 02, T-05: the cards of a field, each with its slot number, and "a channel that only merges bits".
use Rattle.std.specs.Prelude.{ℕ, List, map}
use Rattle.field.specs.Merge.{merge}
use Rattle.card_b.specs.CardB.{takes, answers}
use Rattle.card_b.specs.declared.CardB.{CardB}
use Rattle.field_b.specs.declared.Drawn.{Drawn}

abbrev pub with_card : Drawn → CardB → Drawn
with_card d c = record { card = c; number = d.number }

-- a card takes the frame, with its number, and answers
unfoldable pub takes_b : List ℕ → Drawn → Drawn
takes_b f d = with_card d (takes d.card d.number f)

unfoldable pub answers_b : List ℕ → Drawn → List ℕ
answers_b f d = answers d.card d.number f

-- every card takes the frame
unfoldable pub all_take : List ℕ → List Drawn → List Drawn
all_take f ds = map (takes_b f) ds

-- what is heard
unfoldable pub heard_from : List ℕ → List Drawn → List ℕ
heard_from f ds = merge (map (answers_b f) ds)
