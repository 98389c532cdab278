-- Document 01, "The reader and the sweep": the cards of a field, "each changed .. by the frame that all of them hear".
use Rattle.std.specs.Prelude.{List, map, ℕ}
use Rattle.field.specs.Merge.{merge}
use Rattle.card.specs.Card.{takes, answers}
use Rattle.card.specs.declared.Card.{Card}

-- every card takes the frame
unfoldable pub all_take : List ℕ → List Card → List Card
all_take f cs = map (λ c. takes c f) cs

-- what is heard
unfoldable pub heard_from : List ℕ → List Card → List ℕ
heard_from f cs = merge (map (λ c. answers c f) cs)
