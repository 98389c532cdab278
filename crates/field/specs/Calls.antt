-- A frame taken by the first cards of an array.
use Rattle.std.specs.Prelude.{ℕ, List, ◌++◌, length, take, drop}
use Rattle.card.specs.Card.{takes, answers}
use Rattle.card.specs.declared.Card.{Card}
use Rattle.field.specs.Merge.{join}
use Rattle.field.specs.Field.{all_take, heard_from}
use Rattle.field.specs.declared.within.One.{One}
use Rattle.field.specs.declared.within.Together.{Together}

-- one card after a frame, and how many bits are heard of it together with a row
abbrev pub one : Card → List ℕ → List ℕ → One
one c f s = record { card = takes c f; bits = length (join (answers c f) s) }

-- the first n cards take the frame, the others are not in the field
unfoldable pub cards_after : List Card → ℕ → List ℕ → List Card
cards_after cs n f = all_take f (take n cs) ++ drop n cs

abbrev pub together : List Card → ℕ → List ℕ → Together
together cs n f = record { cards = cards_after cs n f; bits = length (heard_from f (take n cs)) }
