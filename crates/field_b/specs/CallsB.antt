-- A frame taken by the first cards of an array.
use Rattle.std.specs.Prelude.{ℕ, List, ◌++◌, length, take, drop}
use Rattle.field.specs.Merge.{join}
use Rattle.field_b.specs.FieldB.{takes_b, answers_b, all_take, heard_from}
use Rattle.field_b.specs.declared.Drawn.{Drawn}
use Rattle.field_b.specs.declared.within.OneB.{OneB}
use Rattle.field_b.specs.declared.within.TogetherB.{TogetherB}

-- one card after a frame, and how many bits are heard of it together with a row
abbrev pub one : Drawn → List ℕ → List ℕ → OneB
one d f s = record { drawn = takes_b f d; bits = length (join (answers_b f d) s) }

-- the first n cards take the frame, the others are not in the field
unfoldable pub cards_after : List Drawn → ℕ → List ℕ → List Drawn
cards_after ds n f = all_take f (take n ds) ++ drop n ds

abbrev pub together : List Drawn → ℕ → List ℕ → TogetherB
together ds n f = record { cards = cards_after ds n f; bits = length (heard_from f (take n ds)) }
