-- What is read of a received row, in the numbers of document 01's table, "When the core declines": 0 with what was read, or the number of the
-- first test that applies.
use Rattle.std.specs.Prelude.{ℕ, List, ◌∷◌}
use Rattle.refusal.specs.Refusal.{Said, giving, refusal_says}
use Rattle.selection.specs.declared.RestSays.{RestSays}
use Rattle.selection.specs.declared.RestSays.TheVariants.{Whole, Collided, NotRest}
use Rattle.selection.specs.declared.Rest.{Rest}

-- how many of the level's bits are known, all 40 or up to the 1 behind the bits before a collision, and the five bytes that they stand in
abbrev pub rest_case : RestSays → ℕ → List ℕ → Said
rest_case Whole known five = giving (known ∷ five)
rest_case Collided known five = giving (known ∷ five)
rest_case (NotRest e) known five = refusal_says e

abbrev pub rest_says : Rest → Said
rest_says r = rest_case r.says r.known r.five
