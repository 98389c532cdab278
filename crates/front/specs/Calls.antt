-- The call of T-01: what it answers, in the numbers of document 01's table and of T-01, and what the lent places hold afterwards.
use Rattle.std.specs.Prelude.{ℕ, ◌/◌, not, List, [], ◌∷◌, length, ltb, Float, Result, Ok, Err}
use Rattle.rows.specs.Rows.{overlay}
use Rattle.refusal.specs.Refusal.{Said, giving, declining, decline_if}
use Rattle.front.specs.declared.Profile.{Profile}
use Rattle.front.specs.declared.NotHeard.{NotHeard}
use Rattle.front.specs.declared.NotHeard.TheVariants.{NoRoom, NotEnergies}
use Rattle.front.specs.Front.{taken, row_of}

-- how many bits were written, or why none
abbrev pub heard_says : Result ℕ NotHeard → Said
heard_says (Ok n) = giving (n ∷ [])
heard_says (Err NoRoom) = declining 1
heard_says (Err NotEnergies) = declining 13

abbrev pub number_of : Result ℕ NotHeard → ℕ
number_of h = (heard_says h).number

-- "Refuse with 13, after 1 and ahead of frame checks"; "It asks for a place per whole bit handed in"
abbrev pub receive_says : ℕ → Profile → List Float → Said
receive_says room p h = decline_if (ltb room (length h / 2)) 1 (decline_if (not (taken p h)) 13 (giving (length (row_of p h) ∷ [])))

-- "places from the end on, and all after a refusal, are unchanged"
abbrev pub places_after : Result ℕ NotHeard → List ℕ → List ℕ → List ℕ
places_after (Ok n) row places = overlay places 0 row
places_after (Err NoRoom) row places = places
places_after (Err NotEnergies) row places = places
