-- What is read of a received row, in the numbers of document 01's table, "When the core declines": 0 with what was read, or the number of the
-- first test that applies.
use Rattle.std.specs.Prelude.{List, ℕ, Result, Ok, Err}
use Rattle.refusal.specs.Refusal.{Said, giving, refusal_says}
use Rattle.selection_b.specs.HeardB.{entry}
use Rattle.selection_b.specs.declared.Held.{Held}
use Rattle.selection_b.specs.declared.SlotRead.{SlotRead}
use Rattle.selection_b.specs.declared.Held.{Held}
use Rattle.refusal.specs.declared.Refusal.{Refusal}

-- a slot's 13 bytes of the list
abbrev pub slot_case : Result Held Refusal → List ℕ → Said
slot_case (Ok k) atqb = giving (entry k atqb)
slot_case (Err e) atqb = refusal_says e

abbrev pub slot_says : SlotRead → Said
slot_says s = slot_case s.says s.atqb
