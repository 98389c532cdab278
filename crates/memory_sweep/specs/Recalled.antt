-- Document 02, T-14: the call of a sweep that remembers, over an array of cards of which the first n are the field. It is the call of any sweep
-- (sweep/specs/Sweep.antt: its form, its refusals and their order); what it runs is `recalled` of crate memory_rules.
use Rattle.std.specs.Prelude.{ℕ, List}
use Rattle.memory_rules.specs.Run.{recalled}
use Rattle.sweep.specs.Sweep.{Call, call_of}
use Rattle.card.specs.declared.Card.{Card}
use Rattle.sweep.specs.declared.Start.{Start}

abbrev pub recall_of : Start → List Card → ℕ → List ℕ → List ℕ → Call
recall_of s cards n log list = call_of recalled s cards n log list
