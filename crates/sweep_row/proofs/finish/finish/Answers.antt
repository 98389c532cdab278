use mathlib.Core.Path.{ap}
use native.Mathlib.Omega.{arith}
use lib.ListN.{length}
use Rattle.memory.specs.Stored.{memory_of}
use Rattle.sweep_steps.specs.Steps.{found_by}
use Rattle.sweep_row.specs.Row.{finished, exchanged_with, heard_by}
use Rattle.sweep_row.proofs.finish.finish.Goals as goal

pub overflow_mul-s : goal.overflow_mul-s
overflow_mul-s g c = omega (arith, c.requires.list_has_room, c.well_formed.1.1.1.0.1)

pub put_found-found-requires : goal.put_found-found-requires
unfolding exchanged_with memory_of heard_by
put_found-found-requires g c = omega (arith, c.requires.list_has_room, ap (λ x. length (found_by x.memory.turn)) c.exchange-x.ensures.value)

pub overflow_add-result : goal.overflow_add-result
overflow_add-result g c = omega (arith, c.requires.more)

pub overflow_add-result-2 : goal.overflow_add-result-2
unfolding exchanged_with
overflow_add-result-2 g c = omega (arith, c.requires.log_has_room, c.well_formed.1.1.0.1, ap (λ x. x.bytes) c.exchange-x.ensures.value)

pub overflow_add-result-3 : goal.overflow_add-result-3
unfolding exchanged_with memory_of heard_by
overflow_add-result-3 g c = omega (arith, c.requires.list_has_room, c.well_formed.1.1.1.0.1, c.put_found-found.ensures.value, ap (λ x. length (found_by x.memory.turn)) c.exchange-x.ensures.value)

pub returns : goal.returns
unfolding finished exchanged_with memory_of heard_by
returns g c = let g = c.put_found-found in
    let x = c.exchange-x in record { value = rw (g.ensures.value, x.ensures.value); log_after = x.ensures.log_after; list_after = rw x.ensures.value at g.ensures.list_after }
