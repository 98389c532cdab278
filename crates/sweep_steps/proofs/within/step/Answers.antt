use mathlib.Core.Path.{ap}
use native.Mathlib.Omega.{arith}
use lib.ListN.{length}
use Rattle.sweep_steps.specs.Steps.{found_by}
use Rattle.sweep_steps.specs.Loop.{exchanged, stepped}
use Rattle.sweep_steps.proofs.within.step.Goals as goal

pub overflow_mul-p : goal.overflow_mul-p
overflow_mul-p g c = omega (arith, c.requires.list_has_room, c.well_formed.1.1.1.1.0.1)

pub put_found-found-requires : goal.put_found-found-requires
put_found-found-requires g c = omega (arith, c.requires.list_has_room, ap (λ x. length (found_by x.memory.turn)) c.exchange-x.ensures.value)

pub overflow_add-result : goal.overflow_add-result
unfolding exchanged
overflow_add-result g c = omega (arith, c.requires.log_has_room, c.well_formed.1.1.1.0.1, ap (λ x. x.bytes) c.exchange-x.ensures.value)

pub overflow_add-result-2 : goal.overflow_add-result-2
overflow_add-result-2 g c = omega (arith, c.requires.more)

pub overflow_add-result-3 : goal.overflow_add-result-3
overflow_add-result-3 g c = omega (arith, c.requires.list_has_room, c.well_formed.1.1.1.1.0.1, c.put_found-found.ensures.value, ap (λ x. length (found_by x.memory.turn)) c.exchange-x.ensures.value)

pub shape_of-log : goal.shape_of-log
shape_of-log g c = c.exchange-x.auto.log

pub shape_of-list : goal.shape_of-list
shape_of-list g c = c.put_found-found.auto.list

pub returns : goal.returns
unfolding stepped
returns g c = let x = c.exchange-x in
    let f = c.put_found-found in record { value = rw (f.ensures.value, x.ensures.value); written = record { log_row = x.ensures.log_after; list_row = rw x.ensures.value at f.ensures.list_after; entries = rw x.ensures.value at f.ensures.t_len } }
