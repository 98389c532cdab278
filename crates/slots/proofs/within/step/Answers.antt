-- `slots::within::step` meets its contract. Assumes nothing.
use native.Mathlib.Omega.{arith}
use Rattle.slots.specs.Steps.{stepped}
use Rattle.slots.specs.StepLaws.{told_most}
use Rattle.slots.proofs.within.step.Goals as goal

pub overflow_add-result-2 : goal.overflow_add-result-2
overflow_add-result-2 c = omega (arith, c.requires.1, c.requires.2, c.put_told-told.ensures.value, told_most c.send-x.result.turn)

pub returns : goal.returns
unfolding stepped
returns c = let x = c.send-x in
    let f = c.put_told-told in record { value = rw (f.ensures.value, x.ensures); list_after = f.ensures.list_after; turn_len = f.ensures.t_len }
