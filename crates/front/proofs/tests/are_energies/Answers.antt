use mathlib.Core.Path.{sym, ◌∙◌}
use native.Mathlib.Omega.{arith}
use Rattle.front.proofs.LoopLaws.{energies_next, energies_here, energies_done}
use Rattle.front.proofs.tests.are_energies.Goals as goal

pub returns-then-not-is_energy : goal.returns-then-not-is_energy
returns-then-not-is_energy c = let l = c.loop-x in
    let h = c.args.halves.now in
    sym (energies_here h l.x-index (omega arith) (sym c.is_energy.ensures ∙ c.if-not-is_energy.true)) ∙ l.invariant.1

pub loop-x-preserved : goal.loop-x-preserved
loop-x-preserved c = let l = c.loop-x in
    let h = c.args.halves.now in
    (omega arith, sym (energies_next h l.x-index (omega arith) (sym c.is_energy.ensures ∙ c.if-not-is_energy.false)) ∙ l.invariant.1)

pub returns : goal.returns
returns c = let l = c.loop-x in
    sym (energies_done c.args.halves.now l.x-index (omega arith)) ∙ l.invariant.1
