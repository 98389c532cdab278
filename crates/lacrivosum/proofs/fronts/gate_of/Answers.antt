-- `lacrivosum::fronts::gate_of` meets its contract, case by case. Assumes nothing.
use borrow.Author.Tests.{eq-eqb, ne_eqb}
use Rattle.lacrivosum.proofs.fronts.gate_of.Goals as goal

pub returns-then-gate-eq1 : goal.returns-then-gate-eq1
returns-then-gate-eq1 c = simp (eq-eqb _ _ c.if-gate-eq1.true)

pub returns-then-gate-eq2 : goal.returns-then-gate-eq2
returns-then-gate-eq2 c = simp (ne_eqb _ _ c.if-gate-eq1.false, eq-eqb _ _ c.if-gate-eq2.true)

pub returns : goal.returns
returns c = simp (ne_eqb _ _ c.if-gate-eq1.false, ne_eqb _ _ c.if-gate-eq2.false)
