-- `bench_text::within::bit_char` meets its contract. Assumes nothing.
use borrow.Author.Tests.{eq-eqb, ne_eqb}
use Rattle.bench_text.specs.Text.{bit_char}
use Rattle.bench_text.proofs.within.bit_char.Goals as goal

pub returns-then-x-eq0 : goal.returns-then-x-eq0
unfolding bit_char
returns-then-x-eq0 c = simp (eq-eqb _ _ c.if-x-eq0.true)

pub returns-then-x-eq1 : goal.returns-then-x-eq1
unfolding bit_char
returns-then-x-eq1 c = simp (ne_eqb _ _ c.if-x-eq0.false, eq-eqb _ _ c.if-x-eq1.true)

pub returns-else-x-eq1 : goal.returns-else-x-eq1
unfolding bit_char
returns-else-x-eq1 c = simp (ne_eqb _ _ c.if-x-eq0.false, ne_eqb _ _ c.if-x-eq1.false)
