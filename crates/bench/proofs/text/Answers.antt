-- `bench::text` meets its contract. Assumes nothing.
use borrow.Author.Rules.{rules}
use Rattle.bench.specs.WordLaws.{return_none, return_cut, return_kept}
use Rattle.bench.proofs.text.Goals as goal

pub returns-in_default : goal.returns-in_default
returns-in_default c = return_none _ (search rules)

pub returns-then-last-eq13 : goal.returns-then-last-eq13
returns-then-last-eq13 c = return_cut _ _ _ c.in-Some.ensures.cases.0 c.if-last-eq13.true

pub returns-else-last-eq13 : goal.returns-else-last-eq13
returns-else-last-eq13 c = return_kept _ _ _ c.in-Some.ensures.cases.0 c.if-last-eq13.false
