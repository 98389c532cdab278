-- `memory::paths::branch_bits` meets its contract. Assumes nothing.
use Rattle.memory.proofs.BranchLaws.{branched_at, branched_nowhere}
use Rattle.memory.proofs.paths.branch_bits.Goals as goal

pub returns-in-Some : goal.returns-in-Some
returns-in-Some c = let s = c.in-Some.ensures.some in branched_at c.args.path.now c.in-Some.i s.0 s.1 s.2

pub returns-in-None : goal.returns-in-None
returns-in-None c = branched_nowhere c.args.path.now (c.last_collided.ensures.none c.in-None.is)
