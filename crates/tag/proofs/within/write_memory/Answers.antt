-- `tag::within::write_memory` meets its contract: the definition has the same cases. Assumes nothing.
use Rattle.tag.specs.CallLaws.{named_fit}
use native.Mathlib.Omega.{arith}
use Rattle.tag.proofs.within.write_memory.Goals as goal

pub returns-in-Writes : goal.returns-in-Writes
returns-in-Writes c = rw c.in-Writes.is c.write_blocks.ensures

pub write_blocks-requires : goal.write_blocks-requires
write_blocks-requires c = let a = c.args in
    let v = c.in-Writes in
    let h = rw c.in-Writes.is at c.requires.0 in
    (h.2, h.1, omega (arith, named_fit a.t.size v.first v.count a.t.blocks h.0, c.requires.1))
