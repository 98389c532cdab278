-- `tag::within::put_answer` meets its contract: the definition has the same cases. Assumes nothing.
use Prim.Native.Nat.{◌+◌}
use Rattle.tag.specs.CallLaws.{room_96, room_read, bytes_fit}
use borrow.Author.Rules.{rules}
use native.Mathlib.Omega.{arith}
use Rattle.tag.proofs.within.put_answer.Goals as goal

pub put_told-requires : goal.put_told-requires
put_told-requires c = omega (arith, room_96 c.args.t, c.requires.3)

pub put_read-requires : goal.put_read-requires
put_read-requires c = let a = c.args in
    let v = c.in-Reads in
    let h = rw c.in-Reads.is at c.requires.0 in
    (omega (arith, bytes_fit a.t.size (v.first + v.count) a.t.blocks h, c.requires.1), omega (arith, h, c.requires.2), omega (arith, room_read a.t v.count (omega (arith, h)), c.requires.3), search rules)

pub put_bytes-requires : goal.put_bytes-requires
put_bytes-requires c = omega (arith, room_96 c.args.t, c.requires.3)

pub put_bytes-requires-in_default : goal.put_bytes-requires-in_default
put_bytes-requires-in_default c = omega (arith, room_96 c.args.t, c.requires.3)
