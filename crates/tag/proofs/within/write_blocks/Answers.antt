-- `tag::within::write_blocks` meets its contract: the rest of the row is read into the rest of the memory. Assumes nothing.
use Prim.Native.Nat.{◌*◌}
use native.Mathlib.Nat.{mul_comm}
use lib.ListN.{length-take, length-drop}
use Rattle.rows.proofs.RowLaws.{overlay_part}
use Rattle.tag.specs.CallLaws.{sent_there, rest_clean, rest_is}
use native.Mathlib.Omega.{arith}
use Rattle.tag.proofs.within.write_blocks.Goals as goal

pub overflow_mul-from : goal.overflow_mul-from
overflow_mul-from c = record { fits = omega (arith, c.requires.1) }

pub bytes_of-requires : goal.bytes_of-requires
bytes_of-requires c = let a = c.args in
    let e = mul_comm a.size a.n in
    (sent_there a.row.now a.p (a.size * a.n) c.requires.0 (omega (arith, e, c.requires.1)), rw (length-take, length-drop) (omega (arith, c.requires.2)), rest_clean a.row.now (8 * a.p) c.requires.0)

pub returns : goal.returns
returns c = let a = c.args in
    rw (c.bytes_of.ensures, rest_is a.row.now (8 * a.p)) (overlay_part a.memory.now (a.size * a.a) _ (omega (arith, c.requires.2)))
