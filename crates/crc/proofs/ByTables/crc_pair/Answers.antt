-- `crc::ByTables::crc_pair` meets its contract, by the rules of both tables. Assumes nothing.
use native.Mathlib.Omega.{arith}
use Rattle.crc.specs.TableLaws.{pair_by_table}
use Rattle.crc.proofs.ByTables.crc_pair.Goals as goal

pub returns : goal.returns
returns c = let a = c.args in
    let t = a.self in
    rw (c.entry.ensures, c.entry-2.ensures)
    (pair_by_table t.by_bytes.one.now t.two.now a.c a.a a.b t.by_bytes.one_byte t.two_bytes (omega arith) (omega arith) (omega arith))
