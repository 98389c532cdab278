use mathlib.Core.Path.{sym, ap, ◌∙◌}
use native.Mathlib.Omega.{arith}
use lib.ListN.{length-drop, length, drop}
use lib.Seq.{take_all}
use Prim.Native.Nat.{◌-◌}
use Rattle.crc.specs.Crc.{crc_from}
use Rattle.crc.specs.CrcLaws.{pair_next}
use Rattle.crc.proofs.ByTables.by_pairs.Goals as goal

pub loop-left-preserved : goal.loop-left-preserved
loop-left-preserved c = let l = c.loop-left in
    let h = l.left.now in
    ap (crc_from _) (take_all (length h - 2) (drop 2 h) (rw length-drop (omega arith))) ∙ rw c.crc_pair-c.ensures (sym (pair_next h 0 l.c (omega arith)) ∙ l.invariant)
