use mathlib.Core.Path.{sym, ◌∙◌}
use native.Mathlib.Omega.{arith}
use lib.ListN.{length-set}
use Rattle.parity.specs.LoopLaws.{bits_next, bits_done}
use Rattle.parity.proofs.bits_of.Goals as goal

pub loop-bit-preserved : goal.loop-bit-preserved
loop-bit-preserved c = let l = c.loop-bit in
    (omega arith, simp length-set (omega arith), bits_next 8 l.bit-index l.x l.bit-items (omega arith) (omega arith) ∙ l.invariant.2)

pub returns : goal.returns
returns c = let l = c.loop-bit in
    sym (bits_done 8 l.bit-index l.x l.bit-items (omega arith) (omega arith)) ∙ l.invariant.2
