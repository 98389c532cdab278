-- `air_log::bit_at` meets its contract: the byte that holds the bit, and the bit in it. Assumes nothing.
use mathlib.Core.Path.{sym}
use native.Mathlib.Omega.{arith}
use Rattle.air_log.specs.UnpackLaws.{bit_here, bit_past}
use Rattle.air_log.proofs.bit_at.Goals as goal
use Rattle.air_log.proofs.bit_at.Goals.{then-log-start-via-then-log-start, then-log-start-via-else-log-start+then-log-start-2}

pub returns-then-log-start : goal.returns-then-log-start
returns-then-log-start c = let a = c.args in elim c.then-log-start.branch [
  | then-log-start-via-then-log-start w ↦ sym (bit_past a.log.now a.start a.i (omega (arith, w.if-log-start.true)))
  | then-log-start-via-else-log-start+then-log-start-2 w ↦ sym (bit_past a.log.now a.start a.i (omega (arith, w.if-log-start.false, w.if-log-start-2.true)))
]

pub returns : goal.returns
returns c = let a = c.args in
    rw c.top_bits.ensures (bit_here a.log.now a.start a.i (omega arith))
