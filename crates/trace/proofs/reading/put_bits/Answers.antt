use mathlib.Core.Path.{◌≡◌, sym}
use native.Mathlib.Omega.{arith}
use lib.ListN.{length, take, length-set}
use lib.Seq.{length-take-le}
use Rattle.rows.proofs.RowLaws.{overlay_nil, front_filled}
use Rattle.trace.specs.ReadLaws.{row_turn}
use Rattle.air_log.specs.Reading.{bits_from}
use Rattle.trace.proofs.reading.put_bits.Goals as goal

pub loop-i-init : goal.loop-i-init
loop-i-init c = (omega arith, omega arith, sym (overlay_nil _ _))

pub loop-i-preserved : goal.loop-i-preserved
loop-i-preserved c = let l = c.loop-i in
    let a = c.args in
    let long = length-take-le a.n a.out.now (omega arith) in
    let same = length-set l.bit-items l.i c.bit_at.result in
    (omega arith, omega arith, rw l.invariant.2 (row_turn (take a.n a.out.now) (bits_from a.log.now a.start) l.i _ c.bit_at.ensures (omega arith) (omega arith)))

pub returns : goal.returns
returns c = let l = c.loop-i in
    let a = c.args in
    let long = length-take-le a.n a.out.now (omega arith) in
    let r = take a.n (bits_from a.log.now a.start) in
    let size : length r ≡ a.n = length-take-le a.n (bits_from a.log.now a.start) (omega arith) in
    let e : l.i ≡ a.n = omega arith in
    front_filled a.out.now r l.bit-items a.n (omega arith) (omega arith) (rw e at l.invariant.2)
