use Prim.Native.Nat.{◌*◌}
use mathlib.Core.Path.{sym}
use native.Mathlib.Omega.{arith}
use mathlib.Core.Path.{◌≡◌}
use lib.ListN.{length, take, set, length-set}
use lib.Seq.{length-take-le}
use Rattle.rows.proofs.RowLaws.{overlay_nil, front_filled}
use Rattle.rows.specs.HeardLaws.{clean_take, clean_drop}
use Rattle.frame.specs.Frame.{data_of, bytes_of}
use Rattle.frame.specs.ByteLaws.{length_bytes}
use Rattle.frame.proofs.LoopLaws.{bytes_turn}
use Rattle.frame.proofs.within.bytes_of.Goals as goal

pub loop-i-init : goal.loop-i-init
unfolding bytes_of
loop-i-init c = (omega arith, omega arith, sym (overlay_nil _ _))

pub byte_at-requires : goal.byte_at-requires
byte_at-requires c = let k = length-take-le c.args.n c.args.out.now (omega arith) in
    (omega arith, clean_take 8 _ (clean_drop (9 * c.loop-i.i) c.args.row.now c.requires.2))

pub loop-i-preserved : goal.loop-i-preserved
loop-i-preserved c = let l = c.loop-i in
    let a = c.args in
    let k = length-take-le a.n a.out.now (omega arith) in
    let s : length (set l.b-items l.i c.byte_at.result) ≡ length l.b-items = length-set l.b-items l.i c.byte_at.result in
    (omega arith, omega arith, rw (l.invariant.2, c.byte_at.ensures) (bytes_turn (take a.n a.out.now) a.row.now l.i (omega arith) (omega arith)))

pub returns : goal.returns
returns c = let l = c.loop-i in
    let a = c.args in
    let k = length-take-le a.n a.out.now (omega arith) in
    let e : l.i ≡ a.n = omega arith in
    front_filled a.out.now (bytes_of a.n (data_of a.n a.row.now)) l.b-items a.n (omega arith) (omega (arith, length_bytes a.n (data_of a.n a.row.now))) (rw e at l.invariant.2)
