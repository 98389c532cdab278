use Rattle.std.proofs.Common.{◌≡◌, ◌*◌, take, sym, arith, length-take-le}
use Rattle.rows.proofs.RowLaws.{overlay_nil}
use Rattle.rows.specs.HeardLaws.{clean_take, clean_drop}
use Rattle.frame.specs.Frame.{bytes_of}
use Rattle.frame_b.specs.LoopBLaws.{bytes_turn, bytes_over}
use Rattle.frame_b.proofs.within.bytes_of.Goals as goal

pub loop-i-init : goal.loop-i-init
unfolding bytes_of
loop-i-init c = sym (overlay_nil _ _)

pub byte_at-requires : goal.byte_at-requires
byte_at-requires c =
    let a = c.args in
    let n = length-take-le a.n a.out.now (omega arith) in
    (omega arith, clean_take 8 _ (clean_drop (8 * c.loop-i.i) a.row.now c.requires.2))

pub loop-i-preserved : goal.loop-i-preserved
loop-i-preserved c =
    let a = c.args in
    let l = c.loop-i in
    rw (l.invariant, c.byte_at.ensures) (bytes_turn (take a.n a.out.now) a.row.now l.i c.loop-i-test.true)

pub returns : goal.returns
returns c =
    let a = c.args in
    let l = c.loop-i in
    let n = length-take-le a.n a.out.now (omega arith) in
    let e : l.i ≡ a.n = omega arith in
    rw (l.invariant, e) (bytes_over a.out.now a.row.now a.n (omega arith))
