use mathlib.Core.Path.{sym, ap, ◌∙◌}
use native.Mathlib.Omega.{arith}
use Prim.Native.Nat.{◌/◌}
use lib.ListN.{length, take, length-set}
use lib.Seq.{take_all, length-take-le}
use Rattle.rows.specs.Rows.{overlay}
use Rattle.rows.proofs.RowLaws.{overlay_nil, front_filled}
use Rattle.bench_values.specs.Values.{hex_bytes}
use Rattle.bench_values.specs.ValueLaws.{copy_front, hex_at, length_hex_bytes}
use Rattle.bench_values.proofs.within.write_hex.Goals as goal

pub loop-i-init : goal.loop-i-init
loop-i-init c = let a = c.args in
    (omega arith, length-take-le (length a.word.now / 2) a.out.now (omega arith), sym (overlay_nil _ _))

pub loop-i-preserved : goal.loop-i-preserved
loop-i-preserved c = let l = c.loop-i in
    let a = c.args in
    let w = a.word.now in
    let n = length w / 2 in
    let long = length-take-le n a.out.now (omega arith) in
    let same = length-set l.byte-items l.i c.hex_pair.result in (
      omega arith,
      omega arith,
      rw (c.hex_pair.ensures, ← hex_at w l.i (omega arith), l.invariant.2) (copy_front (take n a.out.now) (hex_bytes w) l.i (omega arith) (omega (arith, length_hex_bytes w))),
    )

pub returns : goal.returns
returns c = let l = c.loop-i in
    let a = c.args in
    let w = a.word.now in
    let n = length w / 2 in
    front_filled a.out.now (hex_bytes w) l.byte-items n (omega arith) (omega (arith, length_hex_bytes w))
    (l.invariant.2 ∙ ap (overlay (take n a.out.now) 0) (take_all l.i (hex_bytes w) (omega (arith, length_hex_bytes w))))
