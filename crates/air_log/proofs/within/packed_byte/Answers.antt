use Prim.Native.Nat.{◌+◌}
use mathlib.Core.Path.{◌≡◌, refl, sym}
use native.Mathlib.Omega.{arith}
use Rattle.air_log.specs.Log.{from_top}
use Rattle.air_log.specs.Calls.{is_marks, shown}
use Rattle.air_log.specs.PackLaws.{shown_bits, bit_small, byte_turn, byte_small}
use Rattle.air_log.proofs.within.packed_byte.Goals as goal

pub loop-j-init : goal.loop-j-init
unfolding from_top
loop-j-init c = (omega arith, refl)

pub overflow_mul-v : goal.overflow_mul-v
overflow_mul-v c = let a = c.args in
    let l = c.loop-j in
    omega (arith, byte_small (shown (is_marks a.part) a.row.now) a.from l.j (shown_bits (is_marks a.part) a.row.now) (omega arith))

pub overflow_add-v : goal.overflow_add-v
overflow_add-v c = let a = c.args in
    let l = c.loop-j in
    omega (
      arith,
      c.bit.ensures,
      bit_small (is_marks a.part) a.row.now (a.from + l.j),
      byte_small (shown (is_marks a.part) a.row.now) a.from l.j (shown_bits (is_marks a.part) a.row.now) (omega arith),
    )

pub loop-j-preserved : goal.loop-j-preserved
loop-j-preserved c = let a = c.args in
    let l = c.loop-j in
    (omega arith, rw (c.bit.ensures, l.invariant.1) (sym (byte_turn (shown (is_marks a.part) a.row.now) a.from l.j)))

pub returns : goal.returns
returns c = let l = c.loop-j in
    let e : l.j ≡ 8 = omega arith in
    rw e at l.invariant.1
