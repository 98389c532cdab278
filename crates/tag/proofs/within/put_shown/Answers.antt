use Prim.Native.Nat.{◌+◌, ◌*◌}
use mathlib.Core.Path.{◌≡◌, refl, sym}
use Rattle.rows.proofs.RowLaws.{overlay_nil}
use Rattle.frame.specs.Frame.{air_bits}
use Rattle.tag.specs.Memory.{shown_from}
use Rattle.tag.specs.MemoryLaws.{block_fits, turn_fits, next_blocks, shown_turn, count_turn}
use native.Mathlib.Omega.{arith}
use Rattle.tag.proofs.within.put_shown.Goals as goal

pub loop-i-init : goal.loop-i-init
unfolding shown_from air_bits
loop-i-init c = (omega arith, refl, omega arith, refl, sym (overlay_nil _ _))

pub put_block-at-requires : goal.put_block-at-requires
put_block-at-requires c = let a = c.args in
    let l = c.loop-i in
    let m = a.memory.now in
    let k = a.locks.now in
    (omega (arith, block_fits a.size (a.first + l.i) (a.first + a.count) (omega arith), c.requires.0), omega (arith, c.requires.1), omega (arith, l.invariant.2, l.invariant.3, turn_fits (a.size + 1) l.i a.count (omega arith), c.requires.2))

pub overflow_add-at : goal.overflow_add-at
overflow_add-at c = let a = c.args in let l = c.loop-i in omega (arith, c.put_block-at.ensures.upper_bound, l.invariant.2, l.invariant.3, turn_fits (a.size + 1) l.i a.count (omega arith), c.requires.2)

pub loop-i-preserved : goal.loop-i-preserved
loop-i-preserved c = let a = c.args in
    let l = c.loop-i in
    let m = a.memory.now in
    let k = a.locks.now in
    let p = c.put_block-at in
    let s = turn_fits (a.size + 1) l.i a.count (omega arith) in
    let e : (l.i + 1) * (a.size + 1) ≡ l.i * (a.size + 1) + (a.size + 1) = next_blocks (a.size + 1) l.i in (
      omega arith,
      count_turn a.status a.size m k a.first l.i l.at p.result l.invariant.1 p.ensures.value,
      omega (arith, e, p.ensures.upper_bound, l.invariant.2),
      omega (arith, l.invariant.3),
      rw (p.ensures.out_after, l.invariant.4) (shown_turn a.status a.size m k a.out.now a.first l.i l.at l.invariant.1 (omega (arith, p.ensures.value, p.ensures.upper_bound, l.invariant.2, s, c.requires.2))),
    )

pub returns : goal.returns
returns c = let a = c.args in
    let l = c.loop-i in
    let e : l.i ≡ a.count = omega arith in record { value = rw e at l.invariant.1; upper_bound = rw e at l.invariant.2; out_after = rw e at l.invariant.4 }
