-- `tag::within::put_block` meets its contract: the status, if it is asked for, and the block behind it. Assumes nothing.
use mathlib.Core.Bool.{true, false}
use mathlib.Core.Path.{sym}
use Rattle.tag.specs.Memory.{shown}
use Rattle.tag.specs.MemoryLaws.{length_block, block_part, length_shown, status_put}
use native.Mathlib.Omega.{arith}
use Rattle.tag.proofs.within.put_block.Goals as goal

pub returns : goal.returns
unfolding shown
returns c = let a = c.args in
    let m = a.memory.now in
    let l = a.locks.now in
    let k = length_shown a.size m a.b c.requires.0 true l in record { value = rw c.if-not-status.false (sym k); upper_bound = omega arith; out_after = rw (c.put_bits-3.ensures, c.put_bits-2.ensures, c.status_of.ensures, c.if-not-status.false, block_part a.size m a.b c.requires.0) (status_put a.out.now _ _ a.at (rw (length_block a.size m a.b c.requires.0) c.requires.2)) }

pub returns-then-not-status : goal.returns-then-not-status
unfolding shown
returns-then-not-status c = let a = c.args in
    let m = a.memory.now in
    let l = a.locks.now in
    let k = length_shown a.size m a.b c.requires.0 false l in record { value = rw c.if-not-status.true (sym k); upper_bound = omega arith; out_after = rw (c.put_bits.ensures, c.if-not-status.true, block_part a.size m a.b c.requires.0) }
