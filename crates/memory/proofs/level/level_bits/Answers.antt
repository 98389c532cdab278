use mathlib.Core.Path.{◌≡◌, refl, sym}
use native.Mathlib.Omega.{arith}
use borrow.Author.Rules.{rules}
use lib.ListN.{length, replicate, length-set}
use Rattle.rows.proofs.RowLaws.{overlay_nil}
use Rattle.memory.specs.Stored.{path_of}
use Rattle.memory.specs.EnterLaws.{part_turn, part_done}
use Rattle.memory.proofs.level.level_bits.Goals as goal

pub loop-i-init : goal.loop-i-init
loop-i-init c = (refl, sym (overlay_nil (replicate 40 0) 0))

pub loop-i-preserved : goal.loop-i-preserved
loop-i-preserved c = let l = c.loop-i in
    (simp length-set (omega arith), rw (l.invariant.1, c.sent_bit.ensures) (part_turn _ l.i (omega arith) (omega arith)))

pub returns-clause-value : goal.returns-clause-value
unfolding path_of
returns-clause-value c = let l = c.loop-i in
    let a = c.args in
    let k = c.level_known-m in
    let n : length a.t.path.row ≡ 120 = search rules in
    part_done a.t.path.row a.t.path.known a.at k.result k.ensures n (omega arith) l.e _ _ l.i (omega arith) refl (omega arith) l.invariant.1
