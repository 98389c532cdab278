use mathlib.Core.Path.{◌≡◌, refl, sym, ap, ◌∙◌}
use borrow.Author.Rules.{rules}
use native.Mathlib.Omega.{arith}
use lib.ListN.{length, replicate, length-set}
use lib.Seq.{take_all}
use Rattle.rows.specs.Rows.{overlay}
use Rattle.rows.proofs.RowLaws.{overlay_nil, overlay_all}
use Rattle.frame.specs.Frame.{data_of}
use Rattle.selection.specs.LevelLaws.{length_data, data_turn}
use Rattle.selection.proofs.level.data_bits.Goals as goal

pub loop-i-init : goal.loop-i-init
loop-i-init c = (omega arith, search rules, search rules, sym (overlay_nil _ _), search rules)

pub loop-i-preserved : goal.loop-i-preserved
loop-i-preserved c = let l = c.loop-i in
    let w = c.args.w in
    (omega arith, simp length-set (omega arith), omega arith, rw l.invariant.3 (data_turn (replicate 40 0) w l.i refl l.invariant.2 (omega arith)), refl)

pub returns : goal.returns
returns c = let l = c.loop-i in
    let w = c.args.w in
    let n : length (data_of 5 w) ≡ 40 = length_data 5 w (omega arith) in
    l.invariant.3 ∙ ap (overlay (replicate 40 0) 0) (take_all l.i (data_of 5 w) (omega arith)) ∙ overlay_all (replicate 40 0) (data_of 5 w) (sym n)
