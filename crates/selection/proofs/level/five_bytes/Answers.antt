use lib.ListN.{replicate}
use Prim.Native.Nat.{◌*◌}
use mathlib.Core.Path.{◌≡◌, refl, sym, ap, ◌∙◌}
use borrow.Author.Rules.{rules}
use native.Mathlib.Omega.{arith}
use lib.ListN.{length, drop, length-set}
use lib.Seq.{take_all}
use Rattle.rows.specs.Rows.{overlay}
use Rattle.rows.proofs.RowLaws.{overlay_nil, overlay_all}
use Rattle.rows.specs.HeardLaws.{clean_take, clean_drop}
use Rattle.frame.specs.Frame.{bytes_of}
use Rattle.frame.specs.ByteLaws.{length_bytes}
use Rattle.selection.specs.LevelLaws.{bytes_turn}
use Rattle.selection.proofs.level.five_bytes.Goals as goal

pub loop-i-init : goal.loop-i-init
loop-i-init c = (omega arith, search rules, search rules, search rules, sym (overlay_nil _ _), search rules)

pub byte_at-requires : goal.byte_at-requires
byte_at-requires c = let l = c.loop-i in
    let e = c.args.e in
    (omega arith, clean_take 8 (drop (8 * l.i) e) (clean_drop (8 * l.i) e l.invariant.3))

pub loop-i-preserved : goal.loop-i-preserved
loop-i-preserved c = let l = c.loop-i in
    let e = c.args.e in (
      omega arith,
      simp length-set (omega arith),
      omega arith,
      l.invariant.3,
      rw (c.byte_at.ensures, l.invariant.4) (bytes_turn (replicate 5 0) e l.i refl (omega arith)),
      refl,
    )

pub returns : goal.returns
returns c = let l = c.loop-i in
    let e = c.args.e in
    let n : length (bytes_of 5 e) ≡ 5 = length_bytes 5 e in
    l.invariant.4 ∙ ap (overlay (replicate 5 0) 0) (take_all l.i (bytes_of 5 e) (omega arith)) ∙ overlay_all (replicate 5 0) (bytes_of 5 e) (sym n)
