use mathlib.Core.Path.{◌∙◌, sym}
use Prim.Native.Nat.{◌+◌}
use lib.ListN.{length, length-take, length-drop}
use native.Mathlib.Omega.{arith}
use Rattle.block.specs.CutLaws.{fits_true}
use Rattle.rows.proofs.RowLaws.{overlay_part}
use Rattle.block.proofs.join.Goals as goal

pub slice_bounds-put-count : goal.slice_bounds-put-count
slice_bounds-put-count c = let a = c.args in
    omega (arith, (fits_true (a.joined + length a.payload.now) (length a.buffer.now) (sym c.if-joins.true ∙ c.joins_in-joins.ensures)).1)

pub slice_bounds-put-start : goal.slice_bounds-put-start
slice_bounds-put-start c = let a = c.args in
    omega (arith, (fits_true (a.joined + length a.payload.now) (length a.buffer.now) (sym c.if-joins.true ∙ c.joins_in-joins.ensures)).1)

pub put-requires : goal.put-requires
put-requires c = let a = c.args in
    simp (length-take, length-drop) (omega (arith, (fits_true (a.joined + length a.payload.now) (length a.buffer.now) (sym c.if-joins.true ∙ c.joins_in-joins.ensures)).1))

pub returns-then-joins-clause-buffer_after : goal.returns-then-joins-clause-buffer_after
returns-then-joins-clause-buffer_after c = let a = c.args in
    let h = fits_true (a.joined + length a.payload.now) (length a.buffer.now) (sym c.if-joins.true ∙ c.joins_in-joins.ensures) in
    rw (c.if-joins.true, c.put.ensures) (overlay_part a.buffer.now a.joined a.payload.now (omega (arith, h.1)))
