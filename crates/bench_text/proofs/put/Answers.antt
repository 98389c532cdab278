-- `bench_text::put` meets its contract. What does not fit is cut off. Assumes nothing.
use mathlib.Core.Path.{sym}
use native.Mathlib.Omega.{arith}
use lib.Seq.{length-take-le}
use Rattle.bench_text.specs.TextLaws.{wrote_past, wrote_least}
use Rattle.bench_text.proofs.put.Goals as goal

pub returns-then-out-at : goal.returns-then-out-at
returns-then-out-at c = wrote_past _ _ _ (omega arith)

pub slice_bounds-put-end : goal.slice_bounds-put-end
slice_bounds-put-end c = let t = c.args.text.now in
    sym (length-take-le c.least-n.result t (omega (arith, c.least-n.ensures)))

pub put-requires : goal.put-requires
put-requires c = let t = c.args.text.now in
    omega (arith, c.least-n.ensures, length-take-le c.least-n.result t (omega (arith, c.least-n.ensures)))

pub returns : goal.returns
returns c = let a = c.args in
    wrote_least a.out.now a.at a.text.now c.least-n.result c.put.new.out (omega arith) c.least-n.ensures c.put.ensures
