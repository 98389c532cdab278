-- `sent_v::within::cut_bits` meets its contract: a part of the mask's bits, at the front of zeros. Assumes nothing.
use mathlib.Core.Path.{ap, ◌∙◌}
use lib.ListN.{length-take, take, replicate}
use Rattle.rows.specs.Rows.{overlay}
use Rattle.request_v.specs.InventoryLaws.{bits_whole}
use Rattle.sent_v.specs.SentLaws.{cut_is}
use borrow.Author.Rules.{rules}
use native.Mathlib.Omega.{arith}
use Rattle.sent_v.proofs.within.cut_bits.Goals as goal

pub slice_bounds-put-end-2 : goal.slice_bounds-put-end-2
slice_bounds-put-end-2 c = rw length-take (omega arith)

pub put-requires : goal.put-requires
put-requires c = rw length-take (omega arith)

pub returns : goal.returns
returns c = let w = bits_whole c.args.mask _ (search rules) c.put_bits.ensures in
    cut_is _ _ (c.put.ensures ∙ ap (λ r. overlay (replicate 64 0) 0 (take c.args.len r)) w)
