-- `sent_v::within::grown_mask` meets its contract: the bytes of the bits that are left, and of four more. Assumes nothing.
use mathlib.Core.Path.{ap, ◌∙◌}
use lib.ListN.{length-take}
use Rattle.frame.specs.Frame.{bytes_of}
use Rattle.sent_v.specs.Sent.{grown_mask}
use Rattle.sent_v.specs.SentLaws.{grown_bits, grown_read, fill_clean, whole_bytes_law}
use borrow.Author.Rules.{rules}
use native.Mathlib.Omega.{arith}
use Rattle.sent_v.proofs.within.grown_mask.Goals as goal

pub slice_bounds-put-end-2 : goal.slice_bounds-put-end-2
slice_bounds-put-end-2 c = rw length-take (omega arith)

pub put-requires : goal.put-requires
put-requires c = rw length-take (omega arith)

pub bytes_of-requires : goal.bytes_of-requires
bytes_of-requires c = (search rules, search rules, rw (grown_read c.args.mask c.args.len c.args.slot _ _ _ (search rules) c.requires c.cut_bits-bits.ensures c.bits_of-s.ensures c.put.ensures) (fill_clean _ (grown_bits c.args.mask c.args.len c.args.slot)))

pub returns : goal.returns
unfolding grown_mask
returns c = whole_bytes_law _ _ c.bytes_of.ensures ∙ ap (bytes_of 8) (grown_read c.args.mask c.args.len c.args.slot _ _ _ (search rules) c.requires c.cut_bits-bits.ensures c.bits_of-s.ensures c.put.ensures)
