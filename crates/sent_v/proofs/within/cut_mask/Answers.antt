-- `sent_v::within::cut_mask` meets its contract: the bytes of the bits that are left. Assumes nothing.
use mathlib.Core.Path.{ap, ◌∙◌}
use Rattle.frame.specs.Frame.{bytes_of}
use Rattle.sent_v.specs.Sent.{cut_mask}
use Rattle.sent_v.specs.SentLaws.{cut_bits, fill_clean, whole_bytes_law}
use borrow.Author.Rules.{rules}
use Rattle.sent_v.proofs.within.cut_mask.Goals as goal

pub bytes_of-requires : goal.bytes_of-requires
bytes_of-requires c = (search rules, search rules, rw c.cut_bits-bits.ensures (fill_clean _ (cut_bits c.args.mask c.args.len)))

pub returns : goal.returns
unfolding cut_mask
returns c = whole_bytes_law _ _ c.bytes_of.ensures ∙ ap (bytes_of 8) c.cut_bits-bits.ensures
