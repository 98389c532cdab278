-- `sent_v::within::put_round` meets its contract: its parts, one behind the other. Assumes nothing.
use lib.ListN.{length-take}
use Rattle.sent_v.specs.Sent.{round_bytes}
use native.Mathlib.Omega.{arith}
use Rattle.sent_v.proofs.within.put_round.Goals as goal

pub cut_mask-mask-requires : goal.cut_mask-mask-requires
cut_mask-mask-requires c = c.requires.1

pub slice_bounds-head-end : goal.slice_bounds-head-end
slice_bounds-head-end c = omega (arith, c.round_length-n.ensures.upper_bound)

pub slice_bounds-put_parts-end : goal.slice_bounds-put_parts-end
slice_bounds-put_parts-end c = rw length-take (omega (arith, c.round_length-n.ensures.upper_bound))

pub slice_bounds-mask-end : goal.slice_bounds-mask-end
slice_bounds-mask-end c = omega (arith, c.requires.1)

pub slice_bounds-put_parts-end-3 : goal.slice_bounds-put_parts-end-3
slice_bounds-put_parts-end-3 c = rw length-take (omega (arith, c.requires.1))

pub put_parts-requires : goal.put_parts-requires
put_parts-requires c = rw (length-take, length-take) (omega (arith, c.round_length-n.ensures.upper_bound, c.requires.0, c.requires.1))

pub returns : goal.returns
unfolding round_bytes
returns c = let p = c.put_parts.ensures in
    rw (c.round_flags.ensures, c.round_length-n.ensures.value, c.cut_mask-mask.ensures) at p
