-- `sent_v::within::put_request` meets its contract: its parts, one behind the other. Assumes nothing.
use lib.ListN.{length-take}
use Rattle.sent_v.specs.Sent.{request_bytes}
use native.Mathlib.Omega.{arith}
use Rattle.sent_v.proofs.within.put_request.Goals as goal

pub slice_bounds-head-end : goal.slice_bounds-head-end
slice_bounds-head-end c = omega (arith, c.head_length-n.ensures.upper_bound)

pub slice_bounds-put_parts-end : goal.slice_bounds-put_parts-end
slice_bounds-put_parts-end c = rw length-take (omega (arith, c.head_length-n.ensures.upper_bound))

pub put_parts-requires : goal.put_parts-requires
put_parts-requires c = rw length-take (omega (arith, c.head_length-n.ensures.upper_bound, c.requires))

pub returns : goal.returns
unfolding request_bytes
returns c = let p = c.put_parts.ensures in rw (c.head_length-n.ensures.value, c.head_bytes-head.ensures) at p
