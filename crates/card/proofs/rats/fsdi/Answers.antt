-- `card::rats::fsdi` meets its contract: an element is a byte, so the sums fit. Assumes nothing.
use native.Mathlib.Omega.{arith}
use Rattle.card.specs.RatsLaws.{fsdi_read}
use Rattle.card.proofs.rats.fsdi.Goals as goal

pub overflow_cast-result : goal.overflow_cast-result
overflow_cast-result c = omega (arith, c.shared_slice_known-1.given 13)

pub overflow_cast-result-2 : goal.overflow_cast-result-2
overflow_cast-result-2 c = omega (arith, c.shared_slice_known-2-1.given 14)

pub overflow_cast-result-3 : goal.overflow_cast-result-3
overflow_cast-result-3 c = omega (arith, c.shared_slice_known-3-1.given 15)

pub overflow_cast-result-4 : goal.overflow_cast-result-4
overflow_cast-result-4 c = omega (arith, c.shared_slice_known-4-1.given 16)

pub overflow_mul-result : goal.overflow_mul-result
overflow_mul-result c = omega (arith, c.shared_slice_known-4-1.given 16)

pub overflow_add-result : goal.overflow_add-result
overflow_add-result c = omega (arith, c.shared_slice_known-3-1.given 15, c.shared_slice_known-4-1.given 16)

pub overflow_mul-result-2 : goal.overflow_mul-result-2
overflow_mul-result-2 c = omega (arith, c.shared_slice_known-3-1.given 15, c.shared_slice_known-4-1.given 16)

pub overflow_add-result-2 : goal.overflow_add-result-2
overflow_add-result-2 c = omega (arith, c.shared_slice_known-2-1.given 14, c.shared_slice_known-3-1.given 15, c.shared_slice_known-4-1.given 16)

pub overflow_mul-result-3 : goal.overflow_mul-result-3
overflow_mul-result-3 c = omega (arith, c.shared_slice_known-2-1.given 14, c.shared_slice_known-3-1.given 15, c.shared_slice_known-4-1.given 16)

pub overflow_add-result-3 : goal.overflow_add-result-3
overflow_add-result-3 c = omega (arith, c.shared_slice_known-1.given 13, c.shared_slice_known-2-1.given 14, c.shared_slice_known-3-1.given 15, c.shared_slice_known-4-1.given 16)

pub returns : goal.returns
returns c = fsdi_read c.args.row.now c.requires
