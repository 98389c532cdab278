-- `reader_link::whole::hear_row` meets its contract, what was read is what `hears` hears. Assumes nothing.
use native.Mathlib.Omega.{arith}
use lib.ListN.{length, length-take}
use Rattle.block.specs.AirLaws.{read_fits, read_front}
use Rattle.reader_link.specs.WholeLaws.{heard_as_law}
use Rattle.reader_link.proofs.whole.hear_row.Goals as goal

pub slice_bounds-bytes-end : goal.slice_bounds-bytes-end
slice_bounds-bytes-end c = read_fits _ _ _ _ c.read_row-n.ensures.value c.read_row-n.ensures.out_after

pub slice_bounds-hears-end : goal.slice_bounds-hears-end
slice_bounds-hears-end c = let m = read_fits _ _ _ _ c.read_row-n.ensures.value c.read_row-n.ensures.out_after in rw length-take (omega (arith, m))

pub returns : goal.returns
returns c = let a = c.args in let both = heard_as_law a.l (length a.buffer.now) (length a.message.now) a.buffer.now (read_front _ _ _ _ c.read_row-n.ensures.value c.read_row-n.ensures.out_after) (c.hears.ensures.value, c.hears.ensures.buffer_after) in record { value = both.0; buffer_after = both.1 }
