-- `tag::within::put_read` meets its contract: 00, the blocks, and CRC_B behind them. Assumes nothing.
use mathlib.Core.List.{◌∷◌}
use Rattle.rows.specs.ListLaws.{bytes_at_law}
use Rattle.frame_b.specs.FrameBLaws.{length_frame}
use Rattle.frame_v.specs.FrameVLaws.{closed, front_clean}
use Rattle.tag.specs.Memory.{shown_from}
use Rattle.tag.specs.MemoryLaws.{read_row, shown_all_bytes}
use native.Mathlib.Omega.{arith}
use Rattle.tag.proofs.within.put_read.Goals as goal

pub put_crc-requires : goal.put_crc-requires
put_crc-requires c = let a = c.args in
    let m = a.memory.now in
    let d = a.out.now in
    let X = shown_from a.status a.size m a.locks.now a.first a.count in
    let p = c.put_shown-n in
    let o = read_row d X _ _ (omega (arith, p.ensures.value, p.ensures.upper_bound, c.requires.2)) c.put_bits.ensures p.ensures.out_after in
    (omega (arith, p.ensures.upper_bound, c.requires.2), front_clean d (0 ∷ X) _ p.result (omega (arith, p.ensures.value)) o)

pub overflow_add-result : goal.overflow_add-result
overflow_add-result c = omega (arith, c.put_shown-n.ensures.upper_bound, c.requires.2)

pub overflow_mul-result : goal.overflow_mul-result
overflow_mul-result c = omega (arith, c.put_shown-n.ensures.upper_bound, c.requires.2)

pub returns : goal.returns
returns c = let a = c.args in
    let m = a.memory.now in
    let d = a.out.now in
    let X = shown_from a.status a.size m a.locks.now a.first a.count in
    let p = c.put_shown-n in
    let o = read_row d X _ _ (omega (arith, p.ensures.value, p.ensures.upper_bound, c.requires.2)) c.put_bits.ensures p.ensures.out_after in record { value = omega (arith, length_frame (0 ∷ X), p.ensures.value); out_after = closed d (0 ∷ X) _ _ p.result (omega arith, shown_all_bytes a.status a.size m a.locks.now (bytes_at_law m c.shared_slice_known-1.given) a.first a.count) (omega (arith, p.ensures.value)) (omega (arith, p.ensures.upper_bound, c.requires.2)) o c.put_crc.ensures }
