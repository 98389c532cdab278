-- `lacrivosum::frames::lac_frame_write_crc` meets its contract, by that of crate frame's call. Assumes nothing.
use Rattle.lacrivosum.specs.FrameLaws.{written_said}
use Rattle.lacrivosum.proofs.frames.lac_frame_write_crc.Goals as goal

pub returns : goal.returns
returns c = let w = c.write_crc in let both = written_said w.result _ _ _ _ _ w.ensures.result_value w.ensures.out_after c.number.ensures in record { value = both.0; out_after = both.1 }
