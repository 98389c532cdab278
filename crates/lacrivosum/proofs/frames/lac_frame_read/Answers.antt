-- `lacrivosum::frames::lac_frame_read` meets its contract, by that of crate frame's call. Assumes nothing.
use Rattle.limits.specs.Limits.{most_bytes}
use Rattle.frame.specs.Frame.{read_frame}
use Rattle.lacrivosum.specs.FrameLaws.{received_said}
use Rattle.lacrivosum.proofs.frames.lac_frame_read.Goals as goal

pub returns : goal.returns
returns c = let r = c.read in let both = received_said r.result _ (read_frame 1 most_bytes c.args.row.now) _ _ _ r.ensures.result_value r.ensures.out_after c.number.ensures in record { value = both.0; out_after = both.1 }
