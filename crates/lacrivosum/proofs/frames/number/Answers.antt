-- `lacrivosum::frames::number` meets its contract, case by case. Assumes nothing.
use mathlib.Core.Path.{ap}
use Rattle.lacrivosum.specs.FrameLaws.{refused_said}
use Rattle.lacrivosum.proofs.frames.number.Goals as goal
use Rattle.refusal.specs.Refusal.{number_says}

pub returns-in-Ok : goal.returns-in-Ok
returns-in-Ok c = rw c.in-Ok.is

pub returns-in-Err : goal.returns-in-Err
returns-in-Err c = refused_said _ c.in-Err.e _ (ap number_says c.in-Err.is) c.refused.ensures
