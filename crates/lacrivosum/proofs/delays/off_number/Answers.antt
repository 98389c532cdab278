-- `lacrivosum::delays::off_number` meets its contract, case by case. Assumes nothing.
use mir.Syntax.{w64}
use mir.ValLaws.{to_z-of_z}
use borrow.Author.Rules.{rules}
use Rattle.lacrivosum.proofs.delays.off_number.Goals as goal

pub returns-in-Ok : goal.returns-in-Ok
returns-in-Ok c = rw c.in-Ok.is (to_z-of_z w64 c.in-Ok.z (search rules))

pub returns-in-Err : goal.returns-in-Err
returns-in-Err c = rw c.in-Err.is
