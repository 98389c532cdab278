-- `uid::check_byte` meets its contract: the definition's last exclusive-or is with 0. Assumes nothing.
use lib.Bits.{xor_zero_r}
use Rattle.uid.specs.Uid.{check}
use Rattle.uid.proofs.check_byte.Goals as goal

pub returns : goal.returns
unfolding check
returns c = rw xor_zero_r
