-- `crc::sent_of` meets its contract, by that of `crc_of`. Assumes nothing.
use mathlib.Core.Path.{◌≡◌, ◌∙◌}
use native.Mathlib.Omega.{arith}
use Prim.Native.Nat.{◌/◌, ◌%◌}
use Rattle.crc.specs.CrcOf.{sent_of}
use Rattle.crc.proofs.sent_of.Goals as goal

pub returns : goal.returns
unfolding sent_of
returns c = let h = c.to_le_bytes.ensures in
    let e : c.crc_of.result / 256 % 256 ≡ c.crc_of.result / 256 = omega arith in
    h ∙ rw (e, c.crc_of.ensures)
