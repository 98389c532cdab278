-- `parity::odd_parity` meets its contract: three halvings leave one bit. Assumes nothing.
use mathlib.Core.Path.{◌≡◌, ◌∙◌}
use native.Mathlib.Omega.{arith}
use lib.Bits.{bit_xor}
use Prim.Native.Nat.{ℕ, ◌/◌, ◌%◌}
use Rattle.parity.specs.Bits.{bits_of, ones, odd}
use Rattle.parity.specs.FoldLaws.{halved, one_left}
use Rattle.parity.proofs.odd_parity.Goals as goal

pub returns : goal.returns
unfolding odd
returns c = let b : ℕ = c.args.b in
    let x : ℕ = bit_xor b (b / 16) in
    let y : ℕ = bit_xor x (x / 4) in
    let e : ones (bits_of 8 b) % 2 ≡ ones (bits_of 1 (bit_xor y (y / 2))) % 2 = halved 4 b ∙ halved 2 x ∙ halved 1 y in
    omega (arith, e, one_left (bit_xor y (y / 2)))
