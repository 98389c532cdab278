-- Worked values of document 01, on the definitions: REQA in the log record 00 07 64 C0 00, and the ATQA 04 00 in 40 12 20 00 40.
use Rattle.std.specs.Prelude.{◌≡◌, refl, [], ◌∷◌}
use Rattle.parity.specs.Bits.{bits_of, ones, odd}

reqa_bits : bits_of 7 0x26 ≡ 0 ∷ 1 ∷ 1 ∷ 0 ∷ 0 ∷ 1 ∷ 0 ∷ []
unfolding bits_of
reqa_bits = refl

atqa_parity : odd (bits_of 8 0x04) ≡ 0
unfolding odd ones bits_of
atqa_parity = refl

zero_parity : odd (bits_of 8 0x00) ≡ 1
unfolding odd ones bits_of
zero_parity = refl
