-- Worked values, on the definitions: document 01's REQA in the log record 00 07 64 C0 00 and its ATQA 04 00 in 40 12 20 00 40; and where the parity
-- broke (T-07) in rows like this ATQA.
use Rattle.std.specs.Prelude.{◌≡◌, refl, ℕ, List, [], ◌∷◌, ◌++◌, map}
use Rattle.rows.specs.Rows.{clean}
use Rattle.parity.specs.Bits.{bits_of, ones, odd}
use Rattle.frame.specs.Frame.{short, air_byte, standard, first_wrong}

reqa : short 0x26 ≡ 0 ∷ 1 ∷ 1 ∷ 0 ∷ 0 ∷ 1 ∷ 0 ∷ []
unfolding short bits_of
reqa = refl

atqa : standard (0x04 ∷ 0x00 ∷ []) ≡ 0 ∷ 0 ∷ 1 ∷ 0 ∷ 0 ∷ 0 ∷ 0 ∷ 0 ∷ 0 ∷ 0 ∷ 0 ∷ 0 ∷ 0 ∷ 0 ∷ 0 ∷ 0 ∷ 0 ∷ 1 ∷ []
unfolding standard air_byte odd ones bits_of
atqa = refl

-- 04 and 00, each with the parity bit given
atqa_with : ℕ → ℕ → List ℕ
atqa_with p q = (0 ∷ 0 ∷ 1 ∷ 0 ∷ 0 ∷ 0 ∷ 0 ∷ 0 ∷ p ∷ []) ++ (0 ∷ 0 ∷ 0 ∷ 0 ∷ 0 ∷ 0 ∷ 0 ∷ 0 ∷ q ∷ [])

-- both right; the first wrong; the second wrong; both; a collided parity bit; wrong behind a byte with a collided data bit, whose parity is not checked
broken : map (first_wrong 2) (atqa_with 0 1 ∷ atqa_with 1 1 ∷ atqa_with 0 0 ∷ atqa_with 1 0 ∷ atqa_with 0 2
    ∷ ((2 ∷ 0 ∷ 1 ∷ 0 ∷ 0 ∷ 0 ∷ 0 ∷ 0 ∷ 1 ∷ []) ++ (0 ∷ 0 ∷ 0 ∷ 0 ∷ 0 ∷ 0 ∷ 0 ∷ 0 ∷ 0 ∷ [])) ∷ []) ≡ 2 ∷ 0 ∷ 1 ∷ 0 ∷ 1 ∷ 1 ∷ []
unfolding first_wrong atqa_with clean odd ones
broken = refl
