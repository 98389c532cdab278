-- The script language's text: bytes, rows and numbers as the programs write them, in ASCII.
use Rattle.std.specs.Prelude.{ℕ, zero, suc, ◌+◌, ◌-◌, ◌/◌, ◌%◌, ◌≡◌, cond, List, [], ◌∷◌, ◌++◌, length, take, eqb, ltb}
use Rattle.rows.specs.Rows.{overlay}

-- ---- text written behind other text

-- what of s has room from index at on: the rest is cut off
unfoldable pub fit : ℕ → ℕ → List ℕ → List ℕ
fit room at s = take (room - at) s

-- s was written into d from index at on, as far as there is room: e is d afterwards, and r the index behind what was written
pub record Wrote (d : List ℕ) (at : ℕ) (s : List ℕ) (r : ℕ) (e : List ℕ) : Type 0 where
  pub place : r ≡ at + length (fit (length d) at s)
  pub text : e ≡ overlay d at (fit (length d) at s)

-- ---- bytes: two hexadecimal digits each, in capitals; `-` for none

unfoldable pub hex_char : ℕ → ℕ
hex_char d = cond (ltb d 10) (48 + d) (55 + d)

abbrev pub hex_byte : ℕ → List ℕ
hex_byte b = hex_char (b / 16) ∷ hex_char (b % 16) ∷ []

unfoldable pub hex_digits : List ℕ → List ℕ
hex_digits [] = []
hex_digits (b ∷ l) = hex_byte b ++ hex_digits l

unfoldable pub hex_text : List ℕ → List ℕ
hex_text [] = 45 ∷ []
hex_text (b ∷ l) = hex_digits (b ∷ l)

-- ---- rows: `0`, `1` and, for a collided bit, `x`; `-` for the empty row

unfoldable pub bit_char : ℕ → ℕ
bit_char x = cond (eqb x 0) 48 (cond (eqb x 1) 49 120)

unfoldable pub bits_text : List ℕ → List ℕ
bits_text [] = []
bits_text (x ∷ r) = bit_char x ∷ bits_text r

unfoldable pub row_text : List ℕ → List ℕ
row_text [] = 45 ∷ []
row_text (x ∷ r) = bits_text (x ∷ r)

-- ---- numbers: decimal, no zeros in front

abbrev pub last_digit : ℕ → List ℕ
last_digit n = (48 + n % 10) ∷ []

-- n's digits, at most one more than f of them
unfoldable pub digits : ℕ → ℕ → List ℕ
digits zero n = last_digit n
digits (suc f) n = cond (ltb n 10) (last_digit n) (digits f (n / 10) ++ last_digit n)

unfoldable pub decimal_text : ℕ → List ℕ
decimal_text n = digits n n
