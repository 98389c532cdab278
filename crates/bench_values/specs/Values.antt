-- The script language's words as values: bytes, rows and numbers, as the programs read them.
use Rattle.std.specs.Prelude.{ℕ, Option, Some, None, Result, Ok, Err, ◌+◌, ◌-◌, ◌*◌, ◌%◌, Bool, true, false, cond, ◌&&◌, List, [], ◌∷◌, length, eqb, leb, ltb}
use Rattle.rows.specs.Rows.{overlay, same}
use Rattle.bench_values.specs.declared.Alphabet.{Alphabet}
use Rattle.bench_values.specs.declared.Alphabet.TheVariants.{Hex, Bits, Decimal}
use Rattle.bench_values.specs.declared.ReadError.{ReadError}
use Rattle.bench_values.specs.declared.ReadError.TheVariants.{TooLong, NotRead}

-- ---- letters: what each stands for, 16 where it stands for nothing

-- `0` to `9`, `A` to `F`, `a` to `f`
unfoldable pub hex_value : ℕ → ℕ
hex_value c =
    cond (ltb c 48) 16
    (cond (ltb c 58) (c - 48)
    (cond (ltb c 65) 16
    (cond (ltb c 71) (c - 55)
    (cond (ltb c 97) 16
    (cond (ltb c 103) (c - 87) 16)))))

-- `0`, `1`, and `x` for a collided bit, which is written 2
unfoldable pub bit_value : ℕ → ℕ
bit_value c = cond (eqb c 48) 0 (cond (eqb c 49) 1 (cond (eqb c 120) 2 16))

-- `0` to `9`
unfoldable pub decimal_value : ℕ → ℕ
decimal_value c = cond (ltb c 48) 16 (cond (ltb c 58) (c - 48) 16)

abbrev pub value_of : Alphabet → ℕ → ℕ
value_of Hex c = hex_value c
value_of Bits c = bit_value c
value_of Decimal c = decimal_value c

-- every letter of a word stands for something
unfoldable pub spelt : Alphabet → List ℕ → Bool
spelt a [] = true
spelt a (c ∷ w) = cond (ltb (value_of a c) 16) (spelt a w) false

-- ---- words

-- what a word means: these bytes or bits, or nothing
pub data Meaning : Type 0 where
  These : List ℕ → Meaning
  Nothing : Meaning

-- `-`, for no bytes and for the empty row
abbrev pub is_dash : List ℕ → Bool
is_dash w = same w (45 ∷ [])

abbrev pub hex_pair : ℕ → ℕ → ℕ
hex_pair a b = 16 * (hex_value a % 16) + hex_value b % 16

-- two letters are a byte
unfoldable pub hex_bytes : List ℕ → List ℕ
hex_bytes [] = []
hex_bytes (a ∷ []) = []
hex_bytes (a ∷ b ∷ w) = hex_pair a b ∷ hex_bytes w

-- an even number of digits, at least two
unfoldable pub hex_word : List ℕ → Meaning
hex_word w =
    cond (is_dash w) (These [])
    (cond (leb 2 (length w) && eqb (length w % 2) 0 && spelt Hex w) (These (hex_bytes w)) Nothing)

-- a letter is a bit
unfoldable pub row_bits : List ℕ → List ℕ
row_bits [] = []
row_bits (c ∷ w) = bit_value c ∷ row_bits w

unfoldable pub row_word : List ℕ → Meaning
row_word w = cond (is_dash w) (These []) (cond (leb 1 (length w) && spelt Bits w) (These (row_bits w)) Nothing)

-- ---- a word read into lent memory: how many elements were written at its front; or why not, and it is unchanged

abbrev pub read_answer : ℕ → Meaning → Result ℕ ReadError
read_answer room (These l) = cond (ltb room (length l)) (Err TooLong) (Ok (length l))
read_answer room Nothing = Err NotRead

abbrev pub meant : Meaning → List ℕ
meant (These l) = l
meant Nothing = []

abbrev pub read_after : Result ℕ ReadError → Meaning → List ℕ → List ℕ
read_after (Ok n) m out = overlay out 0 (meant m)
read_after (Err e) m out = out

-- ---- numbers: one to five digits

-- the number that v and then the digits of w make
unfoldable pub joined : ℕ → List ℕ → ℕ
joined v [] = v
joined v (c ∷ w) = joined (10 * v + decimal_value c % 10) w

-- a number of one to k digits
unfoldable pub number_word : ℕ → List ℕ → Option ℕ
number_word k w = cond (leb 1 (length w) && leb (length w) k && spelt Decimal w) (Some (joined 0 w)) None
