-- Lines are collected byte by byte; each is answered at once.
use Rattle.std.specs.Prelude.{ℕ, ◌+◌, true, false, cond, List, [], ◌∷◌, length, eqb, ltb}
use Rattle.rows.specs.Rows.{overlay}
use Rattle.bench.specs.declared.Line.{Line}

-- nothing collected
abbrev pub no_line : Line
no_line = record { length = 0; overlong = false; complete = false }

-- a byte comes: a line feed completes the line; any other byte goes behind the others, or makes the line overlong where there is no room
unfoldable pub fed : ℕ → Line → ℕ → Line
fed room s b =
    cond (eqb b 10) (record { length = s.length; overlong = s.overlong; complete = true })
    (cond (ltb s.length room) (record { length = s.length + 1; overlong = s.overlong; complete = false })
    (record { length = s.length; overlong = true; complete = false }))

-- the lent bytes afterwards
unfoldable pub fed_bytes : List ℕ → Line → ℕ → List ℕ
fed_bytes d s b = cond (eqb b 10) d (cond (ltb s.length (length d)) (overlay d s.length (b ∷ [])) d)

-- many bytes, one after the other
unfoldable pub fed_all : List ℕ → Line → List ℕ → Line
fed_all d s [] = s
fed_all d s (b ∷ l) = fed_all (fed_bytes d s b) (fed (length d) s b) l

unfoldable pub fed_all_bytes : List ℕ → Line → List ℕ → List ℕ
fed_all_bytes d s [] = d
fed_all_bytes d s (b ∷ l) = fed_all_bytes (fed_bytes d s b) (fed (length d) s b) l
