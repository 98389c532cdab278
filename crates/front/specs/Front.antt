-- T-01, "Raw energies from the new front end": what a half, a bit, the end and a row are, and what is refused with 13; over the logic's account of
-- IEEE 754 (`lib.Ieee`), in which a number is `nan`, an infinity, or m * 2 ^ e with a sign. `lt`, `le`, `ne` and `mul` are the machine's own.
use Rattle.std.specs.Prelude.{ℕ, ◌%◌, Bool, true, false, cond, not, ◌&&◌, ◌||◌, List, [], ◌∷◌, length, eqb, Float}
use Rattle.std.specs.Float.{nan, inf, fin, binary32}
use Rattle.std.specs.Float.Ieee.{of_bits, lt, le, ne, mul}
use Rattle.front.specs.declared.Gate.{Gate}
use Rattle.front.specs.declared.Gate.TheVariants.{Level, Share, Off}
use Rattle.front.specs.declared.Profile.{Profile}

-- 0 and 1, by their bits
abbrev pub zero : Float
zero = of_bits binary32 0

abbrev pub one : Float
one = of_bits binary32 0x3f800000

-- ---- which numbers are taken

-- not "a NaN, an infinity, a number below zero (minus zero is zero)"
unfoldable pub energy : Float → Bool
energy nan = false
energy (inf s) = false
energy (fin s m e) = not s || eqb m 0

-- .. "Halves after the end are tested for 13" too
unfoldable pub energies : List Float → Bool
energies [] = true
energies (x ∷ h) = energy x && energies h

-- the level: the gate's own, or "a share times the profile's peak is rounded once"; off has none, and 0 stands in its place
abbrev pub level_of : Gate → Float → Float
level_of (Level l) peak = l
level_of (Share s) peak = mul binary32 s peak
level_of Off peak = zero

-- not "a level that comes out 0"
unfoldable pub level_taken : Float → Bool
level_taken l = energy l && ne l zero

-- not "a share not above 0 and at most 1, or a level that comes out 0"
unfoldable pub share_taken : Float → Float → Bool
share_taken s level = lt zero s && le s one && ne level zero

abbrev pub gate_taken : Gate → Float → Bool
gate_taken (Level l) level = level_taken l
gate_taken (Share s) level = share_taken s level
gate_taken Off level = true

-- the whole test for 13, at a level: "A lone last half is 13"
unfoldable pub taken_at : Profile → Float → List Float → Bool
taken_at p level h = eqb (length h % 2) 0 && energies h && energy p.floor && energy p.peak && gate_taken p.gate level

abbrev pub taken : Profile → List Float → Bool
taken p h = taken_at p (level_of p.gate p.peak) h

-- ---- halves, bits, the end, the row

-- "A half is loaded when its energy is at least the level and above the floor"
unfoldable pub loaded : Float → Float → Float → Bool
loaded level floor e = le level e && lt floor e

-- "Only the first half loaded is a 1, only the second a 0, both a collision"
abbrev pub bit_of : Bool → Bool → ℕ
bit_of true true = 2
bit_of true false = 1
bit_of false second = 0

-- .. "neither the end"
abbrev pub ending : Bool → Bool → Bool
ending first second = not first && not second

-- the bits before the end
unfoldable pub row_at : Float → Float → List Float → List ℕ
row_at level floor [] = []
row_at level floor (a ∷ []) = []
row_at level floor (a ∷ b ∷ h) =
    cond (ending (loaded level floor a) (loaded level floor b)) []
    (bit_of (loaded level floor a) (loaded level floor b) ∷ row_at level floor h)

-- "The gate is a fixed level, a share of the strongest half heard, or off (then every row is silence)"
abbrev pub gated : Gate → Float → Float → List Float → List ℕ
gated (Level l) level floor h = row_at level floor h
gated (Share s) level floor h = row_at level floor h
gated Off level floor h = []

abbrev pub row_of : Profile → List Float → List ℕ
row_of p h = gated p.gate (level_of p.gate p.peak) p.floor h
