-- T-01's corners by their bits, and the row of a worked example: one table of theorems on the definitions.
use Rattle.std.specs.Prelude.{◌≡◌, refl, Bool, true, false, List, [], ◌∷◌, map, ℕ, Float, Err}
use Rattle.std.specs.Float.{binary32}
use Rattle.std.specs.Float.Ieee.{of_bits, lt, le, eq, ne, mul}
use Rattle.front.specs.declared.Profile.{Profile}
use Rattle.front.specs.declared.Gate.TheVariants.{Share, Off}
use Rattle.front.specs.declared.NotHeard.TheVariants.{NoRoom, NotEnergies}
use Rattle.front.specs.Front.{energy, energies, level_of, level_taken, share_taken, taken_at, taken, loaded, row_at, row_of}
use Rattle.front.specs.Calls.{number_of}

abbrev f : ℕ → Float
f = of_bits binary32

-- a share and the level that it comes to, tested
abbrev tested : ℕ → ℕ → Bool
tested s peak = share_taken (f s) (level_of (Share (f s)) (f peak))

abbrev share : Profile
share = record { floor = f 0x3DCCCCCD; peak = f 0x40800000; gate = Share (f 0x3E800000) }

abbrev worked : List ℕ
worked = 0x40800000 ∷ 0 ∷ 0x3DCCCCCD ∷ 0x3F800000 ∷ 0x3F800000 ∷ 0x3F800000 ∷ 0 ∷ 0 ∷ 0x40800000 ∷ 0 ∷ []

pub record FrontTable : Type 0 where
  -- "Refuse with 13, after 1"
  pub room : number_of (Err NoRoom) ≡ 1
  pub thirteen : number_of (Err NotEnergies) ≡ 13
  -- a NaN, both infinities, the number next below zero; minus zero, the largest finite number
  pub nan : energy (f 0x7FC00000) ≡ false
  pub infinity : energy (f 0x7F800000) ≡ false
  pub minus_infinity : energy (f 0xFF800000) ≡ false
  pub below_zero : energy (f 0x80000001) ≡ false
  pub minus_zero : energy (f 0x80000000) ≡ true
  pub largest : energy (f 0x7F7FFFFF) ≡ true
  -- a level of 0 or minus zero; the least subnormal level
  pub level_zero : level_taken (f 0) ≡ false
  pub level_minus : level_taken (f 0x80000000) ≡ false
  pub level_least : level_taken (f 1) ≡ true
  -- a share of 0, of just over 1, of 1, with the least peak
  pub share_zero : tested 0 0x3F800000 ≡ false
  pub share_over : tested 0x3F800001 0x3F800000 ≡ false
  pub share_one : tested 0x3F800000 1 ≡ true
  -- half of the least number is 0, to the even one; a little more than half is that number; a peak of 0 leaves no level
  pub underflow : tested 0x3F000000 1 ≡ false
  pub no_underflow : tested 0x3F000001 1 ≡ true
  pub peak_zero : tested 0x3F800000 0 ≡ false
  -- floor 0.1, a quarter of a peak of 4: first half alone, second alone (the first is at the floor), both; the end; a half behind it
  pub row : row_of share (map f worked) ≡ 1 ∷ 0 ∷ 2 ∷ []
  pub row_taken : taken share (map f worked) ≡ true
  -- .. a strong half and a weak one, for `as_sent`
  pub strong : loaded (f 0x3F800000) (f 0x3DCCCCCD) (f 0x40800000) ≡ true
  pub weak : loaded (f 0x3F800000) (f 0x3DCCCCCD) (f 0x3F7FFFFF) ≡ false
  -- .. off
  pub off : row_of (record { floor = f 0; peak = f 0; gate = Off }) (map f worked) ≡ []

pub front_table : FrontTable
unfolding energies taken_at loaded row_at energy level_taken share_taken lt le eq ne mul of_bits
front_table = record {
  room = refl;
  thirteen = refl;
  nan = refl;
  infinity = refl;
  minus_infinity = refl;
  below_zero = refl;
  minus_zero = refl;
  largest = refl;
  level_zero = refl;
  level_minus = refl;
  level_least = refl;
  share_zero = refl;
  share_over = refl;
  share_one = refl;
  underflow = refl;
  no_underflow = refl;
  peak_zero = refl;
  row = refl;
  row_taken = refl;
  strong = refl;
  weak = refl;
  off = refl;
}
