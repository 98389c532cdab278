-- The sum of T-14 at a few fields, one table of theorems on the definition.
use Rattle.std.specs.Prelude.{◌≡◌, refl, ℕ, List, [], ◌∷◌}
use Rattle.rows.specs.Rows.{any, same}
use Rattle.parity.specs.Bits.{bits_of}
use Rattle.frame.specs.Frame.{air_bits}
use Rattle.uid.specs.Order.{diff, later, above, is_up, insert_on, sort_on, one, count, parts_at, parts}
use Rattle.uid.specs.Uid.{check, level, levels, air, row_of, falling, frame_sum}
use Rattle.memory_rules.specs.Count.{shared, is_past, parts_past, shared_levels, new_collisions, term, add_up, recall_sum, level_frames, all_shared, collisions}
use Rattle.uid.specs.declared.Uid.{Uid}
use Rattle.uid.specs.declared.UidSize.{UidSize}
use Rattle.uid.specs.declared.UidSize.TheVariants.{Single, Double, Triple}

abbrev uid : UidSize → List ℕ → Uid
uid z l = record { size = z; bytes = l }

-- the UIDs 01020304 and 80122821
abbrev low : Uid
low = uid Single (0x01 ∷ 0x02 ∷ 0x03 ∷ 0x04 ∷ 0 ∷ 0 ∷ 0 ∷ 0 ∷ 0 ∷ 0 ∷ [])

abbrev high : Uid
high = uid Single (0x80 ∷ 0x12 ∷ 0x28 ∷ 0x21 ∷ 0 ∷ 0 ∷ 0 ∷ 0 ∷ 0 ∷ 0 ∷ [])

-- 04112233445566 and 04112233445567 share their first level
abbrev six : Uid
six = uid Double (0x04 ∷ 0x11 ∷ 0x22 ∷ 0x33 ∷ 0x44 ∷ 0x55 ∷ 0x66 ∷ 0 ∷ 0 ∷ 0 ∷ [])

abbrev seven : Uid
seven = uid Double (0x04 ∷ 0x11 ∷ 0x22 ∷ 0x33 ∷ 0x44 ∷ 0x55 ∷ 0x67 ∷ 0 ∷ 0 ∷ 0 ∷ [])

-- 04112233445566 shares a level with 04112288445501020305, and that two with 04112288445501020304
abbrev five : Uid
five = uid Triple (0x04 ∷ 0x11 ∷ 0x22 ∷ 0x88 ∷ 0x44 ∷ 0x55 ∷ 0x01 ∷ 0x02 ∷ 0x03 ∷ 0x05 ∷ [])

abbrev four : Uid
four = uid Triple (0x04 ∷ 0x11 ∷ 0x22 ∷ 0x88 ∷ 0x44 ∷ 0x55 ∷ 0x01 ∷ 0x02 ∷ 0x03 ∷ 0x04 ∷ [])

pub record CountTable : Type 0 where
  pub none : recall_sum [] ≡ 1
  pub two : recall_sum (low ∷ high ∷ []) ≡ 10
  -- four cards: the third shares a level with the second, and is met where these two part; the plain sweep meets a collision twice
  pub order : falling (low ∷ high ∷ six ∷ seven ∷ []) ≡ low ∷ seven ∷ six ∷ high ∷ []
  pub sum : recall_sum (low ∷ seven ∷ six ∷ high ∷ []) ≡ 23
  pub plain : frame_sum (low ∷ seven ∷ six ∷ high ∷ []) ≡ 25
  -- its three parts
  pub frames : level_frames (low ∷ seven ∷ six ∷ high ∷ []) ≡ 20
  pub levels : all_shared (low ∷ seven ∷ six ∷ high ∷ []) ≡ 1
  pub met : collisions (low ∷ seven ∷ six ∷ high ∷ []) ≡ 3
  -- one level shared, and then two
  pub more_order : falling (four ∷ five ∷ six ∷ []) ≡ six ∷ five ∷ four ∷ []
  pub more_levels : all_shared (six ∷ five ∷ four ∷ []) ≡ 3
  pub more_sum : recall_sum (six ∷ five ∷ four ∷ []) ≡ 22
  pub more_plain : frame_sum (six ∷ five ∷ four ∷ []) ≡ 25

pub table : CountTable
unfolding any same bits_of air_bits diff later above is_up insert_on sort_on one count parts_at parts check level levels air row_of falling frame_sum shared is_past parts_past shared_levels new_collisions term add_up recall_sum level_frames all_shared collisions
table = record {
  none = refl;
  two = refl;
  order = refl;
  sum = refl;
  plain = refl;
  frames = refl;
  levels = refl;
  met = refl;
  more_order = refl;
  more_levels = refl;
  more_sum = refl;
  more_plain = refl;
}
