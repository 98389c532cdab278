-- Type B's limits as document 02 states them: one table of theorems.
use Rattle.std.specs.Prelude.{◌≡◌, refl}
use Rattle.frame_b.specs.LimitsB.{most_slots, list_room_b, frame_room_b, answer_room_b}

pub record LimitBTable : Type 0 where
  pub slots : most_slots ≡ 16
  -- "208 bytes asked"
  pub list : list_room_b ≡ 208
  pub frame : frame_room_b ≡ 88
  pub answer : answer_room_b ≡ 112

pub limit_b_table : LimitBTable
limit_b_table = record { slots = refl; list = refl; frame = refl; answer = refl }
