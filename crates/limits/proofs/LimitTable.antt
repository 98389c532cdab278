-- The limits as document 01, T-06 and T-09 state them, and what follows from them: one table of theorems.
use Rattle.std.specs.Prelude.{◌≡◌, refl, ℕ, ◌*◌, ◌≤◌}
use Rattle.std.proofs.Common.{arith}
use Rattle.limits.specs.Limits.{most_cards, log_room, list_room, most_frames, most_bytes, row_room, frame_room, answer_room, message_max}

pub record LimitTable : Type 0 where
  -- T-06: "The limit of 16 becomes 32, .. the list 352"; T-09: "The log room rises to 40,960 bytes"
  pub cards : most_cards ≡ 32
  pub log : log_room ≡ 40960
  pub list : list_room ≡ 352
  -- the comb of 32 cards needs them all
  pub frames : most_frames ≡ 753
  -- a frame and what was heard take at most 27 bytes of log (demand 3): the log asked for always holds a sweep
  pub log_holds : 27 * most_frames ≤ log_room
  -- "1 to 256 bytes, each followed by odd parity"; SELECT is nine bytes, a level five
  pub bytes : most_bytes ≡ 256
  pub row : row_room ≡ 2304
  pub select : frame_room ≡ 9 * 9
  pub level : answer_room ≡ 9 * 5
  -- "0 to 4,096 bytes"
  pub message : message_max ≡ 4096

pub limit_table : LimitTable
limit_table = record {
  cards = refl;
  log = refl;
  list = refl;
  frames = refl;
  log_holds = omega arith;
  bytes = refl;
  row = refl;
  select = refl;
  level = refl;
  message = refl;
}
