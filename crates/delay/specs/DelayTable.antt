-- T-09's numbers and the judge's worked values, as theorems: both sides of a tie, both ends, ticks that wrap, and rows of each kind.
use Rattle.std.specs.Prelude.{◌≡◌, true, false, [], ℤ, pos, negsuc, refl}
use Rattle.selection.specs.Selection.{reqa, wupa}
use Rattle.parity.specs.Bits.{bits_of}
use Rattle.frame.specs.Frame.{short}
use Rattle.delay.specs.declared.Kind.TheVariants.{Reqa, Wupa, Anticollision, Select, Other}
use Rattle.delay.specs.Kind.{after_one}
use Rattle.delay.specs.Calls.{OffSaid, off_by, judge_says}

abbrev off : ℤ → OffSaid
off z = record { number = 0; off = z }

pub record DelayTable : Type 0 where
  -- "1236 carrier periods if the last data bit sent was 1, else 1172"
  pub select_after_1 : judge_says Select true 0 1236 ≡ off (pos 0)
  pub select_after_0 : judge_says Select false 0 1172 ≡ off (pos 0)
  -- "n*128 + 84 after a 1, or n*128 + 20 after a 0"
  pub other_after_1 : judge_says Other true 0 1364 ≡ off (pos 0)
  pub other_after_0 : judge_says Other false 0 1300 ≡ off (pos 0)
  -- "ties to the smaller n"
  pub tie_after_1 : judge_says Other true 0 1300 ≡ off (pos 64)
  pub past_tie_after_1 : judge_says Other true 0 1301 ≡ off (negsuc 62)
  pub tie_after_0 : judge_says Other false 0 1236 ≡ off (pos 64)
  pub past_tie_after_0 : judge_says Other false 0 1237 ≡ off (negsuc 62)
  -- "early below zero and late above it"
  pub early : judge_says Anticollision false 1000 2100 ≡ off (negsuc 71)
  pub late : judge_says Wupa true 0 1300 ≡ off (pos 64)
  pub none_after_1 : judge_says Other true 7 7 ≡ off (negsuc 1235)
  pub none_after_0 : judge_says Other false 7 7 ≡ off (negsuc 1171)
  -- "Ticks wrap"; "Delays, taken modulo 2^32, of 2^31 and more are refused with 14"
  pub wraps : judge_says Reqa true 4294967295 1235 ≡ off (pos 0)
  pub longest : judge_says Reqa false 0 2147483647 ≡ off (pos 2147482475)
  pub too_long : judge_says Reqa false 0 2147483648 ≡ record { number = 14; off = pos 0 }
  pub backwards : judge_says Other true 5 4 ≡ record { number = 14; off = pos 0 }
  -- "Parity is no data bit": REQA ends in a 0, WUPA in a 1; an empty row is judged as after a 0
  pub reqa_0 : after_one reqa ≡ false
  pub wupa_1 : after_one wupa ≡ true
  pub empty_0 : after_one [] ≡ false

pub delay_table : DelayTable
unfolding off_by after_one reqa wupa short bits_of
delay_table = record {
  select_after_1 = refl;
  select_after_0 = refl;
  other_after_1 = refl;
  other_after_0 = refl;
  tie_after_1 = refl;
  past_tie_after_1 = refl;
  tie_after_0 = refl;
  past_tie_after_0 = refl;
  early = refl;
  late = refl;
  none_after_1 = refl;
  none_after_0 = refl;
  wraps = refl;
  longest = refl;
  too_long = refl;
  backwards = refl;
  reqa_0 = refl;
  wupa_1 = refl;
  empty_0 = refl;
}
