-- Demand 3. Assumes nothing.
use mathlib.Core.Path.{◌≡◌, refl, sym, ap, ap₂, ◌∙◌}
use mathlib.Core.Logic.{◌≢◌}
use Prim.Native.Nat.{ℕ, ◌*◌, ◌/◌, ◌≤◌, ◌<◌}
use mathlib.Core.Bool.{true, false}
use mathlib.Core.List.{List, [], ◌∷◌, map, map-map}
use lib.ListN.{length, length-map, length-take}
use native.Mathlib.Omega.{arith}
use Rattle.sweep_rules.proofs.Abstract
use Rattle.rows.specs.EachLaws.{all_zip, all_map, all_weaken}
use Rattle.rows.specs.Rows.{All}
use Rattle.uid.specs.LevelLaws.{wide, InLevels}
use Rattle.uid.specs.Order.{diff}
use Rattle.uid.specs.OrderLaws.{Off}
use Rattle.uid.specs.SortLaws.{map_sort, length_sort, all_sort}
use Rattle.uid.specs.Uid.{levels, row_of, falling, frame_sum, uid_bytes}
use Rattle.uid.specs.UidLaws.{name, Sound, rows_off, length_row, name_row}
use Rattle.reader.specs.Reader.{blank, sends, turn}
use Rattle.air_log.proofs.CountLaws.{sent_counted}
use Rattle.air_log.specs.Log.{exchange_bytes, log_bytes, exchange_size, log_size}
use Rattle.air_log.proofs.RecordLaws.{exchange_size_law, log_size_law}
use Rattle.sweep_rules.specs.Demand.{Typed, idle, halted, Descending, Demand3}
use Rattle.limits.specs.Limits.{most_cards, most_frames, frames_bound}
use Rattle.sweep_rules.specs.Run.{plain, run, sweep}
use Rattle.sweep_rules.specs.Terms.{within}
use Rattle.sweep_rules.proofs.Abstract.{sort, frames, Apart}
use Rattle.sweep_rules.proofs.Falling.{sort_falling}
use Rattle.sweep_rules.proofs.Idle.{Fits, idlers, idles, idle_uids, all_idle, few_idle}
use Rattle.sweep_rules.proofs.IdleRows.{whole_idles}
use Rattle.sweep_rules.proofs.Listed.{once_each, listed_exactly}
use Rattle.sweep_rules.proofs.Logged.{run_loggable}
use Rattle.sweep_rules.proofs.LogSize.{small_all, log_length, list_length}
use Rattle.sweep_rules.proofs.Model.{view, model_swept}
use Rattle.sweep_rules.proofs.Sweep.{sweep_bound, frames_small}
use Rattle.sweep_rules.proofs.Within.{Within, within_says, Differ, uids}
use Rattle.uid.specs.declared.Uid.{Uid}
use Rattle.card.specs.declared.Card.{Card}
use Rattle.reader.specs.declared.Answer.TheVariants.{Finishes}
use Rattle.reader.specs.declared.Phase.TheVariants.{Finished, ReqaSent}

-- ---- rows that are apart

apart_rows : (us : List Uid) → All Sound us → Differ us → Apart (map row_of us)
apart_rows [] s d = tt
apart_rows (u ∷ us) s d = (
  all_map {F = λ v. Sound v × (uid_bytes u ≢ uid_bytes v)} (λ r. Off (diff (row_of u) r) × Off (diff r (row_of u))) row_of us
      (λ v h. (rows_off u v s.0 h.0 h.1, rows_off v u h.0 s.0 (λ e. h.1 (sym e)))) (all_zip us (λ v a b. (a, b)) s.1 d.0),
  apart_rows us s.1 d.1,
)

-- ---- falling order over UIDs

pub rows_falling : (us : List Uid) → sort (map row_of us) ≡ map row_of (falling us)
unfolding falling
rows_falling us = sym (map_sort row_of us)

pub all_falling : (G : Uid → Type 0) (us : List Uid) → All G us → All G (falling us)
unfolding falling
all_falling G us h = all_sort row_of G us h

pub length_falling : (us : List Uid) → length (falling us) ≡ length us
unfolding falling
length_falling us = length_sort row_of us

pub names : (us : List Uid) → All Sound us → map name (map row_of us) ≡ map uid_bytes us
names [] s = refl
names (u ∷ us) s = ap₂ ◌∷◌ (name_row u s.0) (names us s.1)

pub frames_sum : (us : List Uid) → All Sound us → frames (map row_of us) ≡ frame_sum us
unfolding frames frame_sum Abstract.levels wide
frames_sum [] s = refl
frames_sum (u ∷ us) s = let e : 40 * length (levels u) / 40 ≡ length (levels u) = omega arith in rw (length_row u s.0, e, frames_sum us s.1)

-- ---- demand 3

module _ (cs : List Card) (s : All Fits cs) (few : length cs ≤ most_cards) (d : Differ (uids (idlers cs))) where
  found : List Uid
  found = falling (idle cs)

  pub sound_idle : All Sound (idle cs)
  sound_idle = rw (idle_uids cs) (all_map {F = Fits} Sound (λ c. c.uid) (idlers cs) (λ c h. h.sound) (all_idle Fits cs s))

  sound_found : All Sound found
  unfolding found
  sound_found = all_falling Sound (idle cs) sound_idle

  pub rows_are : idles cs ≡ map row_of (idle cs)
  unfolding idles
  rows_are = rw (idle_uids cs) (sym (map-map row_of (λ c. c.uid) (idlers cs)))

  pub apart_idles : Apart (idles cs)
  apart_idles = rw rows_are (apart_rows (idle cs) sound_idle (rw (idle_uids cs) d))

  whole : All (InLevels 3) (idles cs)
  whole = whole_idles cs s

  pub length_idles : length (idles cs) ≡ length (idle cs)
  length_idles = rw rows_are (length-map (idle cs) row_of)

  pub few_idles : length (idle cs) ≤ most_cards
  few_idles = rw (idle_uids cs) (rw length-map (omega (arith, few_idle cs)))

  is_found : sort (idles cs) ≡ map row_of found
  unfolding found
  is_found = rw rows_are (rows_falling (idle cs))

  rows_fall : Descending (map row_of (falling (idle cs)))
  unfolding found
  rows_fall = rw is_found at (sort_falling (idles cs) whole apart_idles)

  sum_is : frames (sort (idles cs)) ≡ frame_sum found
  sum_is = ap frames is_found ∙ frames_sum found sound_found

  sum_small : frames (sort (idles cs)) ≤ most_frames
  sum_small = frames_small most_cards (idles cs) whole (omega (arith, length_idles, few_idles))

  swept : view (sweep cs) ≡ (map uid_bytes found, frame_sum found, (map halted cs, true, turn (blank Finished false) Finishes))
  unfolding sweep
  swept = model_swept most_frames cs s apart_idles (omega (arith, sum_small))
      ∙ ap₂ (λ l n. (l, n, (map halted cs, true, turn (blank Finished false) Finishes))) (ap (map name) is_found ∙ names found sound_found) sum_is

  count : length (sweep cs).exchanges ≡ frame_sum found
  unfolding view
  count = ap (λ w. w.1) swept

  fits_found : All (λ u. length u ≤ 10) (map uid_bytes found)
  unfolding uid_bytes
  fits_found = all_map {F = Sound} (λ u. length u ≤ 10) uid_bytes found (λ u t. rw length-take (omega (arith, t.ten))) sound_found

  smalls : All (λ e. (0 < length e.sent) × (exchange_size e ≤ 27)) (sweep cs).exchanges
  unfolding view
  smalls = small_all (sweep cs).exchanges (ap (λ w. w.2.1) swept)

  -- the log of a sweep in which at most n cards are idle, n free: the limit's room follows from it
  log_bound : (n : ℕ) → length (idle cs) ≤ n → log_size (sweep cs).exchanges ≤ 27 * frames_bound n
  log_bound n few =
      let short : All (λ e. exchange_size e ≤ 27) (sweep cs).exchanges = all_weaken (sweep cs).exchanges (λ e h. h.1) smalls in
      let most : frames (sort (idles cs)) ≤ frames_bound n = frames_small n (idles cs) whole (omega (arith, length_idles, few)) in
      omega (arith, log_length (sweep cs).exchanges short, count, sum_is, most)

  is_list : (sweep cs).found ≡ map uid_bytes (falling (idle cs))
  unfolding view found
  is_list = ap (λ w. w.0) swept

  sweep_is : Demand3 cs (sweep cs)
  unfolding view found
  sweep_is =
      record {
        finished = ap (λ w. w.2.2) swept;
        found = is_list;
        once = rw is_list (once_each (idle cs) (rw (idle_uids cs) d));
        exactly = λ u. rw is_list (listed_exactly u cs);
        descending = rows_fall;
        cards = ap (λ w. w.2.0) swept;
        frames = count;
        counted = λ t. sent_counted t (sweep cs).exchanges (unfold sweep run in run_loggable plain most_frames (sends (blank ReqaSent true)) cs (unfold sweep run in smalls)) ∙ count;
        bound = rw (count, ← sum_is) (rw length_idles at (sweep_bound (idles cs) whole));
        short = λ t. all_weaken (sweep cs).exchanges (λ e h. rw (exchange_size_law t e) h.1) smalls;
        log_fits = λ t. rw (log_size_law t (sweep cs).exchanges) (omega (arith, log_bound most_cards few_idles));
        list_fits = rw (is_list, list_length (map uid_bytes found) fits_found, length-map (falling (idle cs)) uid_bytes, length_falling (idle cs)) (omega (arith, few_idles));
      }

pub demand3 : (cs : List Card) → All Typed cs → within cs ≡ true → Demand3 cs (sweep cs)
demand3 cs t w = let x : Within cs = within_says cs t w in sweep_is cs x.fits x.few x.differ
