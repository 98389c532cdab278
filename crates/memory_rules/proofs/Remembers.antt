-- Document 02, T-14: the sweep that remembers, over every field within demand 3's terms. Assumes nothing.
use mathlib.Core.Path.{◌≡◌, sym, ap, ap₂, ◌∙◌}
use Prim.Native.Nat.{◌≤◌, ◌<◌}
use mathlib.Core.Bool.{true, false}
use mathlib.Core.List.{List, [], map}
use lib.ListN.{length}
use native.Mathlib.Omega.{arith}
use Rattle.limits.specs.Limits.{most_cards, most_frames}
use Rattle.rows.specs.EachLaws.{all_weaken}
use Rattle.rows.specs.Rows.{All}
use Rattle.uid.specs.Uid.{row_of, falling, frame_sum, uid_bytes}
use Rattle.uid.specs.UidLaws.{name, Sound}
use Rattle.reader.specs.Reader.{blank, turn, sends}
use Rattle.reader.specs.ReaderLaws.{asking}
use Rattle.air_log.proofs.CountLaws.{sent_counted}
use Rattle.air_log.specs.Log.{exchange_size}
use Rattle.air_log.proofs.RecordLaws.{exchange_size_law, log_size_law}
use Rattle.memory.specs.Memory.{recall}
use Rattle.sweep_rules.specs.Demand.{Typed, idle, halted, Demand3}
use Rattle.sweep_rules.specs.Run.{sweep}
use Rattle.sweep_rules.specs.Terms.{within}
use Rattle.sweep_rules.proofs.Abstract.{sort, frames, Falling}
use Rattle.sweep_rules.proofs.Demand3.{demand3, frames_sum, rows_falling, all_falling, length_falling, names, sound_idle, rows_are, apart_idles, length_idles, few_idles}
use Rattle.sweep_rules.proofs.Idle.{idles}
use Rattle.sweep_rules.proofs.IdleRows.{whole_idles}
use Rattle.sweep_rules.proofs.LogSize.{small_all, log_length}
use Rattle.sweep_rules.proofs.Model.{view}
use Rattle.sweep_rules.proofs.Sweep.{frames_small}
use Rattle.sweep_rules.proofs.Logged.{run_loggable}
use Rattle.sweep_rules.proofs.Within.{Within, within_says}
use Rattle.memory_rules.specs.Count.{recall_sum}
use Rattle.memory_rules.specs.Promise.{Remembers}
use Rattle.memory_rules.specs.Run.{remembering, run, recalled}
use Rattle.memory_rules.proofs.Collisions.{all_met}
use Rattle.memory_rules.proofs.Frames.{goes, final}
use Rattle.memory_rules.proofs.Shared.{sum_first}
use Rattle.memory_rules.proofs.Sweeps.{frames_first, first_le, first_run_law}
use Rattle.memory_rules.proofs.Totals.{total, most}
use Rattle.uid.specs.declared.Uid.{Uid}
use Rattle.card.specs.declared.Card.{Card}
use Rattle.reader.specs.declared.Answer.TheVariants.{Finishes}
use Rattle.reader.specs.declared.Phase.TheVariants.{Finished, ReqaSent}

module _ (cs : List Card) (t : All Typed cs) (w : within cs ≡ true) where
  x : Within cs
  x = within_says cs t w

  plain : Demand3 cs (sweep cs)
  plain = demand3 cs t w

  found : List Uid
  found = falling (idle cs)

  sound : All Sound found
  unfolding found
  sound = all_falling Sound (idle cs) (sound_idle cs x.fits x.few x.differ)

  is_found : sort (idles cs) ≡ map row_of found
  unfolding found
  is_found = rw (rows_are cs x.fits x.few x.differ) (rows_falling (idle cs))

  falls : Falling (map row_of found)
  unfolding found
  falls = plain.descending

  many : length found ≡ length (idle cs)
  unfolding found
  many = length_falling (idle cs)

  -- the plain sweep's frames, of which there are no fewer
  plain_sum : frames (sort (idles cs)) ≡ frame_sum found
  plain_sum = ap frames is_found ∙ frames_sum found sound

  small : frames (sort (idles cs)) ≤ most_frames
  small = frames_small most_cards (idles cs) (whole_idles cs x.fits) (omega (arith, few_idles cs x.fits x.few x.differ, length_idles cs x.fits x.few x.differ))

  sum_is : frames_first (sort (idles cs)) ≡ recall_sum found
  sum_is = ap frames_first is_found ∙ sum_first found sound falls

  run_is : view (recalled cs) ≡ (map uid_bytes found, recall_sum found, (map halted cs, true, turn (blank Finished false) Finishes))
  unfolding recalled goes asking sends final
  run_is = first_run_law most_frames cs x.fits (apart_idles cs x.fits x.few x.differ) (omega (arith, small, first_le (sort (idles cs))))
      ∙ ap₂ (λ l n. (l, n, (map halted cs, true, turn (blank Finished false) Finishes))) (ap (map name) is_found ∙ names found sound) sum_is

  count : length (recalled cs).exchanges ≡ recall_sum found
  unfolding view
  count = ap (λ z. z.1) run_is

  smalls : All (λ e. (0 < length e.sent) × (exchange_size e ≤ 27)) (recalled cs).exchanges
  unfolding view
  smalls = small_all (recalled cs).exchanges (ap (λ z. z.2.1) run_is)

  pub remembers : Remembers cs (recalled cs)
  unfolding view found
  remembers =
      let e : All (λ e. exchange_size e ≤ 27) (recalled cs).exchanges = all_weaken (recalled cs).exchanges (λ e h. h.1) smalls in
      let f : (recalled cs).found ≡ (sweep cs).found = ap (λ z. z.0) run_is ∙ sym plain.found in
      record {
        finished = ap (λ z. z.2.2) run_is;
        found = f;
        cards = ap (λ z. z.2.0) run_is ∙ sym plain.cards;
        frames = count;
        counted = λ t. sent_counted t (recalled cs).exchanges (unfold recalled run in run_loggable remembering most_frames (recall (sends (blank ReqaSent true)) []) cs (unfold recalled run in smalls)) ∙ count;
        fewer = omega (arith, count, sum_is, first_le (sort (idles cs)), plain.frames, plain_sum);
        once = rw (← many) (all_met found falls);
        total = λ h. rw count (rw many at (total found falls (rw many h)));
        most = λ h. rw count (rw many at (most found falls (rw many h)));
        short = λ t. all_weaken (recalled cs).exchanges (λ e h. rw (exchange_size_law t e) h.1) smalls;
        log_fits = λ t. omega (arith, log_size_law t (recalled cs).exchanges, log_length (recalled cs).exchanges e, count, sum_is, small, first_le (sort (idles cs)));
        list_fits = rw f plain.list_fits;
      }
