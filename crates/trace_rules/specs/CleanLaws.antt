-- A log that is called clean is the log of the sweep over its cards. Assumes nothing.
use Rattle.trace_rules.specs.Verdict.{Compared, fault}
use Rattle.trace_rules.specs.declared.Differs.TheVariants.{First, Second}
use Rattle.std.proofs.Math.Path.{◌≡◌, refl, ap}
use Rattle.std.proofs.Common.{◌∙◌, arith, leb-true}
use Prim.Native.Nat.{ℕ, zero, suc, ◌+◌, ◌<◌}
use Rattle.std.specs.Prelude.{Bool, length, get_or, Result, Ok, Err}
use Rattle.std.proofs.Math.Bool.{true, false, cond}
use mathlib.Core.List.{List, [], ◌∷◌, ◌++◌}
use Rattle.std.proofs.Math.Dec.{leb}
use Rattle.std.proofs.Math.ListN.{drop, drop_of_length-le}
use Rattle.rows.specs.Rows.{Bytes, same}
use Rattle.rows.specs.ListLaws.{same_sound}
use Rattle.air_log.specs.Log.{Exchange, sent_record, heard_record}
use Rattle.air_log.specs.Reading.{row_at, record_at}
use Rattle.air_log.specs.declared.Record.{Record}
use Rattle.air_log.specs.declared.Record.TheVariants.{Sent, Clean as Plain, Collided, Silence, End, Cut, Malformed}
use Rattle.refusal.specs.declared.Refusal.TheVariants.{Forbidden}
use Rattle.trace_rules.specs.Trace.{heard_row, sent_passed, heard_passed}
use Rattle.trace_rules.specs.Check.{heard_as, heard_compared, sent_compared, compared, compared_then, differs}
use Rattle.trace_rules.specs.Promise.{Begins, LogOf}
use Rattle.trace_rules.specs.BytesBackLaws.{stamp, stamp_wide, sent_again, clean_again, collided_again, silent_again}
use Rattle.trace_rules.specs.WholeLaws.{Whole, whole}
use Rattle.refusal.specs.declared.Refusal.{Refusal}

-- a byte of a log; 0 past its end
pub byte_at : (l : List ℕ) (i : ℕ) → Bytes l → get_or l i 0 < 256
byte_at [] i b = omega arith
byte_at (x ∷ l) zero b = b.0
byte_at (x ∷ l) (suc i) b = byte_at l i b.1

-- a stamp of w bytes, and the record with it
record Read (w : ℕ) (l : List ℕ) (at next : ℕ) (F : List ℕ → List ℕ) : Type 0 where
  stamp_is : List ℕ
  wide : length stamp_is ≡ w
  bytes : drop at l ≡ F stamp_is ++ drop next l

module _ (w : ℕ) (l : List ℕ) (b : Bytes l) (at : ℕ) where
  sent_read : (f : List ℕ) (next : ℕ) (x : Record) → Whole w l at x → sent_passed l f x ≡ Ok next → Read w l at next (λ s. sent_record s f)
  sent_read f next (Sent start n end) h e = go (same (row_at l start n) f) refl e
    where
      go : (t : Bool) → same (row_at l start n) f ≡ t → cond t (Ok end) (Err Forbidden) ≡ Ok next → Read w l at next (λ s. sent_record s f)
      go true q e =
          let k : end ≡ next = cc in
          record {
            stamp_is = stamp w l at b h.room;
            wide = stamp_wide w l at b h.room;
            bytes = rw (← k, ← (same_sound (row_at l start n) f q)) (sent_again w l at b h.room h.bit_is_zero (byte_at l at b) (byte_at l (at + 1) b) h.rows);
          }
      go false q e = let z : ◌≡◌ {A = ℕ} 0 1 = cc in absurd (omega arith)
  sent_read f next (Plain start n end) h e = let z : ◌≡◌ {A = ℕ} 0 1 = cc in absurd (omega arith)
  sent_read f next (Collided start m n end) h e = let z : ◌≡◌ {A = ℕ} 0 1 = cc in absurd (omega arith)
  sent_read f next (Silence end) h e = let z : ◌≡◌ {A = ℕ} 0 1 = cc in absurd (omega arith)
  sent_read f next End h e = let z : ◌≡◌ {A = ℕ} 0 1 = cc in absurd (omega arith)
  sent_read f next Cut h e = let z : ◌≡◌ {A = ℕ} 0 1 = cc in absurd (omega arith)
  sent_read f next Malformed h e = let z : ◌≡◌ {A = ℕ} 0 1 = cc in absurd (omega arith)

  heard_read : (next : ℕ) (x : Record) → Whole w l at x → heard_passed x ≡ Ok next → Read w l at next (λ s. heard_record s (heard_row l x))
  heard_read next (Sent start n end) h e = let z : ◌≡◌ {A = ℕ} 0 1 = cc in absurd (omega arith)
  heard_read next (Plain start n end) h e =
      let k : end ≡ next = cc in
      record {
        stamp_is = stamp w l at b h.room;
        wide = stamp_wide w l at b h.room;
        bytes = rw (← k) (clean_again w l at b h.room h.bit_is_zero (byte_at l at b) (byte_at l (at + 1) b) h.rows);
      }
  heard_read next (Collided start m n end) h e =
      let k : end ≡ next = cc in
      record {
        stamp_is = stamp w l at b h.room;
        wide = stamp_wide w l at b h.room;
        bytes = rw (← k) (collided_again w l at b h.room h.bit_is_zero (byte_at l at b) (byte_at l (at + 1) b) h.rows);
      }
  heard_read next (Silence end) h e =
      let k : end ≡ next = cc in
      record {
        stamp_is = stamp w l at b h.room;
        wide = stamp_wide w l at b h.room;
        bytes = rw (← k) (silent_again w l at b h.room h.bit_is_zero (byte_at l at b) (byte_at l (at + 1) b) h.rows);
      }
  heard_read next End h e = let z : ◌≡◌ {A = ℕ} 0 1 = cc in absurd (omega arith)
  heard_read next Cut h e = let z : ◌≡◌ {A = ℕ} 0 1 = cc in absurd (omega arith)
  heard_read next Malformed h e = let z : ◌≡◌ {A = ℕ} 0 1 = cc in absurd (omega arith)

  heard_as_law : (f : List ℕ) (next : ℕ) → heard_as l f (record_at w l at) ≡ Ok next → Read w l at next (λ s. heard_record s f)
  heard_as_law f next e = go (same (heard_row l x) f) refl e
    where
      x : Record
      x = record_at w l at

      go : (t : Bool) → same (heard_row l x) f ≡ t → cond t (heard_passed x) (Err Forbidden) ≡ Ok next → Read w l at next (λ s. heard_record s f)
      go true q e = rw (same_sound (heard_row l x) f q) at (heard_read next x (whole w l at (byte_at l at b)) e)
      go false q e = let z : ◌≡◌ {A = ℕ} 0 1 = cc in absurd (omega arith)

-- the two records of an exchange
record Both (w : ℕ) (l : List ℕ) (at next : ℕ) (e : Exchange) : Type 0 where
  middle : ℕ
  sent : Read w l at middle (λ s. sent_record s e.sent)
  heard : Read w l middle next (λ s. heard_record s e.heard)

module _ (w : ℕ) (l : List ℕ) (b : Bytes l) where
  compared_says : (at next : ℕ) (e : Exchange) → compared w l e at ≡ Ok next → Both w l at next e
  unfolding compared
  compared_says at next e h = go (sent_passed l e.sent (record_at w l at)) refl h
    where
      go₂ : (m : ℕ) → sent_passed l e.sent (record_at w l at) ≡ Ok m → (p : Result ℕ Refusal) → heard_as l e.heard (record_at w l m) ≡ p → heard_compared p ≡ Ok next → Both w l at next e
      go₂ m q (Ok n) r h =
          let k : n ≡ next = cc in
          record { middle = m; sent = sent_read w l b at e.sent m (record_at w l at) (whole w l at (byte_at l at b)) q; heard = heard_as_law w l b m e.heard next (rw (← k) r) }
      go₂ m q (Err x) r h = let z : ◌≡◌ {A = ℕ} 0 1 = cc in absurd (omega arith)

      go : (p : Result ℕ Refusal) → sent_passed l e.sent (record_at w l at) ≡ p → sent_compared w l e.heard p ≡ Ok next → Both w l at next e
      go (Ok m) q h = go₂ m q (heard_as l e.heard (record_at w l m)) refl h
      go (Err x) q h = let z : ◌≡◌ {A = ℕ} 0 1 = cc in absurd (omega arith)

  -- a log that does not differ from some exchanges has just their records
  pub log_of : (i : ℕ) (es : List Exchange) (at : ℕ) → differs w l i es at ≡ Ok tt → LogOf w es (drop at l)
  unfolding differs
  log_of i [] at h = go (leb (length l) at) refl h
    where
      go : (t : Bool) → leb (length l) at ≡ t → cond t (Ok tt) (fault i Forbidden) ≡ Ok tt → drop at l ≡ []
      go true e h = drop_of_length-le l (leb-true (length l) at e)
      go false e h = let z : ◌≡◌ {A = ℕ} 0 1 = cc in absurd (omega arith)
  log_of i (e ∷ es) at h = go (compared w l e at) refl h (λ n. log_of (i + 2) es n)
    where
      go : (c : Compared) → compared w l e at ≡ c → compared_then i (differs w l (i + 2) es) c ≡ Ok tt → ((n : ℕ) → differs w l (i + 2) es n ≡ Ok tt → LogOf w es (drop n l)) → Begins w (LogOf w es) e (drop at l)
      go (Ok n) q h rest =
          let p : Both w l at n e = compared_says at n e q in
          let s : List ℕ = sent_record p.sent.stamp_is e.sent in
          record {
            sent_stamp = p.sent.stamp_is;
            heard_stamp = p.heard.stamp_is;
            rest = drop n l;
            sent_wide = p.sent.wide;
            heard_wide = p.heard.wide;
            bytes = p.sent.bytes ∙ ap (λ q. s ++ q) p.heard.bytes;
            behind = rest n h;
          }
      go (Err First) q h rest = let z : ◌≡◌ {A = ℕ} 0 1 = cc in absurd (omega arith)
      go (Err Second) q h rest = let z : ◌≡◌ {A = ℕ} 0 1 = cc in absurd (omega arith)
