-- The reader records that are read from a log's bytes are as many as the exchanges that were written. Assumes nothing.
use Rattle.std.specs.Prelude.{◌≡◌, Bool, true, false, drop}
use Rattle.std.proofs.Math.Path.{refl, ap}
use Rattle.std.proofs.Common.{sym, ◌∙◌, length-append, drop-drop, drop_at, le-leb}
use Prim.Native.Nat.{ℕ, zero, suc, ◌+◌, ◌*◌, ◌≤◌, ◌<◌}
use native.Mathlib.Omega.{arith}
use mathlib.Core.List.{List, [], ◌∷◌, ◌++◌, append_assoc}
use Rattle.std.proofs.Math.ListN.{length}
use Rattle.rows.specs.Rows.{All, Bits, clean}
use Rattle.air_log.specs.Log.{Exchange, tick_bytes, sent_record, heard_record, exchange_bytes, log_bytes}
use Rattle.air_log.specs.Calls.{most_bits, tick_size, row_size}
use Rattle.air_log.specs.Reading.{behind, record_at, sent_from, sent_in}
use Rattle.air_log.proofs.RecordLaws.{length_sent, length_heard_silent, length_heard_clean, length_heard_collided}
use Rattle.air_log.proofs.ReadBackLaws.{sent_back, silence_back, clean_back, collided_back}

-- an exchange whose records can be read: its frame is bits, and both rows have a number of bits that a header holds
pub record Loggable (e : Exchange) : Type 0 where
  pub bits : Bits e.sent
  pub some : 0 < length e.sent
  pub sent_fits : length e.sent ≤ most_bits
  pub heard_fits : length e.heard ≤ most_bits

-- what is read at a place where records stand is read on behind them
past : (l : List ℕ) (at : ℕ) (s q : List ℕ) → drop at l ≡ s ++ q → drop (at + length s) l ≡ q
past l at s q e = sym (drop-drop (length s) at l) ∙ ap (drop (length s)) e ∙ drop_at s q (length s) refl

module _ (l : List ℕ) (most : ℕ) (x : List ℕ) where
  abbrev from : ℕ → ℕ
  from = sent_from (length x) most l

  heard_on : (at : ℕ) (h q : List ℕ) → length h ≤ most_bits → drop at l ≡ heard_record x h ++ q → sent_from (length x) (suc most) l at ≡ from (at + length (heard_record x h))
  unfolding sent_from
  heard_on at [] q n e =
      let k : at + length (heard_record x []) ≡ at + 2 + length x = ap (◌+◌ at) (length_heard_silent x [] refl) ∙ omega arith in
      rw (silence_back l at x q e) (ap from (sym k))
  heard_on at (b ∷ r) q n e = go (clean (b ∷ r)) refl
    where
      h : List ℕ
      h = b ∷ r

      go : (t : Bool) → clean h ≡ t → behind from (record_at (length x) l at) ≡ from (at + length (heard_record x h))
      go true c =
          let k : at + length (heard_record x h) ≡ at + 2 + length x + row_size (length h) = ap (◌+◌ at) (length_heard_clean x h c) ∙ omega arith in
          rw (clean_back l at x h q c (omega arith) n e).0 (ap from (sym k))
      go false c =
          let k : at + length (heard_record x h) ≡ at + 2 + length x + 2 * row_size (length h) = ap (◌+◌ at) (length_heard_collided x h c) ∙ omega arith in
          rw (collided_back l at x h q c n e).0 (ap from (sym k))

  sent_on : (at : ℕ) (f q : List ℕ) → Bits f → 0 < length f → length f ≤ most_bits → drop at l ≡ sent_record x f ++ q
      → sent_from (length x) (suc most) l at ≡ suc (from (at + length (sent_record x f)))
  unfolding sent_from
  sent_on at f q b h n e =
      let k : at + length (sent_record x f) ≡ at + 2 + length x + row_size (length f) = ap (◌+◌ at) (length_sent x f) ∙ omega arith in
      rw (sent_back l at x f q b h n e).0 (ap (λ i. suc (from i)) (sym k))

ends : (w most : ℕ) (l : List ℕ) (at : ℕ) → length l ≤ at → sent_from w most l at ≡ 0
unfolding sent_from record_at
ends w zero l at h = refl
ends w (suc most) l at h = rw (le-leb (length l) at h)

-- from a place on
counted : (most : ℕ) (l : List ℕ) (at t : ℕ) (es : List Exchange) → All Loggable es → drop at l ≡ log_bytes t es → length l ≤ at + length (log_bytes t es) → 2 * length es ≤ most
    → sent_from tick_size most l at ≡ length es
unfolding log_bytes exchange_bytes tick_bytes
counted most l at t [] g e h n = ends tick_size most l at (omega arith)
counted zero l at t (x ∷ es) g e h n = absurd (omega arith)
counted (suc zero) l at t (x ∷ es) g e h n = absurd (omega arith)
counted (suc (suc most)) l at t (x ∷ es) g e h n =
    let s : List ℕ = sent_record (tick_bytes t) x.sent in
    let r : List ℕ = heard_record (tick_bytes (t + 1)) x.heard in
    let q : List ℕ = log_bytes (t + 2) es in
    let e₁ : drop at l ≡ s ++ (r ++ q) = e ∙ append_assoc s r q in
    let e₂ : drop (at + length s) l ≡ r ++ q = past l at s (r ++ q) e₁ in
    let e₃ : drop (at + length s + length r) l ≡ q = past l (at + length s) r q e₂ in
    let k : length l ≤ at + length s + length r + length q = omega (arith, length-append (s ++ r) q, length-append s r) in
    sent_on l (suc most) (tick_bytes t) at x.sent (r ++ q) g.0.bits g.0.some g.0.sent_fits e₁
    ∙ ap suc (heard_on l most (tick_bytes (t + 1)) (at + length s) x.heard q g.0.heard_fits e₂ ∙ counted most l (at + length s + length r) (t + 2) es g.1 e₃ k (omega arith))

-- an exchange takes two bytes at least, and so a log has as many bytes as records
pub log_bytes_law : (t : ℕ) (es : List Exchange) → 2 * length es ≤ length (log_bytes t es)
unfolding log_bytes exchange_bytes
log_bytes_law t [] = omega arith
log_bytes_law t (x ∷ es) =
    let s : List ℕ = sent_record (tick_bytes t) x.sent in
    let r : List ℕ = heard_record (tick_bytes (t + 1)) x.heard in
    omega (arith, length-append (s ++ r) (log_bytes (t + 2) es), length-append s r, length_sent (tick_bytes t) x.sent, log_bytes_law (t + 2) es)

-- "It equals the number of reader records in the log", whatever the tick of the first
pub sent_counted : (t : ℕ) (es : List Exchange) → All Loggable es → sent_in tick_size (log_bytes t es) ≡ length es
unfolding sent_in
sent_counted t es g = counted (length (log_bytes t es)) (log_bytes t es) 0 t es g refl (omega arith) (log_bytes_law t es)
