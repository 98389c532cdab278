-- Laws of records: what they hold by the row's kind, how long they are, and how they are written. Assumes nothing.
use Rattle.std.specs.Prelude.{◌≡◌, refl, ℕ, ◌+◌, ◌*◌, ◌≤◌, ◌<◌, Bool, true, false, cond, List, [], ◌∷◌, ◌++◌, ltb, length}
use Rattle.std.proofs.Common.{sym, ap, ap₂, ◌∙◌, arith, append-nil, append_assoc, length-append}
use Rattle.std.proofs.lemmas.Bool.{false≢true}
use Rattle.rows.specs.Rows.{overlay, clean}
use Rattle.rows.proofs.RowLaws.{overlay_next}
use Rattle.air_log.specs.Log.{packed, pack, header, tick_bytes, plain, marks, sent_record, heard_record, Exchange, exchange_bytes, log_bytes, exchange_size, log_size}
use Rattle.air_log.specs.Calls.{tick_size, row_size, shown}
use Rattle.air_log.specs.PackLaws.{length_packed, length_shown}

-- a clean row is shown as it is
pub plain_clean : (r : List ℕ) → clean r ≡ true → plain r ≡ r
unfolding plain clean
plain_clean [] e = refl
plain_clean (x ∷ r) e = go (ltb 1 x) e (plain_clean r)
  where
    go : (t : Bool) → cond t false (clean r) ≡ true → (clean r ≡ true → plain r ≡ r) → ◌≡◌ {A = List ℕ} (cond t 0 x ∷ plain r) (x ∷ r)
    go true e rest = absurd (false≢true e)
    go false e rest = ap (λ l. x ∷ l) (rest e)

-- the bytes of a row as a record shows it
pub length_pack : (m : Bool) (r : List ℕ) → length (pack (shown m r)) ≡ row_size (length r)
length_pack m r = length_packed (row_size (length (shown m r))) (shown m r) ∙ ap row_size (length_shown m r)

-- ---- what was sent

pub sent_shown : (x f : List ℕ) → clean f ≡ true → sent_record x f ≡ header 0 (length f) ++ (x ++ pack (plain f))
unfolding sent_record
sent_shown x f e = rw (plain_clean f e)

pub length_sent : (x f : List ℕ) → length (sent_record x f) ≡ 2 + length x + row_size (length f)
unfolding sent_record header
length_sent x f = omega (arith, length-append x (pack f), length_packed (row_size (length f)) f)

-- ---- what was heard

pub heard_silent : (x r : List ℕ) → length r ≡ 0 → heard_record x r ≡ header 3 (length r) ++ (x ++ pack (plain r))
unfolding heard_record packed plain
heard_silent x [] e = ap (λ l. header 3 0 ++ l) (sym (append-nil x))
heard_silent x (b ∷ r) e = absurd (omega arith)

pub heard_clean : (x r : List ℕ) → 0 < length r → clean r ≡ true → heard_record x r ≡ header 1 (length r) ++ (x ++ pack (plain r))
unfolding heard_record
heard_clean x [] h e = absurd (omega arith)
heard_clean x (b ∷ r) h e = rw (e, plain_clean (b ∷ r) e)

pub heard_collided : (x r : List ℕ) → clean r ≡ false → heard_record x r ≡ header 2 (length r) ++ (x ++ (pack (plain r) ++ pack (marks r)))
unfolding heard_record clean
heard_collided x [] e = absurd (false≢true (sym e))
heard_collided x (b ∷ r) e = rw e

length_one : (k : ℕ) (x r : List ℕ) → length (header k (length r) ++ (x ++ pack (plain r))) ≡ 2 + length x + row_size (length r)
unfolding header
length_one k x r = omega (arith, length-append x (pack (plain r)), length_pack false r)

pub length_heard_silent : (x r : List ℕ) → length r ≡ 0 → length (heard_record x r) ≡ 2 + length x + row_size (length r)
length_heard_silent x r e = ap length (heard_silent x r e) ∙ length_one 3 x r

pub length_heard_clean : (x r : List ℕ) → clean r ≡ true → length (heard_record x r) ≡ 2 + length x + row_size (length r)
length_heard_clean x [] e = length_heard_silent x [] refl
length_heard_clean x (b ∷ r) e = ap length (heard_clean x (b ∷ r) (omega arith) e) ∙ length_one 1 x (b ∷ r)

pub length_heard_collided : (x r : List ℕ) → clean r ≡ false → length (heard_record x r) ≡ 2 + length x + 2 * row_size (length r)
unfolding header
length_heard_collided x r e =
    ap length (heard_collided x r e)
    ∙ omega (arith, length-append x (pack (plain r) ++ pack (marks r)), length-append (pack (plain r)) (pack (marks r)), length_pack false r, length_pack true r)

-- ---- a record's size does not hang on its tick

pub length_tick : (t : ℕ) → length (tick_bytes t) ≡ tick_size
unfolding tick_bytes
length_tick t = refl

heard_size : (x y h : List ℕ) → length x ≡ length y → length (heard_record x h) ≡ length (heard_record y h)
heard_size x y h e = go (clean h) refl
  where
    go : (b : Bool) → clean h ≡ b → length (heard_record x h) ≡ length (heard_record y h)
    go true c = omega (arith, length_heard_clean x h c, length_heard_clean y h c)
    go false c = omega (arith, length_heard_collided x h c, length_heard_collided y h c)

pub exchange_size_law : (t : ℕ) (e : Exchange) → length (exchange_bytes t e) ≡ exchange_size e
unfolding exchange_bytes exchange_size
exchange_size_law t e =
    let f : List ℕ = e.sent in
    let h : List ℕ = e.heard in
    omega (
      arith,
      length-append (sent_record (tick_bytes t) f) (heard_record (tick_bytes (t + 1)) h),
      length-append (sent_record (tick_bytes 0) f) (heard_record (tick_bytes 1) h),
      length_sent (tick_bytes t) f,
      length_sent (tick_bytes 0) f,
      length_tick t,
      length_tick 0,
      heard_size (tick_bytes (t + 1)) (tick_bytes 1) h (length_tick (t + 1) ∙ sym (length_tick 1)),
    )

either_size : (t s : ℕ) (l : List Exchange) → length (log_bytes t l) ≡ length (log_bytes s l)
unfolding log_bytes
either_size t s [] = refl
either_size t s (e ∷ l) =
    omega (
      arith,
      length-append (exchange_bytes t e) (log_bytes (t + 2) l),
      length-append (exchange_bytes s e) (log_bytes (s + 2) l),
      exchange_size_law t e,
      exchange_size_law s e,
      either_size (t + 2) (s + 2) l,
    )

pub log_size_law : (t : ℕ) (l : List Exchange) → length (log_bytes t l) ≡ log_size l
unfolding log_size
log_size_law t l = either_size t 0 l

pub log_size_next : (e : Exchange) (l : List Exchange) → log_size (e ∷ l) ≡ exchange_size e + log_size l
unfolding log_size log_bytes
log_size_next e l = length-append (exchange_bytes 0 e) (log_bytes 2 l) ∙ ap₂ ◌+◌ (exchange_size_law 0 e) (log_size_law 2 l)

-- ---- written

-- a header with its tick, and a row behind them
pub row_written : (d : List ℕ) (at k n t : ℕ) (p : List ℕ) → at + 6 + length p ≤ length d
    → overlay (overlay d at (header k n ++ tick_bytes t)) (at + 6) p ≡ overlay d at (header k n ++ (tick_bytes t ++ p))
unfolding header tick_bytes
row_written d at k n t p h = overlay_next d at (header k n ++ tick_bytes t) p h

-- .. and the row of marks behind both
pub marks_written : (d : List ℕ) (at : ℕ) (x r : List ℕ) (n : ℕ) → clean r ≡ false → n ≡ 2 + length x + row_size (length r)
    → at + length (heard_record x r) ≤ length d
    → overlay (overlay d at (header 2 (length r) ++ (x ++ pack (plain r)))) (at + n) (pack (marks r)) ≡ overlay d at (heard_record x r)
marks_written d at x r n e f h =
    let s : List ℕ = header 2 (length r) ++ (x ++ pack (plain r)) in
    let l : length s ≡ n = length_one 2 x r ∙ sym f in
    let a : s ++ pack (marks r) ≡ heard_record x r =
    append_assoc (header 2 (length r)) (x ++ pack (plain r)) (pack (marks r))
    ∙ ap (λ q. header 2 (length r) ++ q) (append_assoc x (pack (plain r)) (pack (marks r)))
    ∙ sym (heard_collided x r e) in
    rw (← a, ← l) (overlay_next d at s (pack (marks r)) (omega (arith, length_heard_collided x r e, length_pack true r)))
