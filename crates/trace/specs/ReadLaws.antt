-- Laws of rows that are read from a log. Assumes nothing.
use Rattle.std.specs.Prelude.{◌≡◌, refl, ℕ, zero, suc, ◌+◌, ◌-◌, ◌*◌, ◌≤◌, ◌<◌, cond, List, [], ◌∷◌, length, take, drop, get_or, set, eqb, Result, Ok, Err}
use Rattle.std.proofs.Common.{sym, ap, ◌∙◌, not-suc-le-zero, zero-add, arith, length-drop, length-take-le, get_or-take, take_all, Fits}
use Rattle.std.specs.Int.{w8}
use Rattle.rows.specs.Rows.{overlay}
use Rattle.rows.proofs.RowLaws.{overlay_copy}
use Rattle.air_log.specs.Calls.{most_bits, row_size}
use Rattle.air_log.specs.Reading.{bits_from, row_at, bit_count, record_at}
use Rattle.air_log.specs.UnpackLaws.{bits_enough}
use Rattle.air_log.specs.declared.Record.{Record}
use Rattle.air_log.specs.declared.Record.TheVariants.{Sent, Clean, Collided, Silence, End, Cut, Malformed}
use Rattle.trace_rules.specs.Trace.{stamp_size, marked, heard_row, sent_passed}
use Rattle.trace_rules.specs.WholeLaws.{OneRow, Headed, whole}
use Rattle.refusal.specs.declared.Refusal.{Refusal}
use Rattle.refusal.specs.declared.Refusal.TheVariants.{Forbidden}
use Rattle.trace.specs.Reads.{heard_bits, heard_of}
use Rattle.trace.specs.declared.reading.Heard.{Heard}

-- a row that the log has
pub enough : (l : List ℕ) (at n : ℕ) → at + row_size n ≤ length l → n ≤ length (bits_from l at)
enough l at n h = omega (arith, bits_enough l at (row_size n) h)

pub length_row : (l : List ℕ) (at n : ℕ) → n ≤ length (bits_from l at) → length (row_at l at n) ≡ n
length_row l at n h = length-take-le n (bits_from l at) h

pub length_marked : (r m : List ℕ) → length (marked r m) ≡ length r
unfolding marked
length_marked [] m = refl
length_marked (x ∷ r) [] = refl
length_marked (x ∷ r) (y ∷ m) = ap suc (length_marked r m)

pub marked_at : (r m : List ℕ) (i : ℕ) → i < length r → i < length m → get_or (marked r m) i 0 ≡ cond (eqb (get_or m i 0) 0) (get_or r i 0) 2
unfolding marked
marked_at [] m i h k = absurd (not-suc-le-zero h)
marked_at (x ∷ r) [] i h k = absurd (not-suc-le-zero k)
marked_at (x ∷ r) (y ∷ m) zero h k = refl
marked_at (x ∷ r) (y ∷ m) (suc i) h k = marked_at r m i (omega arith) (omega arith)

-- a bit of a marked row, from the bits of the log
pub marked_bit : (l : List ℕ) (start marks n i : ℕ) → n ≤ length (bits_from l start) → n ≤ length (bits_from l marks) → i < n
    → get_or (marked (row_at l start n) (row_at l marks n)) i 0 ≡ cond (eqb (get_or (bits_from l marks) i 0) 0) (get_or (bits_from l start) i 0) 2
marked_bit l start marks n i a b h =
    marked_at (row_at l start n) (row_at l marks n) i (rw (length_row l start n a) h) (rw (length_row l marks n b) h)
    ∙ rw (get_or-take, get_or-take)

-- a turn of the loop that writes a row from the front on
pub row_turn : (d s : List ℕ) (i v : ℕ) → v ≡ get_or s i 0 → i < length d → i < length s → set (overlay d 0 (take i s)) i v ≡ overlay d 0 (take (i + 1) s)
row_turn d s i v e h l = rw e (rw (zero-add i) at (overlay_copy d 0 s i (omega arith) l))

-- ---- the rows of a record that was read

small_count : (l : List ℕ) (at : ℕ) → ((i : ℕ) → Fits w8 (get_or l i 0)) → bit_count (get_or l at 0) (get_or l (at + 1) 0) ≤ most_bits
small_count l at g = omega (arith, (g (at + 1)).fits)

-- a row's bits are there, and a lent row holds them
abbrev pub Held : List ℕ → ℕ → ℕ → Type 0
Held l start bits = (bits ≤ length (bits_from l start)) × (bits ≤ most_bits)

module _ (w : ℕ) (l : List ℕ) (at start bits next : ℕ) (g : (i : ℕ) → Fits w8 (get_or l i 0)) where
  one_held : {k kind : ℕ} {n : ℕ} → OneRow l (at + 2 + w) k n kind start bits next → n ≤ most_bits → Held l start bits
  one_held {n = n} r h = rw (r.is_start, r.is_bits) (enough l (at + 2 + w) n r.inside, h)

  pub sent_held : record_at w l at ≡ Sent start bits next → Held l start bits
  sent_held e = let x : Headed w l at (Sent start bits next) = rw e at (whole w l at (g at).fits) in one_held x.rows (small_count l at g)

  pub clean_held : record_at w l at ≡ Clean start bits next → Held l start bits
  clean_held e = let x : Headed w l at (Clean start bits next) = rw e at (whole w l at (g at).fits) in one_held x.rows (small_count l at g)

  pub collided_held : (marks : ℕ) → record_at w l at ≡ Collided start marks bits next → Held l start bits × Held l marks bits
  collided_held marks e =
      let x : Headed w l at (Collided start marks bits next) = rw e at (whole w l at (g at).fits) in
      let r = x.rows in
      let n : ℕ = bit_count (get_or l at 0) (get_or l (at + 1) 0) in
      let h : n ≤ most_bits = small_count l at g in
      rw (r.is_start, r.is_bits, r.is_marks)
      ((enough l (at + 2 + w) n (omega (arith, r.inside)), h), (enough l (at + 2 + w + row_size n) n (omega (arith, r.inside)), h))

-- ---- a record that is out of turn

pub sent_else : (l f : List ℕ) (x : Record) → ((a b c : ℕ) → x ≡ Sent a b c → ⊥) → (x ≡ End → ⊥) → (x ≡ Cut → ⊥) → Err Forbidden ≡ sent_passed l f x
sent_else l f (Sent a b c) h i j = absurd (h a b c refl)
sent_else l f (Clean a b c) h i j = refl
sent_else l f (Collided a b c d) h i j = refl
sent_else l f (Silence a) h i j = refl
sent_else l f End h i j = absurd (i refl)
sent_else l f Cut h i j = absurd (j refl)
sent_else l f Malformed h i j = refl

pub heard_else : (l : List ℕ) (x : Record) → ((a b c : ℕ) → x ≡ Clean a b c → ⊥) → ((a b c d : ℕ) → x ≡ Collided a b c d → ⊥) → ((a : ℕ) → x ≡ Silence a → ⊥) → (x ≡ End → ⊥) → (x ≡ Cut → ⊥)
    → (Err Forbidden ≡ heard_of l x) × (heard_row l x ≡ [])
heard_else l (Sent a b c) h i j k m = (refl, refl)
heard_else l (Clean a b c) h i j k m = absurd (h a b c refl)
heard_else l (Collided a b c d) h i j k m = absurd (i a b c d refl)
heard_else l (Silence a) h i j k m = absurd (j a refl)
heard_else l End h i j k m = absurd (k refl)
heard_else l Cut h i j k m = absurd (m refl)
heard_else l Malformed h i j k m = (refl, refl)

-- ---- what was heard, and the place behind it

pub heard_ok : (n : ℕ) (q : Result ℕ Refusal) (h : Heard) → Ok h ≡ heard_bits n q → (q ≡ Ok h.next) × (h.bits ≡ n)
heard_ok n (Ok at) h e = let z : h ≡ record { bits = n; next = at } = cc in (ap (λ k. Ok k.next) (sym z), ap (λ k. k.bits) z)
heard_ok n (Err x) h e = let z : ◌≡◌ {A = ℕ} 0 1 = cc in absurd (omega arith)

pub heard_err : (n : ℕ) (q : Result ℕ Refusal) (x : Refusal) → Err x ≡ heard_bits n q → q ≡ Err x
heard_err n (Ok at) x e = let z : ◌≡◌ {A = ℕ} 0 1 = cc in absurd (omega arith)
heard_err n (Err y) x e = let z : x ≡ y = cc in ap (λ k. Err k) (sym z)

-- ---- the input

pub stamp_is : (mode : ℕ) → mode ≤ 1 → 4 * mode ≡ stamp_size mode
stamp_is zero h = refl
stamp_is (suc zero) h = refl
stamp_is (suc (suc m)) h = absurd (omega arith)

-- the log behind the first byte
pub log_behind : (s : List ℕ) → take (length s - 1) (drop 1 s) ≡ drop 1 s
log_behind s = take_all (length s - 1) (drop 1 s) (simp length-drop (omega arith))
