-- Laws of a level's bits: the data bits of a row with parity, the bits known after a collision, and the bytes of them. Assumes nothing.
use Rattle.std.specs.Prelude.{◌≡◌, refl, Bool, true, false, cond, List, [], ◌∷◌, ◌++◌, ℕ, zero, suc, ◌+◌, ◌-◌, ◌*◌, ◌/◌, ◌≤◌, ◌<◌, length, take, drop, get_or, set, replicate, ltb}
use Rattle.std.proofs.Common.{sym, ap, ◌∙◌, not-suc-le-zero, zero-add, add-one, arith, length-append, length-take, length-drop, drop_of_length-le, drop-cons, take_all, get_or-append-add, get_or-drop, get_or-take, drop-drop, lt-ltb, le-ltb, ltb-true, ltb-false}
use Rattle.std.proofs.lemmas.List.{length-replicate}
use Rattle.std.proofs.Math.ListN.{get_or-append}
use Rattle.rows.specs.Rows.{overlay, clean, next, fill}
use Rattle.rows.proofs.RowLaws.{overlay_set, overlay_copy}
use Rattle.uid.specs.FillLaws.{fill_zeros}
use Rattle.frame.specs.Frame.{data_of, bytes_of}
use Rattle.frame.specs.ByteLaws.{length_bytes}
use Rattle.parity.specs.Bits.{unbits}
use Rattle.selection.specs.Level.{first_collided}

-- ---- data bits

pub length_data : (n : ℕ) (w : List ℕ) → 9 * n ≤ length w → length (data_of n w) ≡ 8 * n
unfolding data_of
length_data zero w h = refl
length_data (suc n) w h = rw (length-append, length-take, length_data n (drop 9 w) (rw length-drop (omega arith))) (omega arith)

module _ (n : ℕ) (w : List ℕ) (i : ℕ) (h : 9 * suc n ≤ length w) where
  eight : length (take 8 w) ≡ 8
  eight = rw length-take (omega arith)

  data_first : i < 8 → get_or (take 8 w ++ data_of n (drop 9 w)) i 0 ≡ get_or w (i + i / 8) 0
  data_first k =
      let z : i + i / 8 ≡ i = omega arith in
      get_or-append (take 8 w) (data_of n (drop 9 w)) 0 i (omega (arith, eight)) ∙ rw z (get_or-take 8 w i 0 k)

  data_later : 8 ≤ i → get_or (data_of n (drop 9 w)) (i - 8) 0 ≡ get_or (drop 9 w) (i - 8 + (i - 8) / 8) 0
      → get_or (take 8 w ++ data_of n (drop 9 w)) i 0 ≡ get_or w (i + i / 8) 0
  data_later k ih =
      let m : ℕ = i - 8 in
      let s : i ≡ length (take 8 w) + m = omega (arith, eight) in
      let z : i + i / 8 ≡ 9 + (m + m / 8) = omega arith in
      ap (λ (j : ℕ). get_or (take 8 w ++ data_of n (drop 9 w)) j 0) s ∙ get_or-append-add (take 8 w) (data_of n (drop 9 w)) m 0
      ∙ ih ∙ get_or-drop 9 w (m + m / 8) 0 ∙ ap (λ (j : ℕ). get_or w j 0) (sym z)

-- data bit i stands behind i / 8 parity bits
pub data_at : (n : ℕ) (w : List ℕ) (i : ℕ) → 9 * n ≤ length w → i < 8 * n → get_or (data_of n w) i 0 ≡ get_or w (i + i / 8) 0
unfolding data_of
data_at zero w i h l = absurd (omega arith)
data_at (suc n) w i h l = go (ltb i 8) refl (λ k. data_at n (drop 9 w) (i - 8) (rw length-drop (omega arith)) (omega arith))
  where
    go : (b : Bool) → ltb i 8 ≡ b → (8 ≤ i → get_or (data_of n (drop 9 w)) (i - 8) 0 ≡ get_or (drop 9 w) (i - 8 + (i - 8) / 8) 0)
        → get_or (take 8 w ++ data_of n (drop 9 w)) i 0 ≡ get_or w (i + i / 8) 0
    go true e ih = data_first n w i h (ltb-true i 8 e)
    go false e ih = data_later n w i h (ltb-false i 8 e) (ih (ltb-false i 8 e))

-- a turn of the loop that takes the data bits out
pub data_turn : (d w : List ℕ) (i : ℕ) → length d ≡ 40 → length w ≡ 45 → i < 40
    → set (overlay d 0 (take i (data_of 5 w))) i (get_or w (i + i / 8) 0) ≡ overlay d 0 (take (i + 1) (data_of 5 w))
data_turn d w i hd hw l =
    rw (← data_at 5 w i (omega arith) l)
    (rw zero-add at (overlay_copy d 0 (data_of 5 w) i (omega arith) (rw (length_data 5 w (omega arith)) l)))

-- ---- the first collided bit

pub first_next : (h : List ℕ) (i : ℕ) → i < length h → get_or h i 0 ≤ 1 → i + first_collided (drop i h) ≡ i + 1 + first_collided (drop (i + 1) h)
unfolding first_collided
first_next h i l e = rw (add-one, drop-cons h i 0) (rw (le-ltb 1 (get_or h i 0) e) (omega arith))

pub first_here : (h : List ℕ) (i : ℕ) → i < length h → 1 < get_or h i 0 → first_collided (drop i h) ≡ 0
unfolding first_collided
first_here h i l e = rw (drop-cons h i 0) (rw (lt-ltb 1 (get_or h i 0) e))

pub first_done : (h : List ℕ) (i : ℕ) → length h ≤ i → first_collided (drop i h) ≡ 0
unfolding first_collided
first_done h i l = rw (drop_of_length-le h l)

pub first_le : (h : List ℕ) → first_collided h ≤ length h
unfolding first_collided
first_le [] = omega arith
first_le (x ∷ h) = go (ltb 1 x) (first_le h)
  where
    go : (b : Bool) → first_collided h ≤ length h → cond b 0 (suc (first_collided h)) ≤ suc (length h)
    go true ih = omega arith
    go false ih = omega arith

-- the bits before it are clean
pub first_head : (h : List ℕ) → clean (take (first_collided h) h) ≡ true
unfolding first_collided clean
first_head [] = refl
first_head (x ∷ h) = go (ltb 1 x) refl (first_head h)
  where
    go : (b : Bool) → ltb 1 x ≡ b → clean (take (first_collided h) h) ≡ true → clean (take (cond b 0 (suc (first_collided h))) (x ∷ h)) ≡ true
    go true e ih = refl
    go false e ih = rw e ih

-- no bit collided: all are known
pub first_clean : (h : List ℕ) → length h ≤ first_collided h → (clean h ≡ true) × (next h ≡ h)
unfolding first_collided clean next
first_clean [] e = (refl, refl)
first_clean (x ∷ h) e = go (ltb 1 x) e (λ k. first_clean h k)
  where
    go : (b : Bool) → suc (length h) ≤ cond b 0 (suc (first_collided h)) → (length h ≤ first_collided h → (clean h ≡ true) × (next h ≡ h))
        → (cond b false (clean h) ≡ true) × (cond b (1 ∷ []) (x ∷ next h) ≡ x ∷ h)
    go true k ih = absurd (omega arith)
    go false k ih = let r : (clean h ≡ true) × (next h ≡ h) = ih (omega arith) in (r.0, ap (λ l. x ∷ l) r.1)

-- a bit collided: those before it are known, and then a 1
pub first_clash : (h : List ℕ) → first_collided h < length h → (clean h ≡ false) × (next h ≡ take (first_collided h) h ++ 1 ∷ [])
unfolding first_collided clean next
first_clash [] e = absurd (not-suc-le-zero e)
first_clash (x ∷ h) e = go (ltb 1 x) e (λ k. first_clash h k)
  where
    go : (b : Bool) → cond b 0 (suc (first_collided h)) < suc (length h)
        → (first_collided h < length h → (clean h ≡ false) × (next h ≡ take (first_collided h) h ++ 1 ∷ []))
        → (cond b false (clean h) ≡ false) × (cond b (1 ∷ []) (x ∷ next h) ≡ take (cond b 0 (suc (first_collided h))) (x ∷ h) ++ 1 ∷ [])
    go true k ih = (refl, refl)
    go false k ih = let r : (clean h ≡ false) × (next h ≡ take (first_collided h) h ++ 1 ∷ []) = ih (omega arith) in (r.0, ap (λ l. x ∷ l) r.1)

-- ---- the bits known, zeros behind

pub known_clean : (d e : List ℕ) (p : ℕ) → length d ≡ 40 → p ≡ first_collided d → 40 ≤ p → e ≡ overlay (replicate 40 0) 0 (take p d) → e ≡ fill 40 (next d)
known_clean d e p hd hp l q =
    q ∙ ap (overlay (replicate 40 0) 0) (take_all p d (omega arith) ∙ sym (first_clean d (omega arith)).1) ∙ fill_zeros 40 (next d)

pub known_clash : (d e : List ℕ) (p : ℕ) → length d ≡ 40 → p ≡ first_collided d → p < 40 → e ≡ overlay (replicate 40 0) 0 (take p d)
    → set e p 1 ≡ fill 40 (next d)
known_clash d e p hd hp l q =
    let t : length (take p d) ≡ p = rw length-take (omega arith) in
    let n : next d ≡ take p d ++ 1 ∷ [] = rw hp (first_clash d (omega arith)).1 in
    rw (q, n, ← fill_zeros 40 (take p d ++ 1 ∷ [])) (rw (t, zero-add) at (overlay_set (replicate 40 0) 0 (take p d) 1 (rw (t, length-replicate) (omega arith))))

-- ---- bytes

pub bytes_at_law : (n : ℕ) (d : List ℕ) (i : ℕ) → i < n → get_or (bytes_of n d) i 0 ≡ unbits (take 8 (drop (8 * i) d))
unfolding bytes_of
bytes_at_law zero d i h = absurd (not-suc-le-zero h)
bytes_at_law (suc n) d zero h = refl
bytes_at_law (suc n) d (suc i) h =
    let e : 8 * suc i ≡ 8 + 8 * i = omega arith in
    bytes_at_law n (drop 8 d) i (omega arith) ∙ ap (λ l. unbits (take 8 l)) (drop-drop (8 * i) 8 d ∙ ap (λ (k : ℕ). drop k d) (sym e))

-- a turn of the loop that makes bytes
pub bytes_turn : (d e : List ℕ) (i : ℕ) → length d ≡ 5 → i < 5
    → set (overlay d 0 (take i (bytes_of 5 e))) i (unbits (take 8 (drop (8 * i) e))) ≡ overlay d 0 (take (i + 1) (bytes_of 5 e))
bytes_turn d e i hd l = rw (← bytes_at_law 5 e i l) (rw zero-add at (overlay_copy d 0 (bytes_of 5 e) i (omega arith) (rw (length_bytes 5 e) l)))
