-- Laws of a row of states: what the loops do that read and write it, and that what is written is read back. Assumes nothing.
use Rattle.std.specs.Prelude.{◌≡◌, Bool, true, false, ltb, take, get_or, set, replicate}
use Rattle.std.proofs.Math.Path.{refl, ap}
use Rattle.std.proofs.Common.{sym, ◌∙◌, add-one, zero-add, ltb-true, ltb-false, length-append, length-take, take-append-drop, take_at, drop_at, take-suc, take_all}
use mathlib.Core.List.{List, [], ◌∷◌, ◌++◌, map, append_assoc}
use Prim.Native.Nat.{ℕ, zero, suc, ◌+◌, ◌-◌, ◌*◌, ◌<◌, ◌≤◌, min}
use native.Mathlib.Omega.{arith}
use Rattle.std.proofs.Math.ListN.{length, drop, length-drop}
use Rattle.std.proofs.lemmas.List.{length-replicate, set_at, drop-append-le}
use Rattle.std.proofs.Math.Seq.{take-append-add, drop-append-add, drop-drop, length-take-le}
use Rattle.rows.specs.Rows.{overlay, All}
use Rattle.rows.specs.ListLaws.{all_append}
use Rattle.rows.proofs.RowLaws.{length_overlay}
use Rattle.kept.specs.States.{states_from, array_of, states_left}

-- ---- rows in front of a row

-- what is written behind p does not touch p
overlay_behind : (p q : List ℕ) (k : ℕ) (s : List ℕ) → overlay (p ++ q) (length p + k) s ≡ p ++ overlay q k s
unfolding overlay
overlay_behind p q k s =
    let e : length p + k + length s ≡ length p + (k + length s) = omega arith in
    rw (e, take-append-add p q k, drop-append-add p q (k + length s), append_assoc p (take k q) (s ++ drop (k + length s) q))

-- what fits into p does not touch what stands behind it
overlay_before : (p q s : List ℕ) → length s ≤ length p → overlay (p ++ q) 0 s ≡ overlay p 0 s ++ q
unfolding overlay
overlay_before p q s h = rw (zero-add, drop-append-le (length s) p q h, append_assoc s (drop (length s) p) q)

-- ---- reading

module _ {A : Type 0} (f : ℕ → List ℕ → A) where
  pub states_length : (i n : ℕ) (b : List ℕ) → length (states_from f i n b) ≡ n
  unfolding states_from
  states_length i zero b = refl
  states_length i (suc n) b = ap suc (states_length (suc i) n (drop 64 b))

  -- one more is read behind the others
  states_more : (i n : ℕ) (b : List ℕ) → states_from f i (suc n) b ≡ states_from f i n b ++ (f (i + n) (drop (64 * n) b) ∷ [])
  unfolding states_from
  states_more i zero b = let e : i ≡ i + 0 = omega arith in ap (λ k. f k b ∷ []) e
  states_more i (suc n) b =
      let e : 64 + 64 * n ≡ 64 * suc n = omega arith in
      let g : suc i + n ≡ i + suc n = omega arith in
      let d : drop (64 * n) (drop 64 b) ≡ drop (64 * suc n) b = drop-drop (64 * n) 64 b ∙ ap (λ k. drop k b) e in
      ap (λ l. f i b ∷ l) (states_more (suc i) n (drop 64 b) ∙ rw (d, g))

  -- the value of place k stands at 64 * k
  pub state_at : (n : ℕ) (b : List ℕ) (i k : ℕ) (d : A) → k < n → get_or (states_from f i n b) k d ≡ f (i + k) (drop (64 * k) b)
  unfolding states_from
  state_at zero b i k d h = absurd (omega arith)
  state_at (suc n) b i zero d h = let e : i ≡ i + 0 = omega arith in ap (λ j. f j b) e
  state_at (suc n) b i (suc k) d h =
      let e : 64 + 64 * k ≡ 64 * suc k = omega arith in
      let g : suc i + k ≡ i + suc k = omega arith in
      let w : drop (64 * k) (drop 64 b) ≡ drop (64 * suc k) b = drop-drop (64 * k) 64 b ∙ ap (λ j. drop j b) e in
      state_at n (drop 64 b) (suc i) k d (omega arith) ∙ rw (w, g)

  module _ (none : A) (most : ℕ) where
    -- the array while the first i values are read
    abbrev pub Filled : ℕ → List ℕ → List A
    Filled i b = states_from f 0 i b ++ replicate (most - i) none

    -- a turn of the loop that reads
    pub array_turn : (b : List ℕ) (a : List A) (i : ℕ) (c : A) → i < most → a ≡ Filled i b → c ≡ f i (drop (64 * i) b)
        → set a i c ≡ Filled (i + 1) b
    array_turn b a i c h e k =
        let s : most - i ≡ suc (most - (i + 1)) = omega arith in
        let z : f (0 + i) (drop (64 * i) b) ≡ c = ap (λ j. f j (drop (64 * i) b)) (zero-add i) ∙ sym k in
        rw (e, s, set_at (states_from f 0 i b) none (replicate (most - (i + 1)) none) c i (states_length 0 i b), add-one, states_more 0 i b, z)
        (sym (append_assoc (states_from f 0 i b) (c ∷ []) (replicate (most - suc i) none)))

    pub array_done : (n : ℕ) (b : List ℕ) (a : List A) (m : ℕ) → m ≡ min n most → a ≡ Filled m b → a ≡ array_of f none most n b
    unfolding array_of
    array_done n b a m e h = let k : most - m ≡ most - n = omega arith in rw (← e, ← k) h

    pub array_length : (n : ℕ) (b : List ℕ) → length (array_of f none most n b) ≡ most
    unfolding array_of
    array_length n b = rw (length-append, states_length 0 (min n most) b, length-replicate) (omega arith)

    -- of an array that holds them all the values are the first
    pub array_front : (n : ℕ) (b : List ℕ) → n ≤ most → take n (array_of f none most n b) ≡ states_from f 0 n b
    unfolding array_of
    array_front n b h =
        let e : min n most ≡ n = omega arith in
        rw e (take_at (states_from f 0 n b) (replicate (most - n) none) n (states_length 0 n b))

-- an array of which the first n values were taken out and l put in their place
pub array_parts : {A : Type 0} (most n : ℕ) (a l k : List A) → length a ≡ most → n ≤ most → k ≡ l ++ drop n a → length k ≡ most
    → (take n k ≡ l) × (length (take n k) ≡ n)
array_parts most n a l k u few e v =
    let d : length (drop n a) ≡ length a - n = length-drop n a in
    let m : length k ≡ length l + length (drop n a) = ap length e ∙ length-append l (drop n a) in
    let z : length l ≡ n = omega (arith, d, m) in
    (rw e (take_at l (drop n a) n z), length-take-le n k (omega arith))

-- ---- writing

-- an array holds no more than it has
take_few : {A : Type 0} (most n : ℕ) (l : List A) → length l ≡ most → take (min n most) l ≡ take n l
take_few most n l h = go (ltb n most) refl
  where
    go : (b : Bool) → ltb n most ≡ b → take (min n most) l ≡ take n l
    go true e = let k : n < most = ltb-true n most e in let m : min n most ≡ n = omega arith in rw m
    go false e =
        let k : most ≤ n = ltb-false n most e in
        let m : min n most ≡ most = omega arith in
        rw (m, take_all most l (omega arith), take_all n l (omega arith))

module _ {A : Type 0} (g : A → List ℕ) (fits : (x : A) → length (g x) ≤ 64) where
  -- the front of a row with a value written over it
  first_length : (b : List ℕ) (x : A) → 64 ≤ length b → length (overlay (take 64 b) 0 (g x)) ≡ 64
  first_length b x h =
      let t : length (take 64 b) ≡ 64 = length-take-le 64 b h in
      length_overlay (take 64 b) 0 (g x) (omega (arith, t, fits x)) ∙ t

  -- a turn of the loop that writes
  left_more : (b : List ℕ) (l : List A) (c : A) → 64 * (length l + 1) ≤ length b
      → overlay (states_left g b l) (64 * length l) (g c) ≡ states_left g b (l ++ (c ∷ []))
  unfolding states_left
  left_more b [] c h =
      let t : length (take 64 b) ≡ 64 = length-take-le 64 b (omega arith) in
      ap (λ x. overlay x 0 (g c)) (sym (take-append-drop 64 b)) ∙ overlay_before (take 64 b) (drop 64 b) (g c) (omega (arith, t, fits c))
  left_more b (x ∷ l) c h =
      let d : length (drop 64 b) ≡ length b - 64 = length-drop 64 b in
      let p : List ℕ = overlay (take 64 b) 0 (g x) in
      let o : length p ≡ 64 = first_length b x (omega arith) in
      let e : 64 * suc (length l) ≡ length p + 64 * length l = omega arith in
      rw e (overlay_behind p (states_left g (drop 64 b) l) (64 * length l) (g c) ∙ ap (λ q. p ++ q) (left_more (drop 64 b) l c (omega arith)))

  -- a value x that is written is read back as h x, where P holds of it: then the bytes say the values
  module _ {B : Type 0} (f : ℕ → List ℕ → B) (h : A → B) (P : A → Type 0)
      (back : (i : ℕ) (x : A) (rest : List ℕ) → P x → f i (g x ++ rest) ≡ h x) where
    first_back : (i : ℕ) (x : A) (b q : List ℕ) → P x → f i (overlay b 0 (g x) ++ q) ≡ h x
    unfolding overlay
    first_back i x b q p = rw (append_assoc (g x) (drop (0 + length (g x)) b) q) (back i x _ p)

    states_back : (i : ℕ) (b : List ℕ) (l : List A) → 64 * length l ≤ length b → All P l → states_from f i (length l) (states_left g b l) ≡ map h l
    unfolding states_from states_left
    states_back i b [] r w = refl
    states_back i b (x ∷ l) r w =
        let d : length (drop 64 b) ≡ length b - 64 = length-drop 64 b in
        let p : List ℕ = overlay (take 64 b) 0 (g x) in
        let q : List ℕ = states_left g (drop 64 b) l in
        let o : length p ≡ 64 = first_length b x (omega arith) in
        rw (drop_at p q 64 o, states_back (suc i) (drop 64 b) l (omega arith) w.1, first_back i x (take 64 b) q w.0)

    -- ---- the loop that writes the first n of an array

    pub put_turn : (b b₀ b₁ : List ℕ) (l : List A) (i : ℕ) (c d : A) (k : List ℕ) → i < length l → 64 * (i + 1) ≤ length b₀
        → b ≡ states_left g b₀ (take i l) → All P (take i l) → c ≡ get_or l i d → P c → k ≡ g c → b₁ ≡ overlay b (64 * i) k
        → (b₁ ≡ states_left g b₀ (take (i + 1) l)) × All P (take (i + 1) l)
    put_turn b b₀ b₁ l i c d k u r e a v w z o =
        let t : length (take i l) ≡ i = length-take-le i l (omega arith) in
        let s : take (i + 1) l ≡ take i l ++ (c ∷ []) = rw (add-one, v) (take-suc l i d u) in
        let m : overlay (states_left g b₀ (take i l)) (64 * i) (g c) ≡ states_left g b₀ (take i l ++ (c ∷ [])) =
        rw t at (left_more b₀ (take i l) c (omega (arith, t))) in
        (rw (s, o, e, z) m, rw s (all_append P (take i l) (c ∷ []) a (w, tt)))

    pub put_done : (most n m : ℕ) (b b₀ : List ℕ) (l : List A) → 64 * n ≤ length b₀ → length l ≡ most → m ≡ min n most → b ≡ states_left g b₀ (take m l)
        → All P (take m l) → (b ≡ states_left g b₀ (take n l)) × (states_from f 0 (length (take n l)) b ≡ map h (take n l))
    put_done most n m b b₀ l r u e w a =
        let t : take m l ≡ take n l = rw e (take_few most n l u) in
        let k : b ≡ states_left g b₀ (take n l) = rw (← t) w in
        let v : length (take n l) ≤ n = rw length-take (omega arith) in
        (k, rw k (states_back 0 b₀ (take n l) (omega (arith, v)) (rw t at a)))
