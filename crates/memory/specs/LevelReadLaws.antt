-- A good answer to ANTICOLLISION: the bits of the level that are known then begin with those that were sent, and the path has the others. Assumes
-- nothing.
use Rattle.std.specs.Prelude.{◌≡◌, refl, ℕ, suc, ◌+◌, ◌-◌, ◌*◌, ◌/◌, ◌≤◌, ◌<◌, Bool, true, false, cond, not, ◌&&◌, List, [], ◌∷◌, ◌++◌, length, take, drop, get_or, eqb, ltb}
use Rattle.std.proofs.Common.{sym, ap, ap₂, ◌∙◌, arith, true≢false, length-append, length-take, take-append-drop, get_or-take, ext_get_or, eqb-true, ltb-false}
use Rattle.std.proofs.lemmas.Bool.{false≢true}
use Rattle.std.proofs.Math.ListN.{get_or-append}
use Rattle.rows.specs.CleanLaws.{bit_two, not_nil, next_append, clean_append, next_clean}
use Rattle.rows.specs.ListLaws.{all_append, all_take_law}
use Rattle.rows.specs.Rows.{Bits, is_nil, clean, next, same}
use Rattle.parity.specs.Bits.{bits_of}
use Rattle.frame.specs.ByteLaws.{bits_air_bits, length_air_bits}
use Rattle.frame.specs.Frame.{air_bits, air_byte, standard, data_of, bytes_of, faulty}
use Rattle.frame.proofs.FrameLaws.{length_standard}
use Rattle.uid.specs.Uid.{level}
use Rattle.selection.specs.Heard.{read_rest, rest_of, not_rest, rest_place}
use Rattle.selection.specs.LevelLaws.{length_data, data_at}
use Rattle.selection.specs.Selection.{cut}
use Rattle.reader.specs.CollisionLaws.{level_row, level_bits}
use Rattle.memory.specs.Memory as Memory
use Rattle.memory.specs.Memory.{keeping, marked}
use Rattle.refusal.specs.declared.Refusal.TheVariants.{Length, Parity, Check, Silence, Collision}
use Rattle.selection.specs.declared.RestSays.{RestSays}
use Rattle.selection.specs.declared.RestSays.TheVariants.{Whole, Collided, NotRest}

-- ---- what was read

abbrev pub is_good : RestSays → Bool
is_good Whole = true
is_good Collided = true
is_good (NotRest e) = false

record Read (k : ℕ) (five h : List ℕ) : Type 0 where
  pub full : cut k + length h ≡ 45
  pub early : clean (level_bits k five h) ≡ false → length (next (level_bits k five h)) ≤ 32
  pub is : read_rest k five h ≡ rest_of (cond (clean (level_bits k five h)) Whole Collided) (next (level_bits k five h))

read_good : (k : ℕ) (five h : List ℕ) → is_good (read_rest k five h).says ≡ true → Read k five h
unfolding read_rest rest_of
read_good k five h says =
    let d : List ℕ = level_bits k five h in
    let i : ℕ = (k + 7) / 8 in
    go (is_nil h) (eqb (cut k + length h) 45) (clean d) (ltb 32 (length (next d))) (faulty (5 - i) (drop (9 * i) (level_row k five h)))
    (same (bytes_of 5 d) (level (take 4 (bytes_of 5 d)))) refl refl refl refl refl refl says
  where
    go : (a b c e f s : Bool) → is_nil h ≡ a → eqb (cut k + length h) 45 ≡ b → clean (level_bits k five h) ≡ c → ltb 32 (length (next (level_bits k five h))) ≡ e
        → faulty (5 - (k + 7) / 8) (drop (9 * ((k + 7) / 8)) (level_row k five h)) ≡ f
        → same (bytes_of 5 (level_bits k five h)) (level (take 4 (bytes_of 5 (level_bits k five h)))) ≡ s
        → is_good (cond a (not_rest Silence) (cond (not b) (not_rest Length) (cond (not c && e) (not_rest Collision) (cond f (not_rest (Parity (rest_place k (level_row k five h)))) (cond (c && not s) (not_rest Check)
        (rest_of (cond c Whole Collided) (next (level_bits k five h)))))))).says ≡ true → Read k five h
    go true b c e f s ea eb ec ee ef es q = absurd (false≢true q)
    go false false c e f s ea eb ec ee ef es q = absurd (false≢true q)
    go false true false true f s ea eb ec ee ef es q = absurd (false≢true q)
    go false true false false true s ea eb ec ee ef es q = absurd (false≢true q)
    go false true false false false s ea eb ec ee ef es q = record {
      full = eqb-true (cut k + length h) 45 eb;
      early = λ z. ltb-false 32 (length (next (level_bits k five h))) ee;
      is = rw (ea, eb, ec, ee, ef);
    }
    go false true true e true s ea eb ec ee ef es q = absurd (false≢true q)
    go false true true e false true ea eb ec ee ef es q = record {
      full = eqb-true (cut k + length h) 45 eb;
      early = λ z. absurd (true≢false (sym ec ∙ z));
      is = rw (ea, eb, ec, ef, es);
    }
    go false true true e false false ea eb ec ee ef es q = absurd (false≢true q)

-- ---- bits and marks

bits_same : (v : List ℕ) → Bits v → Memory.bits v ≡ v
unfolding Memory.bits
bits_same [] b = refl
bits_same (x ∷ v) b = ap₂ ◌∷◌ (rw (bit_two x b.0)) (bits_same v b.1)

pub next_bits : (h : List ℕ) → Bits (next h)
unfolding next
next_bits [] = tt
next_bits (x ∷ h) = go (ltb 1 x) refl (next_bits h)
  where
    go : (b : Bool) → ltb 1 x ≡ b → Bits (next h) → Bits (cond b (1 ∷ []) (x ∷ next h))
    go true e i = (omega arith, tt)
    go false e i = (omega (arith, ltb-false 1 x e), i)

next_some : (h : List ℕ) → clean h ≡ false → 1 ≤ length (next h)
unfolding clean next
next_some [] c = absurd (true≢false c)
next_some (x ∷ h) c = go (ltb 1 x)
  where
    go : (b : Bool) → 1 ≤ length (cond b (1 ∷ []) (x ∷ next h))
    go true = omega arith
    go false = omega arith

-- where a bit collided the last of those that go on is a 1, and the path has a 2 there
kept_next : (h : List ℕ) → clean h ≡ false → Memory.bits (keeping (next h)) ≡ next h
unfolding clean next keeping is_nil Memory.bits
kept_next [] c = absurd (true≢false c)
kept_next (x ∷ h) c = go (ltb 1 x) refl c (kept_next h)
  where
    go : (b : Bool) → ltb 1 x ≡ b → cond b false (clean h) ≡ false → (clean h ≡ false → Memory.bits (keeping (next h)) ≡ next h)
        → Memory.bits (keeping (cond b (1 ∷ []) (x ∷ next h))) ≡ cond b (1 ∷ []) (x ∷ next h)
    go true e c ih = refl
    go false e c ih = rw (not_nil (next h) (next_some h c), e) (ap (λ l. x ∷ l) (ih c))

length_keeping : (v : List ℕ) → length (keeping v) ≡ length v
unfolding keeping is_nil
length_keeping [] = refl
length_keeping (x ∷ []) = refl
length_keeping (x ∷ y ∷ v) = ap suc (length_keeping (y ∷ v))

-- ---- what was sent comes first

data_frame : (l : List ℕ) → data_of (length l) (standard l) ≡ air_bits l
unfolding data_of standard air_bits air_byte bits_of
data_frame [] = refl
data_frame (b ∷ l) = rw (data_frame l)

module _ (k : ℕ) (five h : List ℕ) (n : length five ≡ 5) (few : k ≤ 40) (full : cut k + length h ≡ 45) where
  row : length (standard five) ≡ 45
  row = rw (length_standard, n)

  sent : length (take (cut k) (standard five)) ≡ cut k
  sent = rw (length-take, row) (omega arith)

  long : length (level_row k five h) ≡ 45
  long = rw (length-append, sent) full

  forty : length (level_bits k five h) ≡ 40
  forty = length_data 5 (level_row k five h) (omega (arith, long))

  bits_sent_law : length (air_bits five) ≡ 40
  bits_sent_law = rw (length_air_bits, n)

  prefix : take k (level_bits k five h) ≡ take k (air_bits five)
  prefix = ext_get_or 0 (take k (level_bits k five h)) (take k (air_bits five)) (rw (length-take, length-take, forty, bits_sent_law)) (λ i l. same_bit i (omega (arith, l, length-take k (level_bits k five h), forty)))
    where
      same_bit : (i : ℕ) → i < k → get_or (take k (level_bits k five h)) i 0 ≡ get_or (take k (air_bits five)) i 0
      same_bit i l =
          get_or-take k (level_bits k five h) i 0 l
          ∙ data_at 5 (level_row k five h) i (omega (arith, long)) (omega arith)
          ∙ get_or-append (take (cut k) (standard five)) h 0 (i + i / 8) (omega (arith, sent))
          ∙ get_or-take (cut k) (standard five) (i + i / 8) 0 (omega arith)
          ∙ sym (data_at 5 (standard five) i (omega (arith, row)) (omega arith))
          ∙ ap (λ l. get_or l i 0) (ap (λ m. data_of m (standard five)) (sym n) ∙ data_frame five)
          ∙ sym (get_or-take k (air_bits five) i 0 l)

-- ---- all of it

pub record Grown (k : ℕ) (five h : List ℕ) : Type 0 where
  pub c : Bool
  pub e : List ℕ
  pub is : read_rest k five h ≡ rest_of (cond c Whole Collided) (take k (air_bits five) ++ e)
  pub bits : Bits (take k (air_bits five) ++ e)
  pub fit : length (take k (air_bits five) ++ e) ≤ 40
  pub path : Memory.bits (marked (cond c Whole Collided) e) ≡ e
  pub long_path : length (marked (cond c Whole Collided) e) ≡ length e
  pub whole : c ≡ true → length (take k (air_bits five) ++ e) ≡ 40

pub grown : (k : ℕ) (five h : List ℕ) → length five ≡ 5 → k ≤ 40 → is_good (read_rest k five h).says ≡ true → Grown k five h
grown k five h n few g =
    let r : Read k five h = read_good k five h g in
    let d : List ℕ = level_bits k five h in
    let K : List ℕ = take k (air_bits five) in
    let H : List ℕ = drop k d in
    let b_k : Bits K = all_take_law (λ x. x < 2) k (air_bits five) (bits_air_bits five) in
    let eD : d ≡ K ++ H = sym (take-append-drop k d) ∙ ap (λ l. l ++ H) (prefix k five h n few r.full) in
    let eN : next d ≡ K ++ next H = ap next eD ∙ next_append K H b_k in
    let eC : clean d ≡ clean H = ap clean eD ∙ clean_append K H b_k in
    let m : length d ≡ 40 = forty k five h n few r.full in
    record {
      c = clean d;
      e = next H;
      is = r.is ∙ ap (rest_of (cond (clean d) Whole Collided)) eN;
      bits = all_append (λ x. x < 2) K (next H) b_k (next_bits H);
      fit = rw (← eN) (short (clean d) refl r.early m);
      path = rw eC (marks (clean H) refl);
      long_path = same_length (clean d);
      whole = λ t. rw (← eN, next_clean d t) m;
    }
  where
    short : (b : Bool) → clean (level_bits k five h) ≡ b → (clean (level_bits k five h) ≡ false → length (next (level_bits k five h)) ≤ 32) → length (level_bits k five h) ≡ 40 → length (next (level_bits k five h)) ≤ 40
    short true t early m = rw (next_clean (level_bits k five h) t) (omega (arith, m))
    short false t early m = omega (arith, early t)

    marks : (b : Bool) → clean (drop k (level_bits k five h)) ≡ b → Memory.bits (marked (cond b Whole Collided) (next (drop k (level_bits k five h)))) ≡ next (drop k (level_bits k five h))
    marks true t = bits_same (next (drop k (level_bits k five h))) (next_bits (drop k (level_bits k five h)))
    marks false t = kept_next (drop k (level_bits k five h)) t

    same_length : (b : Bool) → length (marked (cond b Whole Collided) (next (drop k (level_bits k five h)))) ≡ length (next (drop k (level_bits k five h)))
    same_length true = refl
    same_length false = length_keeping (next (drop k (level_bits k five h)))
