-- Document 01, "The reader and the sweep" and "Slips that have cost us": what the reader sends after a collision, that a level comes to an
-- end, and what of an answer is not looked at. Assumes nothing.
use Rattle.std.proofs.Math.Path.{◌≡◌, refl, sym, ap}
use Rattle.std.proofs.Common.{◌∙◌, not-suc-le-zero, length-append, length-take, length-set, get_or-take, drop-set-lt}
use Rattle.std.specs.Prelude.{Bool, cond, ◌&&◌, take, drop, get_or, set, replicate, Ok}
use Rattle.std.proofs.Math.Bool.{true, false, not}
use mathlib.Core.List.{List, [], ◌∷◌, ◌++◌}
use Prim.Native.Nat.{ℕ, zero, suc, ◌+◌, ◌-◌, ◌*◌, ◌/◌, ◌%◌, ◌≤◌, ◌<◌}
use native.Mathlib.Omega.{arith}
use Rattle.std.proofs.Math.ListN.{length, get_or-append}
use Rattle.std.proofs.lemmas.List.{take-set-le, drop-set-add}
use Rattle.std.proofs.Math.Dec.{eqb, ltb}
use borrow.Author.Tests.{eqb-true, eqb-false, ltb-true, ltb-false}
use Rattle.rows.specs.HeardLaws.{clean_bits}
use Rattle.rows.specs.ListLaws.{all_append}
use Rattle.rows.specs.Rows.{Bits, is_nil, clean, next, same}
use Rattle.parity.specs.Bits.{bits_of, odd, ones}
use Rattle.frame.specs.ByteLaws.{bits_bytes_take, length_bytes}
use Rattle.frame.specs.Frame.{air_bits, air_byte, standard, data_of, bytes_of, first_wrong, faulty}
use Rattle.frame.proofs.FrameLaws.{length_standard, bits_standard}
use Rattle.uid.specs.Uid.{level}
use Rattle.selection.specs.Heard.{read_atqa, rest_place, read_rest, rest_of, not_rest}
use Rattle.selection.specs.Level.{first_collided, level_says}
use Rattle.selection.specs.LevelLaws.{data_at, first_clean, first_clash, first_head}
use Rattle.selection.specs.RestLaws.{nil_no, rest_silent, rest_length, rest_level}
use Rattle.selection.specs.Selection.{cut, anticollision}
use Rattle.reader.specs.Reader.{reader, frame, sends, hear, after_rest}
use Rattle.reader.specs.StepLaws.{hear_at, rest_at}
use Rattle.uid.specs.declared.Level.{Level}
use Rattle.uid.specs.declared.Uid.{Uid}
use Rattle.refusal.specs.declared.Refusal.TheVariants.{Silence, Length, Collision, Parity, Check}
use Rattle.selection.specs.declared.Rest.{Rest}
use Rattle.selection.specs.declared.RestSays.{RestSays}
use Rattle.selection.specs.declared.RestSays.TheVariants.{Whole, Collided, NotRest}
use Rattle.reader.specs.declared.Phase.TheVariants.{AnticollisionSent, SelectSent, Stopped}
use Rattle.reader.specs.declared.Reader.{Reader}

-- ---- a collision

-- the level's 45 bits, as sent and as heard, and the data bits of them
abbrev pub level_row : ℕ → List ℕ → List ℕ → List ℕ
level_row k five h = take (cut k) (standard five) ++ h

abbrev pub level_bits : ℕ → List ℕ → List ℕ → List ℕ
level_bits k five h = data_of 5 (level_row k five h)

-- the first collided position of the level
abbrev pub clash_at : ℕ → List ℕ → List ℕ → ℕ
clash_at k five h = first_collided (level_bits k five h)

-- .. "and then a 1"
abbrev pub with_one : ℕ → List ℕ → List ℕ
with_one p d = take p d ++ 1 ∷ []

-- a row that was read as one with a collision
record Clashed (k : ℕ) (five h : List ℕ) : Type 0 where
  pub full : cut k + length h ≡ 45
  pub rough : clean (level_bits k five h) ≡ false
  pub early : length (next (level_bits k five h)) ≤ 32
  pub is : read_rest k five h ≡ rest_of Collided (next (level_bits k five h))

module _ (k : ℕ) (five h : List ℕ) (says : (read_rest k five h).says ≡ Collided) where
  clashed : Clashed k five h
  unfolding read_rest rest_of
  clashed =
      let d : List ℕ = level_bits k five h in
      let i : ℕ = (k + 7) / 8 in
      go (is_nil h) (eqb (cut k + length h) 45) (clean d) (ltb 32 (length (next d))) (faulty (5 - i) (drop (9 * i) (level_row k five h)))
      (same (bytes_of 5 d) (level (take 4 (bytes_of 5 d)))) refl refl refl refl refl says
    where
      go : (a b c e f s : Bool) → is_nil h ≡ a → eqb (cut k + length h) 45 ≡ b → clean (level_bits k five h) ≡ c → ltb 32 (length (next (level_bits k five h))) ≡ e
          → faulty (5 - (k + 7) / 8) (drop (9 * ((k + 7) / 8)) (level_row k five h)) ≡ f
          → (cond a (not_rest Silence) (cond (not b) (not_rest Length) (cond (not c && e) (not_rest Collision) (cond f (not_rest (Parity (rest_place k (level_row k five h)))) (cond (c && not s) (not_rest Check)
          (rest_of (cond c Whole Collided) (next (level_bits k five h)))))))).says ≡ Collided → Clashed k five h
      go true b c e f s ea eb ec ee ef q = absurd (let z : ◌≡◌ {A = ℕ} 0 1 = cc in omega arith)
      go false false c e f s ea eb ec ee ef q = absurd (let z : ◌≡◌ {A = ℕ} 0 1 = cc in omega arith)
      go false true false true f s ea eb ec ee ef q = absurd (let z : ◌≡◌ {A = ℕ} 0 1 = cc in omega arith)
      go false true false false true s ea eb ec ee ef q = absurd (let z : ◌≡◌ {A = ℕ} 0 1 = cc in omega arith)
      go false true false false false s ea eb ec ee ef q = record {
        full = eqb-true (cut k + length h) 45 eb;
        rough = ec;
        early = ltb-false 32 (length (next (level_bits k five h))) ee;
        is = rw (ea, eb, ec, ee, ef);
      }
      go false true true e true s ea eb ec ee ef q = absurd (let z : ◌≡◌ {A = ℕ} 0 1 = cc in omega arith)
      go false true true e false true ea eb ec ee ef q = absurd (let z : ◌≡◌ {A = ℕ} 0 1 = cc in omega arith)
      go false true true e false false ea eb ec ee ef q = absurd (let z : ◌≡◌ {A = ℕ} 0 1 = cc in omega arith)

  p : ℕ
  p = clash_at k five h

  d : List ℕ
  d = level_bits k five h

  in_row : p < length d
  unfolding p d
  in_row = go (ltb (first_collided d) (length d)) refl
    where
      go : (b : Bool) → ltb (first_collided d) (length d) ≡ b → first_collided d < length d
      go true e = ltb-true (first_collided d) (length d) e
      go false e =
          let t : clean d ≡ true = (first_clean d (ltb-false (first_collided d) (length d) e)).0 in
          let f : clean d ≡ false = clashed.rough in
          absurd (let z : ◌≡◌ {A = Bool} true false = sym t ∙ f in let y : ◌≡◌ {A = ℕ} 0 1 = cc in omega arith)

  next_is : next d ≡ with_one p d
  unfolding p d
  next_is = (first_clash d in_row).1

  one_more : length (with_one p d) ≡ p + 1
  unfolding p d
  one_more = rw (length-append, length-take) (omega (arith, in_row))

  one_bits : Bits (with_one p d)
  unfolding p d
  one_bits = all_append (λ x. x < 2) (take p d) (1 ∷ []) (clean_bits (take p d) (first_head d)) (omega arith, tt)

  early_clash : p < 32
  unfolding p d
  early_clash = omega (arith, clashed.early, ap length next_is, one_more)

-- "at the first collided position p of the level (0 to 31) the next frame sends the bits before p and then a 1": p + 1 bits are known, and
-- the first p + 1 of the level's five bytes are those. One statement for every p, so for 7, 15, 23 and 31 too, where the 1 is the last bit of
-- its byte
pub record NextBits (k : ℕ) (five h : List ℕ) (p : ℕ) : Type 0 where
  pub place : p < 32
  pub known : (read_rest k five h).known ≡ p + 1
  pub bits : take (p + 1) (air_bits (read_rest k five h).five) ≡ with_one p (level_bits k five h)

pub next_bits : (k : ℕ) (five h : List ℕ) → (read_rest k five h).says ≡ Collided → NextBits k five h (clash_at k five h)
unfolding rest_of p d
next_bits k five h s =
    let K : List ℕ = with_one (p k five h s) (d k five h s) in
    let m : length K ≡ p k five h s + 1 = one_more k five h s in
    let e : read_rest k five h ≡ rest_of Collided K = (clashed k five h s).is ∙ ap (rest_of Collided) (next_is k five h s) in
    record {
      place = early_clash k five h s;
      known = ap (λ (x : Rest). x.known) e ∙ m;
      bits = rw (e, ← m) (bits_bytes_take 5 K (one_bits k five h s) (omega (arith, m, early_clash k five h s)));
    }

-- .. and that is the next frame
pub next_frame : (l : Level) (r : Reader) (h : List ℕ) → r.phase ≡ AnticollisionSent l → (read_rest r.known r.five h).says ≡ Collided
    → frame (hear r h).reader ≡ anticollision l (clash_at r.known r.five h + 1) (read_rest r.known r.five h).five
unfolding frame sends
next_frame l r h e s =
    let x : Rest = read_rest r.known r.five h in
    rw (hear_at r h (AnticollisionSent l) e, rest_at l r h x Collided refl s, ← (next_bits r.known r.five h s).known)

-- ---- a level comes to an end

-- the first collided bit is one
first_hit : (h : List ℕ) → first_collided h < length h → 1 < get_or h (first_collided h) 0
unfolding first_collided
first_hit [] l = absurd (not-suc-le-zero l)
first_hit (x ∷ h) l = go (ltb 1 x) refl l (λ m. first_hit h m)
  where
    go : (b : Bool) → ltb 1 x ≡ b → cond b 0 (suc (first_collided h)) < suc (length h) → (first_collided h < length h → 1 < get_or h (first_collided h) 0)
        → 1 < get_or (x ∷ h) (cond b 0 (suc (first_collided h))) 0
    go true e m ih = ltb-true 1 x e
    go false e m ih = ih (omega arith)

bit_at : (l : List ℕ) → Bits l → (i : ℕ) → get_or l i 0 < 2
bit_at [] b i = omega arith
bit_at (x ∷ l) b zero = b.0
bit_at (x ∷ l) b (suc i) = bit_at l b.1 i

-- each ANTICOLLISION of a level sends more bits than the one before, at most 32
pub grows : (k : ℕ) (five h : List ℕ) → length five ≡ 5 → (read_rest k five h).says ≡ Collided → (k < (read_rest k five h).known) × ((read_rest k five h).known ≤ 32)
unfolding p d
grows k five h n s =
    let b : NextBits k five h (clash_at k five h) = next_bits k five h s in
    (go (ltb (clash_at k five h) k) refl, omega (arith, b.place, b.known))
  where
    w : List ℕ
    w = level_row k five h

    row : length (standard five) ≡ 45
    row = rw (length_standard, n)

    sent : length (take (cut k) (standard five)) ≡ cut k
    sent = rw (length-take, row) (omega (arith, (clashed k five h s).full))

    long : length w ≡ 45
    long = rw (length-append, sent) (clashed k five h s).full

    go : (b : Bool) → ltb (clash_at k five h) k ≡ b → k < (read_rest k five h).known
    go true e =
        let i : ℕ = clash_at k five h in
        let l : i < k = ltb-true i k e in
        let t : get_or (level_bits k five h) i 0 ≡ get_or (standard five) (i + i / 8) 0 =
        data_at 5 w i (omega (arith, long)) (omega (arith, early_clash k five h s))
        ∙ get_or-append (take (cut k) (standard five)) h 0 (i + i / 8) (omega (arith, sent))
        ∙ get_or-take (cut k) (standard five) (i + i / 8) 0 (omega arith) in
        absurd (omega (arith, t, first_hit (level_bits k five h) (in_row k five h s), bit_at (standard five) (bits_standard five) (i + i / 8)))
    go false e = omega (arith, ltb-false (clash_at k five h) k e, (next_bits k five h s).known)

-- a reader that answers a row with ANTICOLLISION of the same level
pub record More (r t : Reader) : Type 0 where
  pub five_bytes : length t.five ≡ 5
  pub more : r.known < t.known
  pub at_most : t.known ≤ 32

pub goes_on_law : (l m : Level) (r : Reader) (h : List ℕ) → r.phase ≡ AnticollisionSent l → length r.five ≡ 5 → (hear r h).reader.phase ≡ AnticollisionSent m
    → More r (hear r h).reader
unfolding rest_of sends
goes_on_law l m r h e n q = go (read_rest r.known r.five h).says refl
  where
    then : (s : RestSays) → (read_rest r.known r.five h).says ≡ s → hear r h ≡ after_rest l r (read_rest r.known r.five h) s
    then s f = hear_at r h (AnticollisionSent l) e ∙ rest_at l r h (read_rest r.known r.five h) s refl f

    not_select : SelectSent l ≡ AnticollisionSent m → ⊥
    not_select z = let y : ◌≡◌ {A = ℕ} 0 1 = cc in omega arith

    not_stopped : Stopped ≡ AnticollisionSent m → ⊥
    not_stopped z = let y : ◌≡◌ {A = ℕ} 0 1 = cc in omega arith

    go : (s : RestSays) → (read_rest r.known r.five h).says ≡ s → More r (hear r h).reader
    go Whole f = absurd (not_select (rw (then Whole f) at q))
    go Collided f =
        let g = grows r.known r.five h n f in
        rw (then Collided f) (record {
          five_bytes = rw (clashed r.known r.five h f).is (length_bytes 5 (next (level_bits r.known r.five h)));
          more = g.0;
          at_most = g.1;
        })
    go (NotRest c) f = absurd (not_stopped (rw (then (NotRest c) f) at q))

-- the reader r sends ANTICOLLISION of level l and answers each of the rows hs with another
abbrev pub Anticollides : Level → Reader → List (List ℕ) → Type 0
Anticollides l r [] = r.phase ≡ AnticollisionSent l
Anticollides l r (h ∷ hs) = (r.phase ≡ AnticollisionSent l) × Anticollides l (hear r h).reader hs

sends_it : (l : Level) (r : Reader) (hs : List (List ℕ)) → Anticollides l r hs → r.phase ≡ AnticollisionSent l
sends_it l r [] a = a
sends_it l r (h ∷ hs) a = a.0

pub ends : (l : Level) (r : Reader) (hs : List (List ℕ)) → length r.five ≡ 5 → r.known ≤ 32 → Anticollides l r hs → r.known + length hs ≤ 32
ends l r [] n k a = omega arith
ends l r (h ∷ hs) n k a =
    let t : More r (hear r h).reader = goes_on_law l l r h a.0 n (sends_it l (hear r h).reader hs a.1) in
    omega (arith, t.more, ends l (hear r h).reader hs t.five_bytes t.at_most a.1)

-- "33 rows that part at every bit of a level need 33 ANTICOLLISION frames", and no level needs more: the first with k = 0 and at most 32
-- others; then SELECT comes or the reader has stopped
pub at_most_33 : (l : Level) (s : Bool) (u : Uid) (hs : List (List ℕ)) → Anticollides l (reader (AnticollisionSent l) s (replicate 5 0) 0 u 0) hs → 1 + length hs ≤ 33
at_most_33 l s u hs a = omega (arith, ends l (reader (AnticollisionSent l) s (replicate 5 0) 0 u 0) hs refl (omega arith) a)

-- ---- what is not looked at

-- "In ATQA collided bits count as 1, the length bits are not used": merged length bits that read 11 are good, collided (44 00 and 84 00
-- together) or not
pub atqa_11 : (read_atqa (0 ∷ 0 ∷ 1 ∷ 0 ∷ 0 ∷ 0 ∷ 2 ∷ 2 ∷ 1 ∷ standard (0x00 ∷ [])) ≡ (Ok tt)) × (read_atqa (standard (0xC4 ∷ 0x00 ∷ [])) ≡ (Ok tt))
unfolding read_atqa standard air_byte bits_of odd ones first_wrong faulty clean is_nil same
atqa_11 = (refl, refl)

-- .. only b1 to b5 are tested
pub atqa_any : (h : List ℕ) → length h ≡ 18 → faulty 2 h ≡ false → same (take 5 h) (replicate 5 0) ≡ false → read_atqa h ≡ (Ok tt)
unfolding read_atqa
atqa_any h n f s = rw (nil_no h (λ z. omega arith), n, f, s)

set_behind : (a h : List ℕ) (i v : ℕ) → a ++ set h i v ≡ set (a ++ h) (length a + i) v
set_behind [] h i v = let e : 0 + i ≡ i = omega arith in rw e
set_behind (x ∷ a) h i v = let e : suc (length a) + i ≡ suc (length a + i) = omega arith in rw e (ap (λ r. x ∷ r) (set_behind a h i v))

-- a parity bit is no data bit: "Parity bits are no positions"
data_parity : (n q : ℕ) (w : List ℕ) (v : ℕ) → data_of n (set w (9 * q + 8) v) ≡ data_of n w
unfolding data_of
data_parity zero q w v = refl
data_parity (suc n) zero w v = rw (take-set-le 8 w 8 v (omega arith), drop-set-lt 9 w 8 v (omega arith))
data_parity (suc n) (suc q) w v =
    let e : 9 * suc q + 8 ≡ 9 + (9 * q + 8) = omega arith in
    rw (e, take-set-le 8 w (9 + (9 * q + 8)) v (omega arith), drop-set-add 9 w (9 * q + 8) v, data_parity n q (drop 9 w) v)

says_broken : (k : ℕ) (w : List ℕ) (v : ℕ) → (k % 8 ≡ 0 → ⊥) → level_says k (set w (9 * (k / 8) + 8) v) ≡ level_says k w
unfolding level_says rest_place
says_broken k w v b = rw (data_parity 5 (k / 8) w v, drop-set-lt (9 * ((k + 7) / 8)) w (9 * (k / 8) + 8) v (omega arith))

-- "In the answer the byte's remainder is followed by odd parity over the whole byte (house rule), which the reader ignores": whatever stands
-- there, also a collision
pub broken_parity : (k : ℕ) (five h : List ℕ) (v : ℕ) → length five ≡ 5 → (k % 8 ≡ 0 → ⊥) → read_rest k five (set h (8 - k % 8) v) ≡ read_rest k five h
broken_parity k five h v n b = go (eqb (length h) 0) refl (eqb (cut k + length h) 45) refl
  where
    size : length (set h (8 - k % 8) v) ≡ length h
    size = length-set h (8 - k % 8) v

    go : (a : Bool) → eqb (length h) 0 ≡ a → (c : Bool) → eqb (cut k + length h) 45 ≡ c → read_rest k five (set h (8 - k % 8) v) ≡ read_rest k five h
    go true e c f =
        let z : length h ≡ 0 = eqb-true (length h) 0 e in
        rest_silent k five (set h (8 - k % 8) v) (size ∙ z) ∙ sym (rest_silent k five h z)
    go false e false f =
        let z : length h ≡ 0 → ⊥ = eqb-false (length h) 0 e in
        let y : cut k + length h ≡ 45 → ⊥ = eqb-false (cut k + length h) 45 f in
        rest_length k five (set h (8 - k % 8) v) (λ x. z (sym size ∙ x)) (λ x. y (ap (λ (m : ℕ). cut k + m) (sym size) ∙ x)) ∙ sym (rest_length k five h z y)
    go false e true f =
        let z : length h ≡ 0 → ⊥ = eqb-false (length h) 0 e in
        let y : cut k + length h ≡ 45 = eqb-true (cut k + length h) 45 f in
        let s : length (take (cut k) (standard five)) ≡ cut k = rw (length-take, length_standard, n) (omega arith) in
        let i : cut k + (8 - k % 8) ≡ 9 * (k / 8) + 8 = omega arith in
        rest_level k five (set h (8 - k % 8) v) (λ x. z (sym size ∙ x)) (ap (λ (m : ℕ). cut k + m) size ∙ y)
        ∙ ap (level_says k) (set_behind (take (cut k) (standard five)) h (8 - k % 8) v ∙ rw (s, i)) ∙ says_broken k (level_row k five h) v b
        ∙ sym (rest_level k five h z y)
