-- Which number of document 01's table is given when: "A received frame is tested 7, 2, 8, 3, 4 or 5, 9, 10", the first test that applies wins.
-- Assumes nothing.
use Rattle.std.specs.Prelude.{◌≡◌, refl, Bool, true, false, cond, not, ◌&&◌, List, [], ◌∷◌, ℕ, ◌+◌, ◌-◌, ◌*◌, ◌/◌, ◌%◌, ◌≤◌, ◌<◌, length, take, drop, replicate, eqb, ltb, Ok, Err}
use Rattle.std.proofs.Common.{ap, arith}
use Rattle.std.proofs.Math.Bool.{and-false}
use borrow.Author.Tests.{eq-eqb, ne_eqb, lt-ltb, le-ltb, lt-leb}
use Rattle.rows.specs.Rows.{is_nil, clean, next, same}
use Rattle.crc.specs.Crc.{with_crc}
use Rattle.frame.specs.Frame.{data_of, bytes_of, first_wrong, faulty, Verdict, Good, Fault}
use Rattle.frame.specs.Calls.{verdict_says}
use Rattle.refusal.specs.Refusal.{Said, declining_at, declining, made_says, number_says}
use Rattle.uid.specs.Uid.{level}
use Rattle.selection.specs.Selection.{at_most8}
use Rattle.selection.specs.Heard.{read_atqa, read_sak, rest_place, read_rest, announced, ats_fits, ats_bytes, ats_of, read_ats}
use Rattle.selection.specs.Level.{level_says}
use Rattle.selection.specs.Says.{rest_says}
use Rattle.selection.specs.RestLaws.{nil_no}
use Rattle.selection.specs.SizeLaws.{index_most}
use Rattle.refusal.specs.declared.Refusal.TheVariants.{Forbidden}

-- what is equal says the same
pub with_says : {A : Type 0} (f : A → Said) (r d : A) → r ≡ d → (r ≡ d) × (f r ≡ f d)
with_says f r d e = (e, ap f e)

-- ---- silence: 7

pub silent_atqa : made_says (read_atqa []) ≡ declining 7
unfolding read_atqa is_nil
silent_atqa = refl

pub silent_rest : (k : ℕ) (five : List ℕ) → rest_says (read_rest k five []) ≡ declining 7
unfolding read_rest is_nil
silent_rest k five = refl

pub silent_sak : number_says (read_sak []) ≡ declining 7
unfolding read_sak is_nil
silent_sak = refl

pub silent_ats : (own : ℕ) → number_says (read_ats own []) ≡ declining 7
unfolding read_ats is_nil
silent_ats own = refl

-- ---- ATQA: 2, 3, 9

module _ (h : List ℕ) (some : length h ≡ 0 → ⊥) where
  pub atqa_length : (length h ≡ 18 → ⊥) → made_says (read_atqa h) ≡ declining 2
  unfolding read_atqa
  atqa_length n = rw (nil_no h some, ne_eqb (length h) 18 n)

  pub sak_length : (length h ≡ 27 → ⊥) → number_says (read_sak h) ≡ declining 2
  unfolding read_sak
  sak_length n = rw (nil_no h some, ne_eqb (length h) 27 n)

module _ (h : List ℕ) (is : length h ≡ 18) where
  some_18 : length h ≡ 0 → ⊥
  some_18 e = omega arith

  pub atqa_parity : faulty 2 h ≡ true → made_says (read_atqa h) ≡ declining_at 3 (first_wrong 2 h)
  unfolding read_atqa
  atqa_parity f = rw (nil_no h some_18, eq-eqb (length h) 18 is, f)

  pub atqa_forbidden : faulty 2 h ≡ false → same (take 5 h) (replicate 5 0) ≡ true → made_says (read_atqa h) ≡ declining 9
  unfolding read_atqa
  atqa_forbidden f s = rw (nil_no h some_18, eq-eqb (length h) 18 is, f, s)

-- ---- SAK: 8, 3, 4

module _ (h : List ℕ) (is : length h ≡ 27) where
  some_27 : length h ≡ 0 → ⊥
  some_27 e = omega arith

  pub sak_collided : clean h ≡ false → number_says (read_sak h) ≡ declining 8
  unfolding read_sak
  sak_collided c = rw (nil_no h some_27, eq-eqb (length h) 27 is, c)

  pub sak_parity : clean h ≡ true → faulty 3 h ≡ true → number_says (read_sak h) ≡ declining_at 3 (first_wrong 3 h)
  unfolding read_sak
  sak_parity c f = rw (nil_no h some_27, eq-eqb (length h) 27 is, c, f)

  pub sak_wrong : clean h ≡ true → faulty 3 h ≡ false → same (bytes_of 3 (data_of 3 h)) (with_crc (take 1 (bytes_of 3 (data_of 3 h)))) ≡ false
      → number_says (read_sak h) ≡ declining 4
  unfolding read_sak
  sak_wrong c f s = rw (nil_no h some_27, eq-eqb (length h) 27 is, c, f, s)

-- ---- the answer to ANTICOLLISION: 8, 3, 5

module _ (k : ℕ) (w : List ℕ) where
  pub level_collided : clean (data_of 5 w) ≡ false → 32 < length (next (data_of 5 w)) → rest_says (level_says k w) ≡ declining 8
  unfolding level_says
  level_collided c l = rw (c, lt-ltb 32 (length (next (data_of 5 w))) l)

  module _ (early : (not (clean (data_of 5 w)) && ltb 32 (length (next (data_of 5 w)))) ≡ false) where
    pub level_parity : faulty (5 - (k + 7) / 8) (drop (9 * ((k + 7) / 8)) w) ≡ true → rest_says (level_says k w) ≡ declining_at 3 (rest_place k w)
    unfolding level_says
    level_parity f = rw (early, f)

    pub level_check : faulty (5 - (k + 7) / 8) (drop (9 * ((k + 7) / 8)) w) ≡ false → clean (data_of 5 w) ≡ true
        → same (bytes_of 5 (data_of 5 w)) (level (take 4 (bytes_of 5 (data_of 5 w)))) ≡ false → rest_says (level_says k w) ≡ declining 5
    unfolding level_says
    level_check f c s = rw (early, f, c, s)

-- ---- ATS: 2, 8, 3, 4 as the frame's reader gives them, then 9

pub ats_verdict : (n place : ℕ) (v : Verdict) → 0 < n → verdict_says v ≡ declining_at n place → number_says (ats_of v) ≡ declining_at n place
ats_verdict n place v h e = go v e
  where
    go : (v : Verdict) → verdict_says v ≡ declining_at n place → number_says (ats_of v) ≡ declining_at n place
    go (Good l) e = absurd (omega (arith, h, ap (λ s. s.number) e))
    go (Fault x) e = e

-- "T0 b5, b6, b7 announce TA, TB, TC": each of them is counted, and where there are fewer bytes it is 9
pub ats_missing : (tl t0 : ℕ) (t : List ℕ) → length t < t0 / 16 % 2 + t0 / 32 % 2 + t0 / 64 % 2 → number_says (ats_bytes (tl ∷ t0 ∷ t)) ≡ declining 9
unfolding ats_fits announced
ats_missing tl t0 t h = rw (lt-leb (t0 / 16 % 2 + t0 / 32 % 2 + t0 / 64 % 2) (length t) h, and-false)

-- .. T0 b8 set
pub ats_high : (tl t0 : ℕ) (t : List ℕ) → 128 ≤ t0 → number_says (ats_bytes (tl ∷ t0 ∷ t)) ≡ declining 9
unfolding ats_fits
ats_high tl t0 t h = rw (le-ltb t0 0x80 h, and-false)

-- .. TL that does not fit the frame
pub ats_tl : (tl t0 : ℕ) (t : List ℕ) → (tl ≡ 2 + length t → ⊥) → number_says (ats_bytes (tl ∷ t0 ∷ t)) ≡ declining 9
unfolding ats_fits
ats_tl tl t0 t n = rw (ne_eqb tl (2 + length t) n)

-- "9 to 15 read as 8": no ATS gives an index that has no size of its own
pub ats_index : (l : List ℕ) (i : ℕ) → ats_bytes l ≡ Ok i → i ≤ 8
ats_index [] i e = absurd (let z : ◌≡◌ {A = ℕ} 0 1 = cc in omega arith)
ats_index (tl ∷ []) i e = one (eqb tl 1) e
  where
    one : (b : Bool) → cond b (Ok 2) (Err Forbidden) ≡ Ok i → i ≤ 8
    one true e = let z : ◌≡◌ {A = ℕ} 2 i = cc in omega arith
    one false e = absurd (let z : ◌≡◌ {A = ℕ} 0 1 = cc in omega arith)
ats_index (tl ∷ t0 ∷ t) i e = two (ats_fits tl t0 t) e
  where
    two : (b : Bool) → cond b (Ok (at_most8 (t0 % 16))) (Err Forbidden) ≡ Ok i → i ≤ 8
    two true e = let z : at_most8 (t0 % 16) ≡ i = cc in rw (← z) (index_most (t0 % 16))
    two false e = absurd (let z : ◌≡◌ {A = ℕ} 0 1 = cc in omega arith)
