-- What a level's 45 bits say, and how the answer to ANTICOLLISION is read by it. Assumes nothing.
use Rattle.std.specs.Prelude.{◌≡◌, refl, Bool, cond, not, Result, ◌&&◌, List, [], ◌∷◌, ◌++◌, ℕ, zero, suc, ◌+◌, ◌-◌, ◌*◌, ◌/◌, ◌≤◌, ◌<◌, take, drop, get_or, replicate, eqb, ltb, Ok, Err}
use Rattle.std.proofs.Common.{sym, ◌∙◌, append-nil, arith, length-append, length-take, drop_of_length-le}
use Rattle.std.proofs.Math.Bool.{true, false}
use Rattle.std.proofs.Math.ListN.{length}
use borrow.Author.Tests.{eq-eqb, eqb-true, ne_eqb, lt-ltb, le-ltb, ltb-true, ltb-false}
use Rattle.rows.specs.Rows.{overlay, is_nil, clean, next, same, fill, Bits}
use Rattle.frame.specs.Frame.{standard, data_of, bytes_of, faulty}
use Rattle.uid.specs.Uid.{level, check}
use Rattle.selection.specs.Selection.{cut}
use Rattle.selection.specs.Heard.{awaited, not_rest, rest_place, rest_of, read_rest, read_sak}
use Rattle.crc.specs.Crc.{crc_good, with_crc}
use Rattle.rows.proofs.RowLaws.{overlay_all}
use Rattle.frame.proofs.WrongLaws.{found_wrong, found_none}
use Rattle.frame.specs.ByteLaws.{length_bytes}
use Rattle.selection.specs.Level.{first_collided, level_says}
use Rattle.selection.specs.LevelLaws.{first_clean, first_clash, first_head, length_data}
use Rattle.selection.specs.PadLaws.{bytes_fill}
use Rattle.rows.specs.ListLaws.{all_append}
use Rattle.rows.specs.HeardLaws.{clean_bits}
use Rattle.rows.specs.CleanLaws.{bits_clean}
use Rattle.refusal.specs.declared.Refusal.TheVariants.{Length, Parity, Crc, Check, Silence, Collision}
use Rattle.refusal.specs.declared.Refusal.{Refusal}
use Rattle.selection.specs.declared.Rest.{Rest}
use Rattle.selection.specs.declared.RestSays.TheVariants.{Whole, Collided}

pub nil_yes : (h : List ℕ) → length h ≡ 0 → is_nil h ≡ true
unfolding is_nil
nil_yes [] e = refl
nil_yes (x ∷ h) e = absurd (omega arith)

pub nil_no : (h : List ℕ) → (length h ≡ 0 → ⊥) → is_nil h ≡ false
unfolding is_nil
nil_no [] n = absurd (n refl)
nil_no (x ∷ h) n = refl

-- a row that is awaited, and one that is not: the first two tests of what reads it
pub awaited_yes : (n : ℕ) (h : List ℕ) (u : Unit) → awaited n h ≡ Ok u → (is_nil h ≡ false) × (length h ≡ n)
awaited_yes n h u = go (is_nil h) (eqb (length h) n) refl refl
  where
    go : (a b : Bool) → is_nil h ≡ a → eqb (length h) n ≡ b → cond a (Err Silence) (cond (not b) (Err Length) (Ok tt)) ≡ Ok u → (is_nil h ≡ false) × (length h ≡ n)
    go true b p q e = cc
    go false true p q e = (p, eqb-true (length h) n q)
    go false false p q e = cc

pub awaited_no : {T : Type 0} (n : ℕ) (h : List ℕ) (e : Refusal) (r : Result T Refusal) → awaited n h ≡ Err e
    → cond (is_nil h) (Err Silence) (cond (not (eqb (length h) n)) (Err Length) r) ≡ Err e
awaited_no {T} n h e r = go (is_nil h) (eqb (length h) n)
  where
    go : (a b : Bool) → ◌≡◌ {A = Result Unit Refusal} (cond a (Err Silence) (cond (not b) (Err Length) (Ok tt))) (Err e)
        → ◌≡◌ {A = Result T Refusal} (cond a (Err Silence) (cond (not b) (Err Length) r)) (Err e)
    go true b k = let z : Silence ≡ e = cc in rw z
    go false true k = absurd (let z : ◌≡◌ {A = ℕ} 0 1 = cc in omega arith)
    go false false k = let z : Length ≡ e = cc in rw z

pub rest_silent : (k : ℕ) (five h : List ℕ) → length h ≡ 0 → read_rest k five h ≡ not_rest Silence
unfolding read_rest
rest_silent k five h e = rw (nil_yes h e)

module _ (k : ℕ) (five h : List ℕ) (some : length h ≡ 0 → ⊥) where
  pub rest_length : (cut k + length h ≡ 45 → ⊥) → read_rest k five h ≡ not_rest Length
  unfolding read_rest
  rest_length n = rw (nil_no h some, ne_eqb (cut k + length h) 45 n)

  pub rest_level : cut k + length h ≡ 45 → read_rest k five h ≡ level_says k (take (cut k) (standard five) ++ h)
  unfolding read_rest level_says
  rest_level e = rw (nil_no h some, eq-eqb (cut k + length h) 45 e)

-- the level's row as it is put together: what was heard is written over the level's row behind what was sent
pub level_row_law : (s h : List ℕ) (n : ℕ) → length s ≡ 45 → n + length h ≡ 45 → overlay s n h ≡ take n s ++ h
unfolding overlay
level_row_law s h n e f = rw (drop_of_length-le s {i = n + length h} (omega arith), append-nil)

-- ---- where the parity broke

module _ (k p : ℕ) (w : List ℕ) (h : k < 40) (e : p ≡ rest_place k w) where
  -- byte i is the first that is whole in the answer
  place_wrong : p < 5 → faulty (5 - (k + 7) / 8) (drop (9 * ((k + 7) / 8)) w) ≡ true
  unfolding rest_place
  place_wrong l = found_wrong (5 - (k + 7) / 8) (p - (k + 7) / 8) (drop (9 * ((k + 7) / 8)) w) (omega (arith, e)) (omega (arith, e))

  pub place_right : 5 ≤ p → faulty (5 - (k + 7) / 8) (drop (9 * ((k + 7) / 8)) w) ≡ false
  unfolding rest_place
  place_right l = found_none (5 - (k + 7) / 8) (p - (k + 7) / 8) (drop (9 * ((k + 7) / 8)) w) (omega (arith, e)) (omega (arith, e))

-- ---- the tests, by the first collided bit

module _ (k : ℕ) (w d : List ℕ) (full : length w ≡ 45) (is : d ≡ data_of 5 w) where
  forty : length d ≡ 40
  forty = rw is (length_data 5 w (omega arith))

  clash : first_collided d < 40 → (clean d ≡ false) × (next d ≡ take (first_collided d) d ++ 1 ∷ [])
  clash l = first_clash d (omega (arith, forty))

  pub length_clash : first_collided d < 40 → length (next d) ≡ first_collided d + 1
  length_clash l = rw ((clash l).1, length-append, length-take) (omega (arith, forty))

  pub says_collision : first_collided d < 40 → 32 ≤ first_collided d → level_says k w ≡ not_rest Collision
  unfolding level_says
  says_collision l m = rw (← is, (clash l).0, lt-ltb 32 (length (next d)) (omega (arith, length_clash l)))

  -- no collision where it is refused
  pub early : (first_collided d < 40 → 32 ≤ first_collided d → ⊥) → (not (clean d) && ltb 32 (length (next d))) ≡ false
  early n = go (ltb (first_collided d) 40) refl
    where
      go : (b : Bool) → ltb (first_collided d) 40 ≡ b → (not (clean d) && ltb 32 (length (next d))) ≡ false
      go true e =
          let l : first_collided d < 40 = ltb-true (first_collided d) 40 e in
          rw ((clash l).0, le-ltb 32 (length (next d)) (omega (arith, length_clash l, n l)))
      go false e = rw (first_clean d (omega (arith, forty, ltb-false (first_collided d) 40 e))).0

  module _ (n : first_collided d < 40 → 32 ≤ first_collided d → ⊥) where
    pub says_parity : (p : ℕ) → k < 40 → p ≡ rest_place k w → p < 5 → level_says k w ≡ not_rest (Parity p)
    unfolding level_says
    says_parity p h e l = rw (← is, early n, place_wrong k p w h e l, ← e)

    module _ (f : faulty (5 - (k + 7) / 8) (drop (9 * ((k + 7) / 8)) w) ≡ false) where
      pub says_collided : first_collided d < 40 → level_says k w ≡ rest_of Collided (next d)
      unfolding level_says
      says_collided l = rw (← is, early n, f, (clash l).0)

      pub says_check : 40 ≤ first_collided d → same (bytes_of 5 d) (level (take 4 (bytes_of 5 d))) ≡ false → level_says k w ≡ not_rest Check
      unfolding level_says
      says_check l q =
          let c : (clean d ≡ true) × (next d ≡ d) = first_clean d (omega (arith, forty)) in
          rw (← is, early n, f, c.0, q)

      pub says_whole : 40 ≤ first_collided d → same (bytes_of 5 d) (level (take 4 (bytes_of 5 d))) ≡ true → level_says k w ≡ rest_of Whole d
      unfolding level_says
      says_whole l q =
          let c : (clean d ≡ true) × (next d ≡ d) = first_clean d (omega (arith, forty)) in
          rw (← is, early n, f, c.0, q, c.1)

-- ---- what is handed back

-- after a collision: the bits before it and then a 1, as bytes with zeros behind
pub made_collided : (d five : List ℕ) → length d ≡ 40 → first_collided d < 40 → five ≡ bytes_of 5 (fill 40 (next d))
    → ◌≡◌ {A = Rest} (record { says = Collided; five = five; known = first_collided d + 1 }) (rest_of Collided (next d))
unfolding rest_of
made_collided d five n l e =
    let k : length (next d) ≡ first_collided d + 1 = rw ((first_clash d (omega arith)).1, length-append, length-take) (omega arith) in
    rw (e, bytes_fill 5 40 (next d), k)

-- the bits known, zeros behind, are clean
pub known_clean : (d : List ℕ) → length d ≡ 40 → first_collided d < 40 → clean (fill 40 (next d)) ≡ true
unfolding fill
known_clean d n l =
    bits_clean _ (all_append (λ x. x < 2) (next d) _
    (rw (first_clash d (omega arith)).1 (all_append (λ x. x < 2) (take (first_collided d) d) (1 ∷ []) (clean_bits _ (first_head d)) (omega arith, tt)))
    (zeros (40 - length (next d))))
  where
    zeros : (k : ℕ) → Bits (replicate k 0)
    zeros zero = tt
    zeros (suc k) = (omega arith, zeros k)

pub made_whole : (d five : List ℕ) → length d ≡ 40 → five ≡ bytes_of 5 d → ◌≡◌ {A = Rest} (record { says = Whole; five = five; known = 40 }) (rest_of Whole d)
unfolding rest_of
made_whole d five n e = rw (e, n)

-- ---- B

-- five bytes are a level's where the last is the B of the others
pub checked : (five : List ℕ) (b : ℕ) → length five ≡ 5 → b ≡ check (get_or five 0 0 ∷ get_or five 1 0 ∷ get_or five 2 0 ∷ get_or five 3 0 ∷ [])
    → eqb (get_or five 4 0) b ≡ same five (level (take 4 five))
unfolding level same
checked [] b h e = absurd (omega arith)
checked (x ∷ []) b h e = absurd (omega arith)
checked (x ∷ y ∷ []) b h e = absurd (omega arith)
checked (x ∷ y ∷ z ∷ []) b h e = absurd (omega arith)
checked (x ∷ y ∷ z ∷ t ∷ []) b h e = absurd (omega arith)
checked (x ∷ y ∷ z ∷ t ∷ u ∷ []) b h e =
    rw (e, eq-eqb x x refl, eq-eqb y y refl, eq-eqb z z refl, eq-eqb t t refl) (sym (and_true (eqb u (check (x ∷ y ∷ z ∷ t ∷ [])))))
  where
    and_true : (a : Bool) → (a && true) ≡ a
    and_true true = refl
    and_true false = refl
checked (x ∷ y ∷ z ∷ t ∷ u ∷ v ∷ l) b h e = absurd (omega arith)

-- ---- SAK

module _ (h bytes : List ℕ) (n : length h ≡ 27) (clear : clean h ≡ true) (sound : faulty 3 h ≡ false)
    (is : bytes ≡ overlay (replicate 3 0) 0 (bytes_of 3 (data_of 3 h))) where
  three : bytes ≡ bytes_of 3 (data_of 3 h)
  three = is ∙ overlay_all (replicate 3 0) (bytes_of 3 (data_of 3 h)) (sym (length_bytes 3 (data_of 3 h)))

  one_of_three : length bytes - 2 ≡ 1
  one_of_three = rw (three, length_bytes 3 (data_of 3 h))

  crc_is : (b : Bool) → crc_good bytes ≡ b → same (bytes_of 3 (data_of 3 h)) (with_crc (take 1 (bytes_of 3 (data_of 3 h)))) ≡ b
  unfolding crc_good
  crc_is b e = rw (← three) (rw one_of_three at e)

  some : length h ≡ 0 → ⊥
  some e = omega arith

  pub sak_crc : crc_good bytes ≡ false → read_sak h ≡ Err Crc
  unfolding read_sak
  sak_crc e = rw (nil_no h some, eq-eqb (length h) 27 n, clear, sound, crc_is false e)

  pub sak_good : crc_good bytes ≡ true → read_sak h ≡ Ok (get_or bytes 0 0)
  unfolding read_sak
  sak_good e = rw (nil_no h some, eq-eqb (length h) 27 n, clear, sound, crc_is true e, three)
