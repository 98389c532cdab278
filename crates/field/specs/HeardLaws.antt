-- What the reader reads where cards answer together, to REQA and to ANTICOLLISION: no test applies. Assumes nothing.
use Rattle.std.specs.Prelude.{◌≡◌, true, false, cond, not, ◌&&◌, take, ltb, Ok}
use Rattle.std.proofs.Math.Path.{refl, sym, ap, ap₂}
use Rattle.std.proofs.Common.{◌∙◌, length-append, length-drop}
use Prim.Native.Nat.{ℕ, ◌+◌, ◌-◌, ◌/◌, ◌≤◌}
use mathlib.Core.List.{List, [], ◌∷◌, ◌++◌, map, map-map}
use Rattle.std.proofs.Math.ListN.{length, drop, length-map, length-take, take-append-drop}
use borrow.Author.Tests.{le-ltb}
use native.Mathlib.Omega.{arith}
use Rattle.rows.specs.CleanLaws.{next_clean, not_nil, clean_append, next_append}
use Rattle.rows.specs.EachLaws.{all_map, all_weaken}
use Rattle.rows.specs.ListLaws.{map_all, all_of}
use Rattle.rows.specs.Rows.{All, clean, next, Bits, same}
use Rattle.parity.specs.Bits.{bits_of}
use Rattle.frame.specs.ByteLaws.{length_air_bits}
use Rattle.frame.specs.Frame.{air_bits, standard, data_of, bytes_of, faulty, air_byte}
use Rattle.frame.proofs.FrameLaws.{length_standard}
use Rattle.frame.proofs.ParityLaws.{faulty_drop}
use Rattle.uid.specs.CheckLaws.{check_holds, check_of}
use Rattle.uid.specs.Uid.{level}
use Rattle.selection.specs.Heard.{read_atqa, read_rest, rest_of, not_rest}
use Rattle.selection.specs.SealLaws.{seal, standard_seal, take_seal, length_seal}
use Rattle.selection.specs.Selection.{cut, atqa, atqa_byte}
use Rattle.selection.specs.SelectionLaws.{sent_known}
use Rattle.field.specs.Merge.{merge}
use Rattle.field.specs.MergeLaws.{merge_append, length_merge, merge_same}
use Rattle.field.specs.TogetherLaws.{data_seal, faulty_seal}
use Rattle.refusal.specs.declared.Refusal.TheVariants.{Collision, Check}
use Rattle.uid.specs.declared.UidSize.{UidSize}
use Rattle.uid.specs.declared.UidSize.TheVariants.{Single, Double, Triple}
use Rattle.selection.specs.declared.RestSays.TheVariants.{Whole, Collided}

-- ---- ATQA

abbrev atqa_bytes : UidSize → List ℕ
atqa_bytes z = atqa_byte z ∷ 0x00 ∷ []

atqa_seal : (z : UidSize) → atqa z ≡ seal 2 (air_bits (atqa_bytes z))
unfolding atqa
atqa_seal z = standard_seal (atqa_bytes z)

atqa_front : (z : UidSize) → take 5 (atqa z) ≡ 0 ∷ 0 ∷ 1 ∷ 0 ∷ 0 ∷ []
unfolding atqa standard air_byte bits_of
atqa_front Single = refl
atqa_front Double = refl
atqa_front Triple = refl

-- cards of the sizes zs answer together
module _ (zs : List UidSize) (some : 1 ≤ length zs) where
  pub length_atqas : length (merge (map atqa zs)) ≡ 18
  unfolding atqa
  length_atqas = length_merge atqa 18 zs some (all_of (λ z. length_standard (atqa_bytes z)) zs)

  front : take 5 (merge (map atqa zs)) ≡ 0 ∷ 0 ∷ 1 ∷ 0 ∷ 0 ∷ []
  front =
      let x : List ℕ = 0 ∷ 0 ∷ 1 ∷ 0 ∷ 0 ∷ [] in
      let fronts : All (λ z. take 5 (atqa z) ≡ x) zs = all_of atqa_front zs in
      let e : merge (map atqa zs) ≡ merge (map (λ z. take 5 (atqa z)) zs) ++ merge (map (λ z. drop 5 (atqa z)) zs) =
      ap merge (map_all atqa (λ z. take 5 (atqa z) ++ drop 5 (atqa z)) zs (all_of (λ z. sym (take-append-drop 5 (atqa z))) zs))
      ∙ merge_append (λ z. take 5 (atqa z)) 5 (λ z. drop 5 (atqa z)) zs some (all_weaken {F = λ z. take 5 (atqa z) ≡ x} zs (λ z h. ap length h) fronts) in
      rw (e, merge_same (λ z. take 5 (atqa z)) 5 x zs some fronts)

  sound_atqas : faulty 2 (merge (map atqa zs)) ≡ false
  sound_atqas =
      let D : UidSize → List ℕ = λ z. air_bits (atqa_bytes z) in
      ap (λ l. faulty 2 (merge l)) (map_all atqa (λ z. seal 2 (D z)) zs (all_of atqa_seal zs) ∙ sym (map-map (seal 2) D zs))
      ∙ faulty_seal 2 (map D zs) (rw length-map some) (all_map {F = λ z. Unit {0}} (λ d. length d ≡ 16) D zs (λ z h. length_air_bits (atqa_bytes z)) (all_of (λ z. tt) zs))

  pub reads_atqa : read_atqa (merge (map atqa zs)) ≡ (Ok tt)
  unfolding read_atqa same
  reads_atqa = rw (not_nil (merge (map atqa zs)) (omega (arith, length_atqas)), length_atqas, sound_atqas, front)

-- ---- the answer to ANTICOLLISION

-- T has what each card that is in has left; K was sent, n bits are open
module _ (K : List ℕ) (n : ℕ) (T : List (List ℕ)) (b_k : Bits K) (hn : 40 ≡ length K + n) (h1 : 1 ≤ n)
    (some : 1 ≤ length T) (long : All (λ t. n ≤ length t) T) where
  -- the level of each
  full : List ℕ → List ℕ
  full t = K ++ take n t

  h : List ℕ
  h = merge (map (λ t. drop (cut (length K)) (seal 5 (K ++ take n t))) T)

  D : List (List ℕ)
  D = map full T

  length_full : All (λ d. length d ≡ 40) D
  unfolding D full
  length_full = all_map {F = λ t. n ≤ length t} (λ d. length d ≡ 40) full T (λ t k. rw (length-append, length-take) (omega arith)) long

  some_full : 1 ≤ length D
  unfolding D
  some_full = rw length-map some

  -- the level's row as it was sent and heard is what the cards' whole levels give together
  row_is : take (cut (length K)) (standard (bytes_of 5 K)) ++ h ≡ merge (map (seal 5) D)
  unfolding h D full
  row_is =
      let k : ℕ = cut (length K) in
      let S : List ℕ = seal 5 K in
      ap₂ ◌++◌ (sent_known K b_k (omega arith) ∙ sym (merge_same (λ t. S) (length S) S T some (all_of (λ t. refl) T))) refl
      ∙ sym (merge_append (λ t. S) (length S) (λ t. drop k (seal 5 (full t))) T some (all_of (λ t. refl) T))
      ∙ ap merge (map_all (λ t. S ++ drop k (seal 5 (full t))) (λ t. seal 5 (full t)) T
      (all_weaken {F = λ t. n ≤ length t} T (λ t m. ap (λ r. r ++ drop k (seal 5 (full t))) (sym (take_seal 5 K (take n t) (rw length-take (omega arith)))) ∙ take-append-drop k (seal 5 (full t))) long)
      ∙ sym (map-map (seal 5) full T))

  pub length_answer : length (merge (map (λ t. drop (cut (length K)) (seal 5 (K ++ take n t))) T)) ≡ 45 - cut (length K)
  length_answer = length_merge (λ t. drop (cut (length K)) (seal 5 (K ++ take n t))) (45 - cut (length K)) T some
      (all_weaken {F = λ t. n ≤ length t} T (λ t k. rw (length-drop, length_seal 5 (K ++ take n t) (rw (length-append, length-take) (omega arith)))) long)

  data_is : data_of 5 (merge (map (seal 5) D)) ≡ K ++ merge (map (take n) T)
  unfolding D full
  data_is =
      data_seal 5 D some_full length_full ∙ merge_append (λ t. K) (length K) (take n) T some (all_of (λ t. refl) T)
      ∙ ap (λ r. r ++ merge (map (take n) T)) (merge_same (λ t. K) (length K) K T some (all_of (λ t. refl) T))

  faulty_none : faulty 5 (merge (map (seal 5) D)) ≡ false
  faulty_none = faulty_seal 5 D some_full length_full

  -- all tests but those on collided bits and the check byte
  passes : read_rest (length K) (bytes_of 5 K) h
      ≡ cond (not (clean (merge (map (take n) T))) && ltb 32 (length (K ++ next (merge (map (take n) T))))) (not_rest Collision)
      (cond (clean (merge (map (take n) T)) && not (same (bytes_of 5 (K ++ merge (map (take n) T))) (level (take 4 (bytes_of 5 (K ++ merge (map (take n) T))))))) (not_rest Check)
      (rest_of (cond (clean (merge (map (take n) T))) Whole Collided) (K ++ next (merge (map (take n) T)))))
  unfolding read_rest h
  passes =
      let e₁ : cut (length K) + (45 - cut (length K)) ≡ 45 = omega arith in
      rw (row_is, data_is, not_nil h (omega (arith, length_answer)), length_answer, e₁, faulty_drop 5 ((length K + 7) / 8) (merge (map (seal 5) D)) faulty_none, clean_append K (merge (map (take n) T)) b_k, next_append K (merge (map (take n) T)) b_k)

  -- no collision: the level is known
  pub reads_clean : clean (merge (map (take n) T)) ≡ true → (y : List ℕ) → K ++ merge (map (take n) T) ≡ y ++ check_of y → Bits y → length y ≡ 32
      → read_rest (length K) (bytes_of 5 K) (merge (map (λ t. drop (cut (length K)) (seal 5 (K ++ take n t))) T)) ≡ rest_of Whole (K ++ merge (map (take n) T))
  unfolding h
  reads_clean c y e b m = passes ∙ rw (c, check_holds (K ++ merge (map (take n) T)) y e b m, next_clean (merge (map (take n) T)) c)

  -- a collision, not in the check byte: the bits before it and then a 1
  pub reads_clash : clean (merge (map (take n) T)) ≡ false → length (K ++ next (merge (map (take n) T))) ≤ 32
      → read_rest (length K) (bytes_of 5 K) (merge (map (λ t. drop (cut (length K)) (seal 5 (K ++ take n t))) T)) ≡ rest_of Collided (K ++ next (merge (map (take n) T)))
  unfolding h
  reads_clash c m = passes ∙ rw (c, le-ltb 32 (length (K ++ next (merge (map (take n) T)))) m)
