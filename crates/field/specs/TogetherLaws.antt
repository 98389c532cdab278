-- Standard rows that are sent together: the data bits heard are the merged data bits, and no byte that is heard clean has wrong parity.
-- Assumes nothing.
use Rattle.std.specs.Prelude.{◌≡◌, Bool, true, false, not, ◌&&◌, ◌||◌, get_or, eqb}
use Rattle.std.proofs.Math.Path.{refl, sym, ap, ap₂}
use Rattle.std.proofs.Common.{◌∙◌, length-append, length-take, length-drop, take-append-drop, take_at, drop_at, arith}
use Prim.Native.Nat.{ℕ, zero, suc, ◌*◌, ◌≤◌}
use mathlib.Core.List.{List, [], ◌∷◌, ◌++◌, map, map-map, map-id, append_assoc}
use Rattle.std.proofs.Math.ListN.{length, take, drop, length-map}
use Rattle.std.proofs.lemmas.List.{get_or_at}
use Rattle.rows.specs.CleanLaws.{eqb_same}
use Rattle.rows.specs.EachLaws.{all_map, all_weaken}
use Rattle.rows.specs.ListLaws.{map_all, all_of, all_unmap, is_nil_law}
use Rattle.rows.specs.Rows.{All, clean}
use Rattle.parity.specs.Bits.{odd}
use Rattle.frame.specs.Frame.{data_of, faulty}
use Rattle.frame.proofs.WrongLaws.{faulty_none, faulty_step as frame_step}
use Rattle.selection.specs.SealLaws.{seal, sealed, length_sealed, seal_byte}
use Rattle.field.specs.Merge.{merge}
use Rattle.field.specs.MergeLaws.{clean_merge, merge_append, length_merge, merge_same}

module _ (n : ℕ) (D : List (List ℕ)) (some : 1 ≤ length D) (full : All (λ d. length d ≡ 8 * suc n) D) where
  first : List ℕ
  first = merge (map (take 8) D)

  parity : List ℕ
  parity = merge (map (λ d. odd (take 8 d) ∷ []) D)

  later : List ℕ
  later = merge (map (seal n) (map (drop 8) D))

  eights : All (λ d. length (take 8 d) ≡ 8) D
  eights = all_weaken {F = λ d. length d ≡ 8 * suc n} D (λ d h. rw length-take (omega arith)) full

  length_first : length first ≡ 8
  unfolding first
  length_first = length_merge (take 8) 8 D some eights

  length_parity : length parity ≡ 1
  unfolding parity
  length_parity = length_merge (λ d. odd (take 8 d) ∷ []) 1 D some (all_of (λ d. refl) D)

  parts : merge (map (seal (suc n)) D) ≡ first ++ parity ++ later
  unfolding first parity later
  parts =
      ap merge (map_all (seal (suc n)) (λ d. sealed d ++ seal n (drop 8 d)) D (all_weaken {F = λ d. length d ≡ 8 * suc n} D (λ d h. seal_byte n d (omega arith)) full))
      ∙ merge_append sealed 9 (λ d. seal n (drop 8 d)) D some (all_weaken {F = λ d. length d ≡ 8 * suc n} D (λ d h. length_sealed d (omega arith)) full)
      ∙ ap₂ ◌++◌ (merge_append (take 8) 8 (λ d. odd (take 8 d) ∷ []) D some eights) (ap merge (sym (map-map (seal n) (drop 8) D)))

  data_parts : merge D ≡ first ++ merge (map (drop 8) D)
  unfolding first
  data_parts =
      ap merge (sym (map-id D) ∙ map_all (λ d. d) (λ d. take 8 d ++ drop 8 d) D (all_of (λ d. sym (take-append-drop 8 d)) D))
      ∙ merge_append (take 8) 8 (drop 8) D some eights

  first_bits : take 8 (first ++ parity ++ later) ≡ first
  first_bits = rw append_assoc (take_at first (parity ++ later) 8 length_first)

  later_bits : drop 9 (first ++ parity ++ later) ≡ later
  later_bits = drop_at (first ++ parity) later 9 (rw (length-append, length_first, length_parity))

  parity_bit : (p : List ℕ) → parity ≡ p → length p ≡ 1 → get_or (first ++ parity ++ later) 8 0 ≡ get_or p 0 0
  parity_bit [] e h = absurd (omega arith)
  parity_bit (y ∷ p) e h = rw (e, append_assoc) (get_or_at first y (p ++ later) 0 8 length_first)

  drops : All (λ d. length d ≡ 8 * n) (map (drop 8) D)
  drops = all_map {F = λ d. length d ≡ 8 * suc n} (λ d. length d ≡ 8 * n) (drop 8) D (λ d h. rw length-drop (omega arith)) full

  data_step : data_of n later ≡ merge (map (drop 8) D) → data_of (suc n) (merge (map (seal (suc n)) D)) ≡ merge D
  unfolding data_of
  data_step ih = rw (parts, first_bits, later_bits, ih) (sym data_parts)

  -- a byte that is heard clean is what every card sent, and so is its parity
  parity_right : clean first ≡ true → get_or (first ++ parity ++ later) 8 0 ≡ odd first
  unfolding first
  parity_right c = parity_bit (odd first ∷ []) (unfold parity in merge_same (λ d. odd (take 8 d) ∷ []) 1 (odd first ∷ []) D some
      (all_weaken {F = λ d. take 8 d ≡ first} D (λ d e. ap (λ x. odd x ∷ []) e) heads)) refl
    where
      heads : All (λ d. take 8 d ≡ first) D
      heads = all_unmap (λ x. x ≡ first) (take 8) D (clean_merge 8 (map (take 8) D) (rw length-map some) (all_map {F = λ d. length (take 8 d) ≡ 8} (λ x. length x ≡ 8) (take 8) D (λ d h. h) eights) c)

  faulty_step : faulty n later ≡ false → faulty (suc n) (merge (map (seal (suc n)) D)) ≡ false
  faulty_step ih = rw (parts, frame_step n (first ++ parity ++ later), first_bits, later_bits, ih) (go (clean first) refl)
    where
      go : (c : Bool) → clean first ≡ c → (c && not (eqb (get_or (first ++ parity ++ later) 8 0) (odd first)) || false) ≡ false
      go true c = rw (parity_right c, eqb_same (odd first))
      go false c = refl

pub data_seal : (n : ℕ) (D : List (List ℕ)) → 1 ≤ length D → All (λ d. length d ≡ 8 * n) D → data_of n (merge (map (seal n) D)) ≡ merge D
unfolding later
data_seal zero D h l = unfold data_of in sym (ap merge (sym (map-id D)) ∙ merge_same (λ d. d) 0 [] D h (all_weaken {F = λ d. length d ≡ 8 * 0} D (λ d e. is_nil_law d (omega arith)) l))
data_seal (suc n) D h l = data_step n D h l (data_seal n (map (drop 8) D) (rw length-map h) (drops n D h l))

pub faulty_seal : (n : ℕ) (D : List (List ℕ)) → 1 ≤ length D → All (λ d. length d ≡ 8 * n) D → faulty n (merge (map (seal n) D)) ≡ false
unfolding later
faulty_seal zero D h l = faulty_none (merge (map (seal 0) D))
faulty_seal (suc n) D h l = faulty_step n D h l (faulty_seal n (map (drop 8) D) (rw length-map h) (drops n D h l))
