-- What the rows of the idle cards of a field within the terms have, and so what is heard of them. Assumes nothing.
use mathlib.Core.Path.{◌≡◌, sym, ap, ◌∙◌}
use Prim.Native.Nat.{ℕ, suc, ◌+◌, ◌-◌, ◌*◌, ◌≤◌, ◌<◌}
use native.Mathlib.Nat.{not-suc-le-zero}
use mathlib.Core.Bool.{Bool, true, false, not, true≢false}
use mathlib.Core.List.{List, [], ◌∷◌, ◌++◌, append_assoc}
use lib.ListN.{length, take, get_or, length-append, length-take}
use lib.Dec.{ltb}
use borrow.Author.Tests.{lt-ltb, le-ltb}
use native.Mathlib.Omega.{arith}
use Rattle.rows.specs.EachLaws.{bits_right, all_map, all_zip, bits_left, some_all}
use Rattle.rows.specs.ListLaws.{all_take_law, all_append}
use Rattle.rows.specs.Rows.{clean, All, Bits, is_nil}
use Rattle.frame.specs.Frame.{bytes_of}
use Rattle.uid.specs.CheckLaws.{Checked, check_of}
use Rattle.uid.specs.LevelLaws.{wide, InLevels, lev, lev_head, lev_next}
use Rattle.uid.specs.UidLaws.{uid_in_levels, checked_row}
use Rattle.reader.specs.Reader.{contradicts}
use Rattle.reader.specs.ReaderLaws.{lvl}
use Rattle.reader.specs.SakLevelLaws.{Fitting, fitting_row}
use Rattle.sweep_rules.proofs.Abstract.{strips, heard}
use Rattle.sweep_rules.proofs.Early.{all_tied, clean_all}
use Rattle.sweep_rules.proofs.Idle.{row_in, idlers, Fits, idles, all_idle}
use Rattle.sweep_rules.proofs.Level.{all_strips}
use Rattle.sweep_rules.proofs.Machine.{Open}
use Rattle.sweep_rules.proofs.Sitting.{at}
use Rattle.card.specs.declared.Card.{Card}

module _ (F : List Card) (hF : All Fits F) where
  pub whole_idles : All (InLevels 3) (idles F)
  unfolding idles
  whole_idles = all_map {F = Fits} (InLevels 3) row_in (idlers F) (λ c s. uid_in_levels c.uid s.sound) (all_idle Fits F hF)

  pub checked_idles : All Checked (idles F)
  unfolding idles
  checked_idles = all_map {F = Fits} Checked row_in (idlers F) (λ c s. checked_row c.uid s.sound) (all_idle Fits F hF)

  pub fitting_idles : All Fitting (idles F)
  unfolding idles
  fitting_idles = all_map {F = Fits} Fitting row_in (idlers F) (λ c s. fitting_row c.uid s.sound) (all_idle Fits F hF)

-- a row with something behind it is longer
longer_than : (n : ℕ) (more : Bool) (t : List ℕ) → is_nil t ≡ not more → ltb n (n + length t) ≡ more
unfolding is_nil
longer_than n true (x ∷ t) e = lt-ltb n (n + length (x ∷ t)) (omega arith)
longer_than n true [] e = absurd (true≢false e)
longer_than n false [] e = le-ltb n (n + 0) (omega arith)
longer_than n false (x ∷ t) e = absurd (true≢false (sym e))

-- T-04: the level X that is selected after the levels P fits the SAK of the cards that are left: all of them have further levels, or none has
module _ (S : List (List ℕ)) (j : ℕ) (P X : List ℕ) (h_p : length P ≡ wide * j) (h_x : wide ≡ length X) where
  fits_left : (more : Bool) (t : List ℕ) → Fitting ((P ++ X) ++ t) → is_nil t ≡ not more → contradicts (lvl j) more (get_or (bytes_of 5 X) 0 0) ≡ false
  unfolding wide
  fits_left more t f n =
      let l : length (P ++ X) ≡ 40 * suc j = rw length-append (omega arith) in
      let e : lev j ((P ++ X) ++ t) ≡ X = lev_head j (P ++ X) t (omega arith) ∙ lev_next j P X h_p (sym h_x) in
      rw (e, length-append, l, longer_than (40 * suc j) more t n) at (f j (rw length-append (omega arith)))

  pub level_fits : (more : Bool) → All Fitting S → 1 ≤ length (strips (P ++ X) S) → All (λ t. is_nil t ≡ not more) (strips (P ++ X) S)
      → contradicts (lvl j) more (get_or (bytes_of 5 X) 0 0) ≡ false
  level_fits more f some nils =
      some_all (strips (P ++ X) S) _ some (all_zip (strips (P ++ X) S) (λ t g n. g n) (all_strips Fitting (λ t. is_nil t ≡ not more → _) (P ++ X) S (λ t g n. fits_left more t g n) f) nils)

-- the bits that the reader knows are a card's
pub known_bits : (S : List (List ℕ)) (P K : List ℕ) → All (InLevels 3) S → 1 ≤ length (strips (P ++ K) S) → Bits K
known_bits S P K w h =
    some_all (strips (P ++ K) S) (Bits K) h
    (all_strips (InLevels 3) (λ t. Bits K) (P ++ K) S (λ t x. bits_left K t (bits_right P (K ++ t) (rw append_assoc at x.bits))) w)

-- a level that is heard with no collision is a card's: its last byte checks the others
pub record Checks (d : List ℕ) : Type 0 where
  pub y : List ℕ
  pub bits : Bits y
  pub full : length y ≡ 32
  pub is : d ≡ y ++ check_of y

pub heard_checks : (S : List (List ℕ)) (j n : ℕ) (P K : List ℕ) → All Checked S → Open 32 S j n P K → Bits K → clean (heard n (strips (P ++ K) S)) ≡ true → Checks (K ++ heard n (strips (P ++ K) S))
heard_checks S j n P K cs o b c =
    go (strips (P ++ K) S) o.some_in o.long o.bits (clean_all n (strips (P ++ K) S) o.some_in o.long c) (all_tied S j n m P K cs o (omega (arith, o.early)))
  where
    m : ℕ
    m = 32 - length K

    go : (T : List (List ℕ)) → 1 ≤ length T → All (λ t. n ≤ length t) T → All Bits T → All (λ t. take n t ≡ heard n (strips (P ++ K) S)) T
        → All (λ t. K ++ take n t ≡ K ++ take m t ++ check_of (K ++ take m t)) T → Checks (K ++ heard n (strips (P ++ K) S))
    go [] h l bT a e = absurd (not-suc-le-zero h)
    go (t ∷ T) h l bT a e = record {
      y = K ++ take m t;
      bits = all_append (λ x. x < 2) K (take m t) b (all_take_law (λ x. x < 2) m t bT.0);
      full = rw (length-append, length-take) (unfold wide in omega (arith, l.0, o.room, o.early));
      is = ap (λ r. K ++ r) (sym a.0) ∙ e.0;
    }
