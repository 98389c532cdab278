-- Laws of UIDs: their levels and rows; a UID is got back from its row; the rows of different UIDs differ before either ends, and first
-- never in a check byte. Assumes nothing.
use Rattle.std.specs.Prelude.{refl, ◌≡◌, ◌≢◌, false, true, not, Bool, take, drop, get_or, ltb, eqb}
use Rattle.std.proofs.Math.Path.{sym}
use Rattle.std.proofs.Common.{ap, ◌∙◌, length-take, length-drop, length-take-le, get_or-take, get_or-drop, drop-cons, take-add, ltb-true, ltb-false, arith}
use Prim.Native.Nat.{ℕ, zero, suc, ◌+◌, ◌-◌, ◌*◌, ◌/◌, ◌≤◌, ◌<◌, ◌%◌}
use mathlib.Core.List.{List, [], ◌∷◌, ◌++◌, map}
use Rattle.std.proofs.Math.ListN.{length, length-map, get_or-map}
use Rattle.std.proofs.Math.Seq.{take-take, drop_at}
use Rattle.std.proofs.lemmas.Bool.{eqb-false, not-true}
use Rattle.rows.specs.EachLaws.{all_get_d, all_map}
use Rattle.rows.specs.ListLaws.{all_drop, all_take_law}
use Rattle.rows.specs.Rows.{All, Bytes}
use Rattle.frame.specs.ByteLaws.{bytes_bits, length_air_bits, bits_air_bits}
use Rattle.frame.specs.Frame.{air_bits, bytes_of}
use Rattle.uid.specs.CheckLaws.{Five, Checked, five_checked, check_of, take_level, five_is}
use Rattle.uid.specs.LevelLaws.{OneLevel, InLevels, Valid, mark, off_valid, lev, wide, not_mark, a_mark, lev_air, length_air, in_levels}
use Rattle.uid.specs.Order.{Diff, on, off, diff}
use Rattle.uid.specs.OrderLaws.{Off, parted, Parted, in_second}
use Rattle.uid.specs.Uid.{air, byte_count, uid_bytes, level, levels_of, levels, valid_of, row_of, valid}
use Rattle.uid.specs.declared.Uid.{Uid}
use Rattle.uid.specs.declared.UidSize.{UidSize}
use Rattle.uid.specs.declared.UidSize.TheVariants.{Single, Double, Triple}

-- a valid UID: the first two are what its type says
pub record Sound (u : Uid) : Type 0 where
  pub ten : length u.bytes ≡ 10
  pub bytes : Bytes u.bytes
  pub is_valid : valid u ≡ true

five_level : (five : List ℕ) → Five five → OneLevel (air_bits five)
unfolding wide
five_level five f = record { bits = bits_air_bits five; full = rw (length_air_bits, f.full) }

-- ---- the levels of a UID

module _ (u : List ℕ) (ten : length u ≡ 10) (fits : Bytes u) where
  part : (i n : ℕ) → n + i ≤ 10 → (length (take n (drop i u)) ≡ n) × Bytes (take n (drop i u))
  part i n h = (rw (length-take, length-drop) (omega arith), all_take_law (λ b. b < 256) n (drop i u) (all_drop (λ b. b < 256) i u fits))

  plain_five : (i : ℕ) → 4 + i ≤ 10 → Five (level (take 4 (drop i u)))
  plain_five i h = five_is (take 4 (drop i u)) (part i 4 h).1 (part i 4 h).0

  mark_five : (i : ℕ) → 3 + i ≤ 10 → Five (level (0x88 ∷ take 3 (drop i u)))
  mark_five i h = five_is (0x88 ∷ take 3 (drop i u)) (omega arith, (part i 3 h).1) (ap suc (part i 3 h).0)

  pub fives : (z : UidSize) → All Five (levels_of z u)
  fives Single = (plain_five 0 (omega arith), tt)
  fives Double = (mark_five 0 (omega arith), (plain_five 3 (omega arith), tt))
  fives Triple = (mark_five 0 (omega arith), (mark_five 3 (omega arith), (plain_five 6 (omega arith), tt)))

  no_mark : (i : ℕ) → 4 + i ≤ 10 → not (eqb (get_or u i 0) 0x88) ≡ true → take 8 (air_bits (level (take 4 (drop i u)))) ≢ mark
  unfolding level
  no_mark i h v =
      rw (drop-cons u i 0 (omega arith)) (not_mark (get_or u i 0) _ (rw (drop-cons u i 0 (omega arith)) at (all_drop (λ b. b < 256) i u fits)).0 (eqb-false (get_or u i 0) 0x88 (not-true (eqb (get_or u i 0) 0x88) v)))

  valid_bits : (z : UidSize) → valid_of z u ≡ true → Valid 3 (map air_bits (levels_of z u))
  unfolding level
  valid_bits Single v = (five_level _ (fives Single).0, no_mark 0 (omega arith) v)
  valid_bits Double v = (five_level _ (fives Double).0, a_mark _, (five_level _ (fives Double).1.0, no_mark 3 (omega arith) v))
  valid_bits Triple v = (five_level _ (fives Triple).0, a_mark _, (five_level _ (fives Triple).1.0, a_mark _, five_level _ (fives Triple).1.1.0))

-- ---- a UID's row

-- the UID's bytes in the first j levels, of which none is the last; and the UID of a whole row
unfoldable pub so_far : ℕ → List ℕ → List ℕ
so_far zero r = []
so_far (suc j) r = so_far j r ++ drop 1 (take 4 (bytes_of 5 (lev j r)))

unfoldable pub name : List ℕ → List ℕ
name r = so_far (length r / 40 - 1) r ++ take 4 (bytes_of 5 (lev (length r / 40 - 1) r))

module _ (ls : List (List ℕ)) (f : All Five ls) where
  one_levels : All OneLevel (map air_bits ls)
  one_levels = all_map {F = Five} OneLevel air_bits ls five_level f

  pub length_rows : length (air (map air_bits ls)) ≡ 40 * length ls
  unfolding wide
  length_rows = length_air (map air_bits ls) one_levels ∙ rw length-map

  lev_rows : (j : ℕ) → j < length ls → lev j (air (map air_bits ls)) ≡ air_bits (get_or ls j [])
  lev_rows j h = lev_air j (map air_bits ls) one_levels (rw length-map h) ∙ unfold air_bits in get_or-map air_bits ls j []

  five_at_law : (j : ℕ) → j < length ls → Five (get_or ls j [])
  five_at_law j h = all_get_d Five j ls f h

  byte_rows : (j : ℕ) → j < length ls → bytes_of 5 (lev j (air (map air_bits ls))) ≡ get_or ls j []
  byte_rows j h =
      let g : Five (get_or ls j []) = five_at_law j h in
      rw (lev_rows j h) (ap (λ k. bytes_of k (air_bits (get_or ls j []))) (sym g.full) ∙ bytes_bits (get_or ls j []) g.fits)

  checked_rows : Checked (air (map air_bits ls))
  unfolding wide
  checked_rows j h =
      let k : j < length ls = omega (arith, length_rows) in
      rw (lev_rows j k) (five_checked (get_or ls j []) (five_at_law j k))

module _ (u : Uid) (s : Sound u) where
  uid_fives : All Five (levels u)
  unfolding levels
  uid_fives = fives u.bytes s.ten s.bytes u.size

  uid_valid : Valid 3 (map air_bits (levels u))
  unfolding levels valid
  uid_valid = valid_bits u.bytes s.ten s.bytes u.size s.is_valid

  pub uid_in_levels : InLevels 3 (row_of u)
  unfolding row_of
  uid_in_levels = in_levels (map air_bits (levels u)) uid_valid

  pub length_row : length (row_of u) ≡ 40 * length (levels u)
  unfolding row_of
  length_row = length_rows (levels u) uid_fives

  pub lev_row : (j : ℕ) → j < length (levels u) → lev j (row_of u) ≡ air_bits (get_or (levels u) j [])
  unfolding row_of
  lev_row j h = lev_rows (levels u) uid_fives j h

  pub five_row : (j : ℕ) → j < length (levels u) → Five (get_or (levels u) j [])
  five_row j h = five_at_law (levels u) uid_fives j h

  pub checked_row : Checked (row_of u)
  unfolding row_of
  checked_row = checked_rows (levels u) uid_fives

  -- the row gives the UID back
  pub name_row : name (row_of u) ≡ uid_bytes u
  unfolding row_of uid_bytes levels name so_far
  name_row = go u.size
    where
      w : List ℕ
      w = u.bytes

      four : (i : ℕ) → 4 + i ≤ 10 → length (take 4 (drop i w)) ≡ 4
      four i h = (part w s.ten s.bytes i 4 h).0

      three : (i : ℕ) → 3 + i ≤ 10 → length (0x88 ∷ take 3 (drop i w)) ≡ 4
      three i h = ap suc (part w s.ten s.bytes i 3 h).0

      all_fives : (z : UidSize) → All Five (levels_of z w)
      all_fives z = fives w s.ten s.bytes z

      go : (z : UidSize) → name (air (map air_bits (levels_of z w))) ≡ take (byte_count z) w
      go Single = let ls : List (List ℕ) = levels_of Single w in
          rw (length_rows ls (all_fives Single), byte_rows ls (all_fives Single) 0 (omega arith), take_level (take 4 w) (four 0 (omega arith)))
      go Double = let ls : List (List ℕ) = levels_of Double w in
          rw (
            length_rows ls (all_fives Double),
            byte_rows ls (all_fives Double) 0 (omega arith),
            byte_rows ls (all_fives Double) 1 (omega arith),
            take_level (0x88 ∷ take 3 w) (three 0 (omega arith)),
            take_level (take 4 (drop 3 w)) (four 3 (omega arith)),
          ) (sym (take-add 3 4 w))
      go Triple = let ls : List (List ℕ) = levels_of Triple w in
          rw (
            length_rows ls (all_fives Triple),
            byte_rows ls (all_fives Triple) 0 (omega arith),
            byte_rows ls (all_fives Triple) 1 (omega arith),
            byte_rows ls (all_fives Triple) 2 (omega arith),
            take_level (0x88 ∷ take 3 w) (three 0 (omega arith)),
            take_level (0x88 ∷ take 3 (drop 3 w)) (three 3 (omega arith)),
            take_level (take 4 (drop 6 w)) (four 6 (omega arith)),
          )
          (ap (λ l. l ++ take 4 (drop 6 w)) (sym (take-add 3 3 w)) ∙ sym (take-add 6 4 w))

-- ---- the rows of different UIDs

ne_levels : (u v : Uid) → Sound u → Sound v → uid_bytes u ≢ uid_bytes v → map air_bits (levels u) ≢ map air_bits (levels v)
unfolding row_of
ne_levels u v s t n e = n (sym (name_row u s) ∙ ap (λ l. name (air l)) e ∙ name_row v t)

-- none is the other's head
pub rows_off : (u v : Uid) → Sound u → Sound v → uid_bytes u ≢ uid_bytes v → Off (diff (row_of u) (row_of v))
unfolding row_of
rows_off u v s t n = off_valid (map air_bits (levels u)) (map air_bits (levels v)) (uid_valid u s) (uid_valid v t) (ne_levels u v s t n)

-- they differ before either ends
pub record Differs (u v : Uid) : Type 0 where
  pub p : ℕ
  pub x : ℕ
  pub is : diff (row_of u) (row_of v) ≡ off p x
  pub in_one : p < length (row_of u)
  pub in_other : p < length (row_of v)

pub rows_differ : (u v : Uid) → Sound u → Sound v → uid_bytes u ≢ uid_bytes v → Differs u v
rows_differ u v s t n = go (diff (row_of u) (row_of v)) refl (rows_off u v s t n)
  where
    go : (D : Diff) → diff (row_of u) (row_of v) ≡ D → Off D → Differs u v
    go (on w) e o = absurd o
    go (off p x) e o = record {
      p = p;
      x = x;
      is = e;
      in_one = (parted (row_of u) (row_of v) p x e).in_first;
      in_other = in_second (row_of u) (row_of v) p x e (rows_off v u t s (λ q. n (sym q)));
    }

-- rows whose levels are checked and that agree before the check byte of level j agree in all of it
level_agrees : (r s : List ℕ) (j : ℕ) → Checked r → Checked s → 40 * suc j ≤ length r → 40 * suc j ≤ length s → take (40 * j + 32) r ≡ take (40 * j + 32) s → lev j r ≡ lev j s
unfolding wide
level_agrees r s j c d h k e = c j h ∙ ap (λ y. y ++ check_of y) (front r h ∙ ap (drop (40 * j)) e ∙ sym (front s k)) ∙ sym (d j k)
  where
    front : (r : List ℕ) → 40 * suc j ≤ length r → take 32 (lev j r) ≡ drop (40 * j) (take (40 * j + 32) r)
    front r h = unfold lev in
        take-take 32 40 (drop (40 * j) r) (omega arith)
        ∙ sym (ap (drop (40 * j)) (take-add (40 * j) 32 r) ∙ drop_at (take (40 * j) r) (take 32 (drop (40 * j) r)) (40 * j) (length-take-le (40 * j) r (omega arith)))

lev_bit : (r : List ℕ) (p : ℕ) → get_or (lev (p / 40) r) (p % 40) 0 ≡ get_or r p 0
unfolding lev wide
lev_bit r p =
    let e : 40 * (p / 40) + p % 40 ≡ p = omega arith in
    get_or-take 40 (drop (40 * (p / 40)) r) (p % 40) 0 (omega arith) ∙ get_or-drop (40 * (p / 40)) r (p % 40) 0 ∙ ap (λ i. get_or r i 0) e

-- rows of checked levels never first differ in a check byte
pub rows_never_in_check : (r s : List ℕ) (p x : ℕ) → Checked r → Checked s → length r % 40 ≡ 0 → length s % 40 ≡ 0 → Off (diff s r) → diff r s ≡ off p x → p % 40 < 32
rows_never_in_check r s p x c d hr hs o e = go (ltb (p % 40) 32) refl
  where
    a : Parted r s p
    a = parted r s p x e

    k : p < length s
    k = in_second r s p x e o

    go : (b : Bool) → ltb (p % 40) 32 ≡ b → p % 40 < 32
    go true h = ltb-true (p % 40) 32 h
    go false h =
        let m : 32 ≤ p % 40 = ltb-false (p % 40) 32 h in
        let front : take (40 * (p / 40) + 32) r ≡ take (40 * (p / 40) + 32) s =
        sym (take-take (40 * (p / 40) + 32) p r (omega arith)) ∙ ap (take (40 * (p / 40) + 32)) a.before ∙ take-take (40 * (p / 40) + 32) p s (omega arith) in
        let l : lev (p / 40) r ≡ lev (p / 40) s = level_agrees r s (p / 40) c d (omega (arith, a.in_first)) (omega (arith, k)) front in
        absurd (a.differ k (sym (lev_bit r p) ∙ ap (λ t. get_or t (p % 40) 0) l ∙ lev_bit s p))

-- two different valid UIDs never first differ in a check byte
pub never_in_check : (u v : Uid) → Sound u → Sound v → uid_bytes u ≢ uid_bytes v → (p x : ℕ) → diff (row_of u) (row_of v) ≡ off p x → p % 40 < 32
never_in_check u v s t n p x e =
    rows_never_in_check (row_of u) (row_of v) p x (checked_row u s) (checked_row v t) (omega (arith, length_row u s)) (omega (arith, length_row v t)) (rows_off v u t s (λ z. n (sym z))) e
