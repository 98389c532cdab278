-- Rows of one to three levels of 40 bits, and what makes levels valid: then no row is the head of another's. Assumes nothing.
use Rattle.std.specs.Prelude.{◌≡◌, refl, ◌≢◌, ℕ, zero, suc, ◌+◌, ◌*◌, ◌<◌, ◌≤◌, ◌%◌, List, [], ◌∷◌, ◌++◌, length, take, get_or, drop}
use Rattle.std.proofs.Common.{sym, ap, ◌∙◌, ap₂, not-suc-le-zero, append_assoc, length-append, length-drop, take_at, drop_at, take_all, arith}
use Rattle.std.proofs.Math.Option.{some}
use Rattle.std.proofs.Math.Seq.{drop-append-add}
use Rattle.std.proofs.lemmas.List.{take-append-le, drop-append-le}
use Rattle.rows.specs.EachLaws.{parts_equal}
use Rattle.rows.specs.ListLaws.{all_append}
use Rattle.rows.specs.Rows.{All, Bits}
use Rattle.parity.specs.BitLaws.{unbits_bits}
use Rattle.parity.specs.Bits.{bits_of, unbits}
use Rattle.frame.specs.ByteLaws.{first_byte_law}
use Rattle.frame.specs.Frame.{air_bits}
use Rattle.uid.specs.Order.{Diff, on, off, diff}
use Rattle.uid.specs.OrderLaws.{Off, diff_on}
use Rattle.uid.specs.StripLaws.{strip, strip_sound}
use Rattle.uid.specs.Uid.{air}

-- the bits in a level
unfoldable pub wide : ℕ
wide = 40

-- 88, least significant bit first
unfoldable pub mark : List ℕ
mark = 0 ∷ 0 ∷ 0 ∷ 1 ∷ 0 ∷ 0 ∷ 0 ∷ 1 ∷ []

pub record OneLevel (l : List ℕ) : Type 0 where
  pub bits : Bits l
  pub full : length l ≡ wide

-- the bits of level j
unfoldable pub lev : ℕ → List ℕ → List ℕ
lev j r = take wide (drop (wide * j) r)

-- of at most n levels. The n-th has no room for a level after it, so its first byte is free
-- (a third level begins with 88 where u6 of a 10-byte UID is 88).
abbrev pub Valid : ℕ → List (List ℕ) → Type 0
Valid zero ls = ⊥
Valid (suc n) [] = ⊥
Valid (suc zero) (l ∷ []) = OneLevel l
Valid (suc (suc n)) (l ∷ []) = OneLevel l × (take 8 l ≢ mark)
Valid (suc n) (l ∷ m ∷ ls) = OneLevel l × (take 8 l ≡ mark) × Valid n (m ∷ ls)

-- one to L levels of bits
pub record InLevels (L : ℕ) (r : List ℕ) : Type 0 where
  pub bits : Bits r
  pub one_level : 1 ≤ length r
  pub levels_only : length r % wide ≡ 0
  pub at_most : length r ≤ wide * L

-- ---- the bits of a level

pub not_mark : (b : ℕ) (l : List ℕ) → b < 256 → b ≢ 0x88 → take 8 (air_bits (b ∷ l)) ≢ mark
unfolding mark unbits
not_mark b l h n e = n (sym (unbits_bits 8 b h) ∙ ap unbits (sym (first_byte_law b l) ∙ e))

pub a_mark : (l : List ℕ) → take 8 (air_bits (0x88 ∷ l)) ≡ mark
unfolding mark bits_of
a_mark l = first_byte_law 0x88 l

pub lev_air : (j : ℕ) (ls : List (List ℕ)) → All OneLevel ls → j < length ls → lev j (air ls) ≡ get_or ls j []
unfolding lev air
lev_air j [] v h = absurd (not-suc-le-zero h)
lev_air zero (l ∷ ls) v h = let e : wide * 0 ≡ 0 = omega arith in rw e (take_at l (air ls) wide v.0.full)
lev_air (suc j) (l ∷ ls) v h =
    let e : wide * suc j ≡ length l + wide * j = rw v.0.full (omega arith) in
    rw (e, drop-append-add l (air ls) (wide * j)) (lev_air j ls v.1 (omega arith))

pub lev_under : (j : ℕ) (P r u : List ℕ) → length P ≡ wide * j → strip P r ≡ some u → lev j r ≡ take wide u
unfolding lev
lev_under j P r u h e = ap (take wide) (ap (drop (wide * j)) (strip_sound P r u e) ∙ drop_at P u (wide * j) h)

pub lev_head : (j : ℕ) (P X : List ℕ) → 40 * suc j ≤ length P → lev j (P ++ X) ≡ lev j P
unfolding lev wide
lev_head j P X h = rw (drop-append-le (40 * j) P X (omega arith), take-append-le 40 (drop (40 * j) P) X (rw length-drop (omega arith)))

pub lev_next : (j : ℕ) (P X : List ℕ) → length P ≡ 40 * j → length X ≡ 40 → lev j (P ++ X) ≡ X
unfolding lev wide
lev_next j P X h k = rw (drop_at P X (40 * j) h) (take_all 40 X (omega arith))

-- ---- a row of levels

-- by its levels, one after the other
levels_all : (n : ℕ) (a : List (List ℕ)) → Valid n a → All OneLevel a × (1 ≤ length a) × (length a ≤ n)
levels_all zero a v = absurd v
levels_all (suc n) [] v = absurd v
levels_all (suc zero) (l ∷ []) v = ((v, tt), omega arith, omega arith)
levels_all (suc (suc n)) (l ∷ []) v = ((v.0, tt), omega arith, omega arith)
levels_all (suc n) (l ∷ m ∷ ls) v =
    let i : All OneLevel (m ∷ ls) × (1 ≤ length (m ∷ ls)) × (length (m ∷ ls) ≤ n) = levels_all n (m ∷ ls) v.2 in
    ((v.0, i.0), omega arith, omega (arith, i.2))

bits_air : (a : List (List ℕ)) → All OneLevel a → Bits (air a)
unfolding air
bits_air [] v = tt
bits_air (l ∷ ls) v = all_append (λ x. x < 2) l (air ls) v.0.bits (bits_air ls v.1)

pub length_air : (a : List (List ℕ)) → All OneLevel a → length (air a) ≡ wide * length a
unfolding air wide
length_air [] v = refl
length_air (l ∷ ls) v = rw (length-append l (air ls), length_air ls v.1, v.0.full) (omega arith)

pub in_levels : (a : List (List ℕ)) → Valid 3 a → InLevels 3 (air a)
unfolding wide
in_levels a v =
    let i : All OneLevel a × (1 ≤ length a) × (length a ≤ 3) = levels_all 3 a v in
    record {
      bits = bits_air a i.0;
      one_level = rw (length_air a i.0) (omega (arith, i.1));
      levels_only = rw (length_air a i.0) (omega arith);
      at_most = rw (length_air a i.0) (omega (arith, i.2));
    }

-- ---- levels of which one row is the other's head are the same

levels_equal : (l m A B t : List ℕ) → OneLevel l → OneLevel m → m ++ B ≡ l ++ A ++ t → (m ≡ l) × (B ≡ A ++ t)
levels_equal l m A B t hl hm e = parts_equal wide m l B (A ++ t) hm.full hl.full (e ∙ append_assoc l A t)

head_only : (n : ℕ) (a b : List (List ℕ)) (t : List ℕ) → Valid n a → Valid n b → air b ≡ air a ++ t → a ≡ b
unfolding air
head_only zero a b t va vb e = absurd va
head_only (suc n) [] b t va vb e = absurd va
head_only (suc n) (l ∷ ls) [] t va vb e = absurd vb
head_only (suc zero) (l ∷ []) (m ∷ []) t va vb e = ap (λ x. x ∷ []) (sym (levels_equal l m [] [] t va vb e).0)
head_only (suc (suc n)) (l ∷ []) (m ∷ []) t va vb e = ap (λ x. x ∷ []) (sym (levels_equal l m [] [] t va.0 vb.0 e).0)
head_only (suc zero) (l ∷ []) (m ∷ k ∷ ms) t va vb e = absurd vb.2
head_only (suc (suc n)) (l ∷ []) (m ∷ k ∷ ms) t va vb e =
    absurd (va.1 (ap (take 8) (sym (levels_equal l m [] (air (k ∷ ms)) t va.0 vb.0 e).0) ∙ vb.1))
head_only (suc zero) (l ∷ j ∷ ls) (m ∷ []) t va vb e = absurd va.2
head_only (suc (suc n)) (l ∷ j ∷ ls) (m ∷ []) t va vb e =
    absurd (vb.1 (ap (take 8) (levels_equal l m (air (j ∷ ls)) [] t va.0 vb.0 e).0 ∙ va.1))
head_only (suc n) (l ∷ j ∷ ls) (m ∷ k ∷ ms) t va vb e =
    let h : (m ≡ l) × (air (k ∷ ms) ≡ air (j ∷ ls) ++ t) = levels_equal l m (air (j ∷ ls)) (air (k ∷ ms)) t va.0 vb.0 e in
    ap₂ ◌∷◌ (sym h.0) (head_only n (j ∷ ls) (k ∷ ms) t va.2 vb.2 h.1)

pub off_valid : (a b : List (List ℕ)) → Valid 3 a → Valid 3 b → a ≢ b → Off (diff (air a) (air b))
off_valid a b va vb ne = go (diff (air a) (air b)) refl
  where
    go : (D : Diff) → diff (air a) (air b) ≡ D → Off D
    go (on t) e = ne (head_only 3 a b t va vb (diff_on (air a) (air b) t e))
    go (off p x) e = tt
