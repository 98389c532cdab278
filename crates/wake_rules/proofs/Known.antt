-- A known UID level by level: the bits of its row up to a level, what SELECT sends of it, and what other rows have left of theirs after those
-- bits. Assumes nothing.
use mathlib.Core.Path.{◌≡◌, refl, sym, ap, ap₂, ◌∙◌}
use mathlib.Core.Logic.{◌≢◌}
use Prim.Native.Nat.{ℕ, suc, ◌+◌, ◌*◌, ◌≤◌, ◌<◌}
use native.Mathlib.Omega.{arith}
use mathlib.Core.Bool.{Bool, true, false, true≢false}
use mathlib.Core.Option.{none, some}
use mathlib.Core.List.{List, [], ◌++◌, map, append-nil}
use lib.ListN.{length, take, drop, get_or, length-append, take-append-drop, get_or-append}
use lib.Seq.{take-add, take_at, drop_at, take-take, take_all, length-take-le}
use Rattle.rows.specs.ListLaws.{is_nil_law, same_sound, same_eq}
use Rattle.rows.specs.Rows.{Bits, same}
use Rattle.frame.specs.ByteLaws.{bytes_bits, length_air_bits, bits_air_bits}
use Rattle.frame.specs.Frame.{air_bits, bytes_of}
use Rattle.uid.specs.CheckLaws.{Five}
use Rattle.uid.specs.LevelLaws.{wide, lev}
use Rattle.uid.specs.Order.{Diff, on, off, diff}
use Rattle.uid.specs.OrderLaws.{Off, diff_head}
use Rattle.uid.specs.StripLaws.{strip, shape, strip_sound, not_none}
use Rattle.uid.specs.Uid.{air, byte_count, uid_bytes, levels_of, levels, three_levels, row_of}
use Rattle.uid.specs.UidLaws.{Sound, length_row, lev_row, five_row, rows_off}
use Rattle.uid.specs.declared.Uid.{Uid}
use Rattle.uid.specs.declared.UidSize.{UidSize}
use Rattle.uid.specs.declared.UidSize.TheVariants.{Single, Double, Triple}

-- ---- UIDs of the same bytes have the same row

own_levels : (z : UidSize) (b : List ℕ) → length b ≡ 10 → levels_of z (take (byte_count z) b) ≡ levels_of z b
own_levels Single b ten = rw (take-take 4 4 b (omega arith))
own_levels Double b ten =
    let n : length (take 3 b) ≡ 3 = length-take-le 3 b (omega arith) in
    rw (take-add 3 4 b, take_at (take 3 b) (take 4 (drop 3 b)) 3 n, drop_at (take 3 b) (take 4 (drop 3 b)) 3 n, take-take 4 4 (drop 3 b) (omega arith))
own_levels Triple b ten = rw (take_all 10 b (omega arith))

same_size : (y z : UidSize) → byte_count y ≡ byte_count z → y ≡ z
same_size Single Single e = refl
same_size Single Double e = absurd (omega arith)
same_size Single Triple e = absurd (omega arith)
same_size Double Single e = absurd (omega arith)
same_size Double Double e = refl
same_size Double Triple e = absurd (omega arith)
same_size Triple Single e = absurd (omega arith)
same_size Triple Double e = absurd (omega arith)
same_size Triple Triple e = refl

most_bytes_law : (z : UidSize) → byte_count z ≤ 10
most_bytes_law Single = omega arith
most_bytes_law Double = omega arith
most_bytes_law Triple = omega arith

count_own : (u : Uid) → Sound u → length (uid_bytes u) ≡ byte_count u.size
unfolding uid_bytes
count_own u s = length-take-le (byte_count u.size) u.bytes (omega (arith, most_bytes_law u.size, s.ten))

pub same_row : (u v : Uid) → Sound u → Sound v → uid_bytes u ≡ uid_bytes v → row_of u ≡ row_of v
unfolding row_of levels uid_bytes
same_row u v s t e =
    let z : u.size ≡ v.size = same_size u.size v.size (sym (count_own u s) ∙ ap length e ∙ count_own v t) in
    ap (λ ls. air (map air_bits ls)) (sym (own_levels u.size u.bytes s.ten) ∙ ap₂ levels_of z e ∙ own_levels v.size v.bytes t.ten)

-- ---- the row up to level j

-- the bits of the levels before level j
unfoldable pub heads : Uid → ℕ → List ℕ
heads u j = take (40 * j) (row_of u)

module _ (u : Uid) (s : Sound u) where
  pub heads_next : (j : ℕ) → heads u j ++ lev j (row_of u) ≡ heads u (suc j)
  unfolding heads lev wide
  heads_next j = let e : 40 * suc j ≡ 40 * j + 40 = omega arith in sym (rw e (take-add (40 * j) 40 (row_of u)))

  pub heads_length : (j : ℕ) → j ≤ length (levels u) → length (heads u j) ≡ 40 * j
  unfolding heads
  heads_length j h = length-take-le (40 * j) (row_of u) (omega (arith, length_row u s))

  pub heads_all : heads u (length (levels u)) ≡ row_of u
  unfolding heads
  heads_all = take_all (40 * length (levels u)) (row_of u) (omega (arith, length_row u s))

  heads_rest : (j : ℕ) → row_of u ≡ heads u j ++ drop (40 * j) (row_of u)
  unfolding heads
  heads_rest j = sym (take-append-drop (40 * j) (row_of u))

  module _ (j : ℕ) (h : j < length (levels u)) where
    -- what SELECT sends of level j
    pub pick_five : get_or (three_levels u) j [] ≡ bytes_of 5 (lev j (row_of u))
    unfolding three_levels
    pick_five =
        let f : Five (get_or (levels u) j []) = five_row u s j h in
        get_or-append (levels u) _ [] j h
        ∙ sym (rw (lev_row u s j h) (ap (λ n. bytes_of n (air_bits (get_or (levels u) j []))) (sym f.full) ∙ bytes_bits _ f.fits))

    pub level_bits_law : Bits (lev j (row_of u))
    level_bits_law = rw (lev_row u s j h) (bits_air_bits (get_or (levels u) j []))

    pub level_full : length (lev j (row_of u)) ≡ 40
    level_full = rw (lev_row u s j h, length_air_bits, (five_row u s j h).full)

  -- ---- another row, after the bits of the levels before level j

  module _ (v : Uid) (t : Sound v) where
    -- of the same UID it begins with them
    pub own_left : uid_bytes v ≡ uid_bytes u → (j : ℕ) → strip (heads u j) (row_of v) ≢ none
    own_left e j n = not_none (heads u j) (drop (40 * j) (row_of u)) (row_of v) n (same_row v u t s e ∙ heads_rest j)

    off_none : (D : Diff) → Off D → shape D ≡ none
    unfolding shape
    off_none (on w) o = absurd o
    off_none (off p x) o = refl

    -- of another it does not begin with all
    pub other_left : uid_bytes v ≢ uid_bytes u → strip (heads u (length (levels u))) (row_of v) ≡ none
    unfolding strip
    other_left n = rw heads_all (off_none (diff (row_of u) (row_of v)) (rows_off u v s t (λ e. n (sym e))))

    -- none ends with them before u does
    pub more_left : (j : ℕ) → j < length (levels u) → strip (heads u j) (row_of v) ≢ some []
    more_left j h e = go (same (uid_bytes v) (uid_bytes u)) refl
      where
        is : row_of v ≡ heads u j
        is = strip_sound (heads u j) (row_of v) [] e ∙ append-nil (heads u j)

        go : (b : Bool) → same (uid_bytes v) (uid_bytes u) ≡ b → ⊥
        go true k = omega (arith, ap length is, heads_length j (omega arith), ap length (same_row v u t s (same_sound (uid_bytes v) (uid_bytes u) k)), length_row u s)
        go false k =
            let n : uid_bytes v ≢ uid_bytes u = λ q. true≢false (sym (same_eq (uid_bytes v) (uid_bytes u) q) ∙ k) in
            let q : diff (row_of v) (row_of u) ≡ on (drop (40 * j) (row_of u)) = ap (diff (row_of v)) (heads_rest j ∙ ap (λ r. r ++ drop (40 * j) (row_of u)) (sym is)) ∙ diff_head (row_of v) (drop (40 * j) (row_of u)) in
            rw q at (rows_off v u t s n)

    -- .. and at its end there is nothing left
    pub last_left : (w : List ℕ) → strip (heads u (length (levels u))) (row_of v) ≡ some w → w ≡ []
    last_left w e = go (same (uid_bytes v) (uid_bytes u)) refl
      where
        is : row_of v ≡ row_of u ++ w
        is = strip_sound (row_of u) (row_of v) w (rw heads_all at e)

        go : (b : Bool) → same (uid_bytes v) (uid_bytes u) ≡ b → w ≡ []
        go true k =
            is_nil_law w (omega (arith, ap length is, length-append (row_of u) w, ap length (same_row v u t s (same_sound (uid_bytes v) (uid_bytes u) k))))
        go false k =
            let n : uid_bytes v ≢ uid_bytes u = λ q. true≢false (sym (same_eq (uid_bytes v) (uid_bytes u) q) ∙ k) in
            let z : none ≡ some w = sym (other_left n) ∙ e in
            cc
