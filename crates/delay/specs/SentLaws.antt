-- T-09: the judge takes each frame that a reader sends in a selection for what it is, and takes no other row for one of them. Assumes nothing.
use Rattle.std.specs.Prelude.{◌≡◌, ℕ, zero, suc, ◌+◌, ◌-◌, ◌<◌, ◌≤◌, Bool, true, false, cond, ◌||◌, List, [], ◌∷◌, ◌++◌, length, take, drop, nat_lt}
use Rattle.std.proofs.Math.Path.{refl, ap}
use Rattle.std.proofs.Common.{sym, ◌∙◌, take-append-drop, drop_at}
use mathlib.Core.List.{append_assoc}
use native.Mathlib.Omega.{arith}
use Rattle.std.proofs.Math.ListN.{length-take, drop_of_length-le}
use Rattle.std.proofs.Math.Seq.{take-append-le, take-append-add}
use borrow.Author.Tests.{ltb-true, ltb-false, lt-ltb, le-ltb}
use Rattle.rows.specs.Rows.{same, Bytes}
use Rattle.rows.specs.ListLaws.{both, same_eq, same_sound, same_length, all_take_law}
use Rattle.parity.specs.Bits.{bits_of, unbits, odd}
use Rattle.parity.specs.BitLaws.{length_bits, unbits_bits}
use Rattle.crc.specs.Crc.{with_crc, crc_bytes}
use Rattle.frame.specs.Frame.{short, air_byte, standard, air_bits, bytes_of}
use Rattle.frame.proofs.FrameLaws.{length_standard, standard_append}
use Rattle.frame.specs.ByteLaws.{bits_air_bits, length_air_bits}
use Rattle.uid.specs.declared.Level.{Level}
use Rattle.uid.specs.declared.Level.TheVariants.{One, Two, Three}
use Rattle.selection.specs.Selection.{reqa, wupa, sel, nvb, cut, anticollision, select}
use Rattle.selection.specs.SelectionLaws.{length_reqa, length_wupa, length_anti, length_select, anti_same}
use Rattle.card.specs.Card.{bits_sent, matching}
use Rattle.card.proofs.WrongLaws.{bits_sent_law}
use Rattle.delay.specs.declared.Kind.{Kind}
use Rattle.delay.specs.declared.Kind.TheVariants.{Reqa, Wupa, Anticollision, Select, Other}
use Rattle.delay.specs.Kind.{bytes_in, five_of, is_anticollision, is_select, level_kind, kind_of}

-- ---- the bytes that stand in a row

none_in : (n : ℕ) → bytes_in n [] ≡ bytes_of n []
unfolding bytes_in bytes_of
none_in zero = refl
none_in (suc n) = ap (λ l. unbits [] ∷ l) (none_in n)

-- a byte at the front of a row, with parity and without
rest_air : (b n : ℕ) (r : List ℕ) → bytes_in (suc n) (air_byte b ++ r) ≡ unbits (bits_of 8 b) ∷ bytes_in n r
unfolding air_byte bits_of bytes_in
rest_air b n r = refl

rest_bits : (b n : ℕ) (r : List ℕ) → bytes_of (suc n) (bits_of 8 b ++ r) ≡ unbits (bits_of 8 b) ∷ bytes_of n r
unfolding bits_of bytes_of
rest_bits b n r = refl

length_air : (b : ℕ) → length (air_byte b) ≡ 9
unfolding air_byte bits_of
length_air b = refl

-- bytes that a row has whole
whole_in : (l r : List ℕ) → Bytes l → bytes_in (length l) (standard l ++ r) ≡ l
unfolding standard bytes_in
whole_in [] r h = refl
whole_in (b ∷ l) r h = rw (append_assoc (air_byte b) (standard l) r, rest_air b (length l) (standard l ++ r), unbits_bits 8 b h.0, whole_in l r h.1)

-- .. and as far as k of their bits go
module _ (b n k : ℕ) (S A : List ℕ) where
  few : k < 8 → bytes_in (suc n) (take (cut k) (air_byte b ++ S)) ≡ bytes_of (suc n) (take k (bits_of 8 b ++ A))
  unfolding air_byte bytes_in bytes_of
  few h =
      let c : cut k ≡ k = omega arith in
      let o : List ℕ = odd (bits_of 8 b) ∷ [] in
      let s : List ℕ = take k (bits_of 8 b) in
      let e : length (bits_of 8 b) ≡ 8 = length_bits 8 b in
      let m : length s ≤ 8 = rw length-take (omega arith) in
      rw (
        c,
        append_assoc (bits_of 8 b) o S,
        take-append-le k (bits_of 8 b) (o ++ S) (omega arith),
        take-append-le k (bits_of 8 b) A (omega arith),
        drop_of_length-le s {i = 9} (omega arith),
        drop_of_length-le s {i = 8} m,
      )
      (ap (λ t. unbits (take 8 s) ∷ t) (none_in n))

  more : 8 ≤ k → bytes_in n (take (cut (k - 8)) S) ≡ bytes_of n (take (k - 8) A) → bytes_in (suc n) (take (cut k) (air_byte b ++ S)) ≡ bytes_of (suc n) (take k (bits_of 8 b ++ A))
  more h ih =
      let c : cut k ≡ length (air_byte b) + cut (k - 8) = omega (arith, length_air b) in
      let j : k ≡ length (bits_of 8 b) + (k - 8) = omega (arith, length_bits 8 b) in
      ap (λ i. bytes_in (suc n) (take i (air_byte b ++ S))) c
      ∙ ap (bytes_in (suc n)) (take-append-add (air_byte b) S (cut (k - 8)))
      ∙ rest_air b n (take (cut (k - 8)) S)
      ∙ ap (λ t. unbits (bits_of 8 b) ∷ t) ih
      ∙ sym (rest_bits b n (take (k - 8) A))
      ∙ ap (bytes_of (suc n)) (sym (take-append-add (bits_of 8 b) A (k - 8)))
      ∙ ap (λ i. bytes_of (suc n) (take i (bits_of 8 b ++ A))) (sym j)

cut_in : (l : List ℕ) (k : ℕ) → bytes_in (length l) (take (cut k) (standard l)) ≡ bytes_of (length l) (take k (air_bits l))
unfolding standard air_bits bytes_in bytes_of
cut_in [] k = refl
cut_in (b ∷ l) k = go (nat_lt k 8) refl (cut_in l (k - 8))
  where
    go : (t : Bool) → nat_lt k 8 ≡ t → bytes_in (length l) (take (cut (k - 8)) (standard l)) ≡ bytes_of (length l) (take (k - 8) (air_bits l))
        → bytes_in (suc (length l)) (take (cut k) (air_byte b ++ standard l)) ≡ bytes_of (suc (length l)) (take k (bits_of 8 b ++ air_bits l))
    go true e ih = few b (length l) k (standard l) (air_bits l) (ltb-true k 8 e)
    go false e ih = more b (length l) k (standard l) (air_bits l) (ltb-false k 8 e) ih

-- ---- each frame is taken for what it is

some_level : (t : Level → Bool) (l : Level) → t l ≡ true → (t One || (t Two || t Three)) ≡ true
some_level t One e = rw e
some_level t Two e = rw e (go (t One))
  where
    go : (b : Bool) → (b || true) ≡ true
    go true = refl
    go false = refl
some_level t Three e = rw e (go (t One) (t Two))
  where
    go : (b c : Bool) → (b || (c || true)) ≡ true
    go true c = refl
    go false true = refl
    go false false = refl

pub kind_reqa : kind_of reqa ≡ Reqa
unfolding kind_of
kind_reqa = rw (same_eq reqa reqa refl)

pub kind_wupa : kind_of wupa ≡ Wupa
unfolding kind_of reqa wupa same short bits_of
kind_wupa = refl

-- a row of another length than 7 is no short frame
long_kind : (f : List ℕ) → 7 < length f → kind_of f ≡ level_kind f
unfolding kind_of
long_kind f h = rw (same_length f reqa (λ e. omega (arith, length_reqa)), same_length f wupa (λ e. omega (arith, length_wupa)))

module _ (l : Level) (five : List ℕ) (h : length five ≡ 5) where
  module _ (k : ℕ) (m : k < 40) where
    abbrev frame : List ℕ
    frame = anticollision l k five

    length_frame : length frame ≡ 18 + cut k
    length_frame = length_anti l k five h (omega arith)

    five_frame : five_of frame ≡ bytes_of 5 (take k (air_bits five))
    unfolding five_of anticollision
    five_frame =
        ap (bytes_in 5) (drop_at (standard (sel l ∷ nvb k ∷ [])) (take (cut k) (standard five)) 18 (length_standard (sel l ∷ nvb k ∷ [])))
        ∙ rw h at (cut_in five k)

    again : anticollision l k (five_of frame) ≡ frame
    again =
        let K : List ℕ = take k (air_bits five) in
        let n : length K ≡ k = rw (length-take, length_air_bits five, h) (omega arith) in
        ap (anticollision l k) five_frame
        ∙ rw n at (anti_same l five K h (all_take_law (λ x. x < 2) k (air_bits five) (bits_air_bits five)) (omega arith) (drop k (air_bits five)) (sym (take-append-drop k (air_bits five))))

    pub kind_anticollision : kind_of (anticollision l k five) ≡ Anticollision
    unfolding level_kind is_anticollision
    kind_anticollision =
        let b : bits_sent frame ≡ k = bits_sent_law frame k length_frame in
        let t : matching l (five_of frame) frame ≡ true = rw (b, lt-ltb k 40 m) (same_eq frame (anticollision l k (five_of frame)) (sym again)) in
        long_kind frame (omega (arith, length_frame)) ∙ rw (some_level (λ v. matching v (five_of frame) frame) l t)

  module _ (b : Bytes five) where
    abbrev row : List ℕ
    row = select l five

    five_row : five_of row ≡ five
    unfolding five_of select with_crc
    five_row =
        let H : List ℕ = sel l ∷ 0x70 ∷ [] in
        let C : List ℕ = crc_bytes (sel l ∷ 0x70 ∷ five) in
        ap (λ r. bytes_in 5 (drop 18 r)) (standard_append H (five ++ C) ∙ ap (λ r. standard H ++ r) (standard_append five C))
        ∙ ap (bytes_in 5) (drop_at (standard H) (standard five ++ standard C) 18 (length_standard H))
        ∙ rw h at (whole_in five (standard C) b)

    pub kind_select : kind_of (select l five) ≡ Select
    unfolding level_kind is_anticollision is_select
    kind_select =
        let n : length row ≡ 81 = length_select l five h in
        let t : same row (select l (five_of row)) ≡ true = same_eq row (select l (five_of row)) (ap (select l) (sym five_row)) in
        let no : (v : Level) → matching v (five_of row) row ≡ false = λ v. rw (le-ltb (bits_sent row) 40 (omega arith)) in
        long_kind row (omega arith) ∙ rw (no One, no Two, no Three, some_level (λ v. same row (select v (five_of row))) l t)

-- ---- and nothing else is

-- the frame of some level with some bytes
pub record OfLevel (F : Level → List ℕ) (f : List ℕ) : Type 0 where
  pub level : Level
  pub is : f ≡ F level

which_level : (t : Level → Bool) (F : Level → List ℕ) (f : List ℕ) → ((l : Level) → t l ≡ true → f ≡ F l) → (t One || (t Two || t Three)) ≡ true → OfLevel F f
which_level t F f g e = go (t One) refl (t Two) refl e
  where
    go : (a : Bool) → t One ≡ a → (b : Bool) → t Two ≡ b → (a || (b || t Three)) ≡ true → OfLevel F f
    go true x b y e = record { level = One; is = g One x }
    go false x true y e = record { level = Two; is = g Two y }
    go false x false y e = record { level = Three; is = g Three e }

-- what the tests say, by the kind that comes of them
kind_tells : (a b c d : Bool) (k : Kind) → cond a Reqa (cond b Wupa (cond c Anticollision (cond d Select Other))) ≡ k
    → (k ≡ Reqa → a ≡ true) × (k ≡ Wupa → b ≡ true) × (k ≡ Anticollision → c ≡ true) × (k ≡ Select → d ≡ true)
kind_tells true b c d k e = (λ q. refl, λ q. cc, λ q. cc, λ q. cc)
kind_tells false true c d k e = (λ q. cc, λ q. refl, λ q. cc, λ q. cc)
kind_tells false false true d k e = (λ q. cc, λ q. cc, λ q. refl, λ q. cc)
kind_tells false false false true k e = (λ q. cc, λ q. cc, λ q. cc, λ q. refl)
kind_tells false false false false k e = (λ q. cc, λ q. cc, λ q. cc, λ q. cc)

module _ (f : List ℕ) where
  tells : (kind_of f ≡ Reqa → same f reqa ≡ true) × (kind_of f ≡ Wupa → same f wupa ≡ true) × (kind_of f ≡ Anticollision → is_anticollision (five_of f) f ≡ true)
      × (kind_of f ≡ Select → is_select (five_of f) f ≡ true)
  unfolding kind_of level_kind
  tells = kind_tells (same f reqa) (same f wupa) (is_anticollision (five_of f) f) (is_select (five_of f) f) (kind_of f) refl

  pub only_reqa : kind_of f ≡ Reqa → f ≡ reqa
  only_reqa e = same_sound f reqa (tells.0 e)

  pub only_wupa : kind_of f ≡ Wupa → f ≡ wupa
  only_wupa e = same_sound f wupa (tells.1 e)

  pub only_anticollision : kind_of f ≡ Anticollision → OfLevel (λ l. anticollision l (bits_sent f) (five_of f)) f
  unfolding is_anticollision
  only_anticollision e =
      let t : (l : Level) → matching l (five_of f) f ≡ true → (nat_lt (bits_sent f) 40 ≡ true) × (same f (anticollision l (bits_sent f) (five_of f)) ≡ true) =
      λ l m. both (nat_lt (bits_sent f) 40) (same f (anticollision l (bits_sent f) (five_of f))) m in
      which_level (λ l. matching l (five_of f) f) (λ l. anticollision l (bits_sent f) (five_of f)) f (λ l m. same_sound f (anticollision l (bits_sent f) (five_of f)) (t l m).1) (tells.2 e)

  pub only_select : kind_of f ≡ Select → OfLevel (λ l. select l (five_of f)) f
  unfolding is_select
  only_select e = which_level (λ l. same f (select l (five_of f))) (λ l. select l (five_of f)) f (λ l m. same_sound f (select l (five_of f)) m) (tells.3 e)
