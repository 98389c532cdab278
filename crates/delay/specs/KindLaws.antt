-- What the code of the judge finds in a row is what `Kind` says of it. Assumes nothing.
use Rattle.std.specs.Prelude.{◌≡◌, ℕ, ◌-◌, ◌%◌, ◌<◌, ◌≤◌, Bool, true, false, cond, ◌&&◌, List, [], ◌∷◌, length, take, drop, ◌==◌, ◌≢◌, nat_lt, slice_index}
use Rattle.std.proofs.Math.Path.{refl}
use Rattle.std.proofs.Common.{sym, ap, ◌∙◌, true≢false, arith, length-drop, drop_of_length-le, drop-drop, take_all, eq-eqb, ne_eqb}
use Rattle.rows.specs.Rows.{clean, same, Bits}
use Rattle.rows.specs.CleanLaws.{bits_clean}
use Rattle.rows.specs.ListLaws.{same_ne, all_append, all_take_law}
use Rattle.parity.specs.Bits.{unbits}
use Rattle.frame.specs.Frame.{standard}
use Rattle.frame.proofs.FrameLaws.{bits_standard}
use Rattle.uid.specs.declared.Level.{Level}
use Rattle.uid.specs.declared.Level.TheVariants.{One, Two, Three}
use Rattle.selection.specs.Selection.{sel, nvb, cut, anticollision, select}
use Rattle.card.specs.Card.{bits_sent, matching}
use Rattle.delay.specs.declared.Kind.TheVariants.{Anticollision, Select, Other}
use Rattle.delay.specs.Kind.{bytes_in, five_of, is_anticollision, is_select, level_kind, after_one}

-- ---- the last data bit

pub after_none : (f : List ℕ) → length f ≡ 0 → false ≡ after_one f
unfolding after_one
after_none [] h = refl
after_none (x ∷ f) h = absurd (omega arith)

module _ (f : List ℕ) where
  pub after_whole : length f % 9 ≡ 0 → (slice_index f (length f - 2) == 1) ≡ after_one f
  unfolding after_one
  after_whole h = rw (eq-eqb (length f % 9) 0 h)

  pub after_broken : (length f % 9 ≢ 0) → (slice_index f (length f - 1) == 1) ≡ after_one f
  unfolding after_one
  after_broken h = rw (ne_eqb (length f % 9) 0 h)

-- ---- the five bytes

pub byte_none : (f : List ℕ) (at : ℕ) → length f ≤ at → 0 ≡ unbits (take 8 (drop at f))
unfolding unbits
byte_none f at h = rw (drop_of_length-le f h)

pub byte_part : (f : List ℕ) (at : ℕ) → length f - at < 8 → unbits (take (length f - at) (drop at f)) ≡ unbits (take 8 (drop at f))
byte_part f at h =
    rw (take_all (length f - at) (drop at f) (rw length-drop (omega arith)), take_all 8 (drop at f) (rw length-drop (omega arith)))

pub five_is : (f : List ℕ) → five_of f
    ≡ unbits (take 8 (drop 18 f)) ∷ unbits (take 8 (drop 27 f)) ∷ unbits (take 8 (drop 36 f)) ∷ unbits (take 8 (drop 45 f)) ∷ unbits (take 8 (drop 54 f)) ∷ []
unfolding five_of bytes_in
five_is f =
    let b : drop 9 (drop 18 f) ≡ drop 27 f = drop-drop 9 18 f in
    let c : drop 9 (drop 27 f) ≡ drop 36 f = drop-drop 9 27 f in
    let d : drop 9 (drop 36 f) ≡ drop 45 f = drop-drop 9 36 f in
    let e : drop 9 (drop 45 f) ≡ drop 54 f = drop-drop 9 45 f in
    rw (b, c, d, e)

-- ---- the kind

pub level_kind_law : (f five : List ℕ) {a s : Bool} → five ≡ five_of f → is_anticollision five f ≡ a → is_select five f ≡ s → level_kind f ≡ cond a Anticollision (cond s Select Other)
unfolding level_kind
level_kind_law f five e x y = rw (← e, x, y)

-- no frame that is sent has a collided bit
module _ (f : List ℕ) (u : clean f ≡ false) where
  unlike : (g : List ℕ) → Bits g → same f g ≡ false
  unlike g b = same_ne f g (λ e. true≢false (sym (bits_clean g b) ∙ ap clean (sym e) ∙ u))

  not_matching : (l : Level) (five : List ℕ) → matching l five f ≡ false
  unfolding anticollision
  not_matching l five =
      let H : List ℕ = sel l ∷ nvb (bits_sent f) ∷ [] in
      rw (unlike (anticollision l (bits_sent f) five) (all_append (λ x. x < 2) (standard H) _ (bits_standard H) (all_take_law (λ x. x < 2) (cut (bits_sent f)) (standard five) (bits_standard five)))) (go (nat_lt (bits_sent f) 40))
    where
      go : (b : Bool) → (b && false) ≡ false
      go true = refl
      go false = refl

  not_select : (l : Level) (five : List ℕ) → same f (select l five) ≡ false
  unfolding select
  not_select l five = unlike (select l five) (bits_standard _)

  pub collided_other : level_kind f ≡ Other
  unfolding level_kind is_anticollision is_select
  collided_other =
      let five : List ℕ = five_of f in
      rw (not_matching One five, not_matching Two five, not_matching Three five, not_select One five, not_select Two five, not_select Three five)
