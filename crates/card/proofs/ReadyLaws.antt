-- The rules of Ready and Ready* by what the tests of a frame told. Assumes nothing.
use Rattle.std.specs.Prelude.{◌≡◌, refl, ℕ, ◌+◌, ◌-◌, ◌≤◌, ◌<◌, min, Bool, true, false, cond, take, drop, get_or, ltb}
use Rattle.std.proofs.Common.{sym, ◌∙◌, length-drop, take_all, add-one, arith}
use mathlib.Core.List.{List, []}
use Rattle.std.proofs.Math.ListN.{length, get_or-append}
use borrow.Author.Tests.{ltb-true, lt-ltb, le-ltb}
use Rattle.rows.specs.ListLaws.{both}
use Rattle.rows.specs.Rows.{same}
use Rattle.frame.specs.Frame.{standard}
use Rattle.frame.proofs.FrameLaws.{length_standard}
use Rattle.uid.specs.Uid.{level_count, place, levels_of, levels, three_levels}
use Rattle.selection.specs.Selection.{cut, anticollision, others, select, sak_frame}
use Rattle.card.specs.Card.{Step, bits_sent, matching, home, ready_in, remain, sak, chosen, ready, rules}
use Rattle.card.proofs.RulesLaws.{rules_ready}
use Rattle.uid.specs.declared.Level.{Level}
use Rattle.uid.specs.declared.Level.TheVariants.{One, Two, Three}
use Rattle.uid.specs.declared.Uid.{Uid}
use Rattle.uid.specs.declared.UidSize.{UidSize}
use Rattle.uid.specs.declared.UidSize.TheVariants.{Single, Double, Triple}
use Rattle.card.specs.declared.Card.{Card}

-- ---- the level's number

count_of : (z : UidSize) (b : List ℕ) → length (levels_of z b) ≡ level_count z
count_of Single b = refl
count_of Double b = refl
count_of Triple b = refl

count_levels : (u : Uid) → length (levels u) ≡ level_count u.size
unfolding levels
count_levels u = count_of u.size u.bytes

pub place_most : (l : Level) → place l ≤ 2
place_most One = omega arith
place_most Two = omega arith
place_most Three = omega arith

pub remain_is : (c : Card) (l : Level) (p n : ℕ) → p ≡ place l → n ≡ level_count c.uid.size → ltb (p + 1) n ≡ remain c l
unfolding remain
remain_is c l p n e k = rw (e, k, add-one, count_levels c.uid)

-- ---- a level's bytes

module _ (c : Card) (w : Bool) (l : Level) (f : List ℕ) (p n : ℕ) (e : p ≡ place l) (k : n ≡ level_count c.uid.size) where
  pub level_step : (ls : List (List ℕ)) → ls ≡ three_levels c.uid → p < n → ready c w l (get_or ls p []) f ≡ rules c (ready_in w l) f
  unfolding three_levels
  level_step ls q h =
      let m : place l < length (levels c.uid) = omega (arith, count_levels c.uid) in
      rw (rules_ready c w l f, q, e, lt-ltb (place l) (length (levels c.uid)) m, get_or-append (levels c.uid) _ [] (place l) m)

  pub level_none : n ≤ p → ◌≡◌ {A = Step} (home w, []) (rules c (ready_in w l) f)
  level_none h = rw (rules_ready c w l f, le-ltb (place l) (length (levels c.uid)) (omega (arith, count_levels c.uid)))

-- ---- ANTICOLLISION and SELECT of a level

module _ (l : Level) (five f : List ℕ) (k : ℕ) (e : k ≡ bits_sent f) where
  pub match_told : k < 40 → same f (anticollision l k five) ≡ matching l five f
  match_told h = rw (← e, lt-ltb k 40 h)

  pub match_none : 40 ≤ k → false ≡ matching l five f
  match_none h = rw (← e, le-ltb k 40 h)

  pub match_few : (r : Bool) → r ≡ matching l five f → r ≡ true → k < 40
  match_few r m t = rw e (ltb-true (bits_sent f) 40 (both (ltb (bits_sent f) 40) (same f (anticollision l (bits_sent f) five)) (sym m ∙ t)).0)

-- the level's row behind the bits that were sent
pub rest_made : (k n : ℕ) (five row : List ℕ) → k < 40 → length five ≡ 5 → n ≡ min (cut k) 45 → row ≡ standard five → take (45 - n) (drop n row) ≡ others k five
unfolding others
rest_made k n five row h v e q =
    let m : n ≡ cut k = omega arith in
    rw (q, m, take_all (45 - cut k) (drop (cut k) (standard five)) (rw (length-drop, length_standard, v) (omega arith)))

pub ready_step : (c : Card) (w : Bool) (l : Level) (five f : List ℕ) {r : Bool} (m s : Bool) → r ≡ matching l five f → r ≡ m → same f (select l five) ≡ s
    → ◌≡◌ {A = Step} (cond m (ready_in w l, others (bits_sent f) five) (cond s (chosen c w l, sak_frame (sak c l)) (home w, []))) (ready c w l five f)
unfolding ready
ready_step c w l five f m s p e q = rw (sym p ∙ e, q)
