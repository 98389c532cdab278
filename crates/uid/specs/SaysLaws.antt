-- What the calls answer, in the numbers of document 01's table: which number is given when. Assumes nothing.
use Rattle.std.specs.Prelude.{◌≡◌, refl, ℕ, ◌-◌, ◌≤◌, ◌<◌, Bool, true, false, cond, not, ◌&&◌, ◌||◌, List, [], ◌∷◌, length, get_or, replicate, eqb, Result, Err}
use Rattle.std.proofs.Common.{ap, ◌∙◌, lt-ltb, le-ltb, eqb-true, arith}
use Rattle.std.proofs.Math.ListN.{get_or-append}
use Rattle.rows.specs.Rows.{fill}
use Rattle.refusal.specs.Refusal.{giving, declining, decline_if, made_says}
use Rattle.uid.specs.Uid.{valid, row_of}
use Rattle.uid.specs.Calls.{sized, checked, new_uid, valid_bytes, new_says, air_says}
use Rattle.uid.specs.declared.Uid.{Uid}
use Rattle.refusal.specs.declared.Refusal.{Refusal}
use Rattle.refusal.specs.declared.Refusal.TheVariants.{Argument}
use Rattle.uid.specs.declared.UidSize.TheVariants.{Single, Double, Triple}

-- ---- the on-air row: 1, "lent room shorter than asked", and only then

pub air_no_room : (room : ℕ) (u : Uid) → room < 120 → air_says room u ≡ declining 1
air_no_room room u h = rw (lt-ltb room 120 h)

pub air_has_room : (room : ℕ) (u : Uid) → 120 ≤ room → air_says room u ≡ giving (length (row_of u) ∷ [])
air_has_room room u h = rw (le-ltb room 120 h)

-- ---- a UID from bytes: 6, "invalid .. UID", and only then

checked_says_law : (u : Uid) (b : Bool) → valid u ≡ b → made_says (checked u) ≡ decline_if (not b) 6 (giving [])
unfolding checked
checked_says_law u true e = rw e
checked_says_law u false e = rw e

-- a byte of the UID stands where it was among the ten
fill_at_law : (l : List ℕ) (i : ℕ) → i < length l → get_or (fill 10 l) i 0 ≡ get_or l i 0
unfolding fill
fill_at_law l i h = get_or-append l (replicate (10 - length l) 0) 0 i h

pub new_says_law : (l : List ℕ) → made_says (new_uid l) ≡ new_says l
unfolding new_uid valid_bytes valid
new_says_law l = go (eqb (length l) 4) (eqb (length l) 7) (eqb (length l) 10) refl refl refl
  where
    u0 : Bool
    u0 = not (eqb (get_or l 0 0) 0x88)

    u3 : Bool
    u3 = not (eqb (get_or l 3 0) 0x88)

    alone : (b : Bool) → decline_if (not b) 6 (giving []) ≡ decline_if (not (b || false || false)) 6 (giving [])
    alone true = refl
    alone false = refl

    second : (b : Bool) → decline_if (not b) 6 (giving []) ≡ decline_if (not (b || false)) 6 (giving [])
    second true = refl
    second false = refl

    go : (a b c : Bool) → eqb (length l) 4 ≡ a → eqb (length l) 7 ≡ b → eqb (length l) 10 ≡ c
        → made_says (cond a (checked (sized Single l)) (cond b (checked (sized Double l)) (cond c (checked (sized Triple l)) (Err Argument))))
        ≡ decline_if (not (a && u0 || b && u3 || c)) 6 (giving [])
    go true true c e f g = absurd (omega (arith, eqb-true (length l) 4 e, eqb-true (length l) 7 f))
    go true false true e f g = absurd (omega (arith, eqb-true (length l) 4 e, eqb-true (length l) 10 g))
    go true false false e f g =
        checked_says_law (sized Single l) u0 (ap (λ x. not (eqb x 0x88)) (fill_at_law l 0 (omega (arith, eqb-true (length l) 4 e)))) ∙ alone u0
    go false true true e f g = absurd (omega (arith, eqb-true (length l) 7 f, eqb-true (length l) 10 g))
    go false true false e f g =
        checked_says_law (sized Double l) u3 (ap (λ x. not (eqb x 0x88)) (fill_at_law l 3 (omega (arith, eqb-true (length l) 7 f)))) ∙ second u3
    go false false true e f g = checked_says_law (sized Triple l) true refl
    go false false false e f g = refl

-- a UID that is made as the definition makes it says what the definition says
pub made_says_law : (l : List ℕ) (r : Result Uid Refusal) → r ≡ new_uid l → (r ≡ new_uid l) × (made_says r ≡ new_says l)
made_says_law l r e = (e, ap made_says e ∙ new_says_law l)
