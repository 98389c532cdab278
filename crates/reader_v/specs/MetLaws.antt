-- Laws of the slots that are still to come. Assumes nothing.
use Rattle.std.specs.Prelude.{◌≡◌, refl, ℕ, suc, ◌+◌, Bool, true, false, cond, not, List, ◌∷◌, eqb}
use Rattle.std.proofs.Common.{sym, arith}
use Rattle.std.proofs.lemmas.List.Recursion.{is_position_or_len}
use Rattle.std.specs.List.{position_or_len}
use Rattle.reader_v.specs.Met.{first_met}

step : (x : ℕ) (m : List ℕ) → first_met (x ∷ m) ≡ cond (not (eqb x 0)) 0 (1 + first_met m)
unfolding first_met
step x m = go (eqb x 0)
  where
    go : (b : Bool) → cond b (suc (first_met m)) 0 ≡ cond (not b) 0 (1 + first_met m)
    go true = omega arith
    go false = refl

-- the first flag that is set, in the library's words
pub met_place : (m : List ℕ) → position_or_len (λ x. not (eqb x 0)) m ≡ first_met m
met_place m = sym (is_position_or_len first_met (λ x. not (eqb x 0)) (unfold first_met in refl) step m)
