-- What all rows have left after the bits that are known, by what each has left. Assumes nothing.
use mathlib.Core.Path.{◌≡◌, refl, ap}
use Prim.Native.Nat.{ℕ}
use mathlib.Core.Option.{Option, none, some}
use mathlib.Core.List.{List, [], ◌∷◌, map}
use native.Mathlib.Omega.{arith}
use Rattle.rows.specs.Rows.{All}
use Rattle.uid.specs.Order.{Diff, on, off, diff}
use Rattle.uid.specs.StripLaws.{strip, shape}
use Rattle.field.specs.Merge.{join, merge}
use Rattle.sweep_rules.proofs.Abstract.{keep, strips}
use Rattle.sweep_rules.proofs.First.{put}

pub strips_put : (W r : List ℕ) (S : List (List ℕ)) → strips W (r ∷ S) ≡ put (strip W r) (strips W S)
unfolding strips strip shape keep put
strips_put W r S = go (diff W r)
  where
    go : (D : Diff) → keep D (strips W S) ≡ put (shape D) (strips W S)
    go (on t) = refl
    go (off p x) = refl

-- rows that do not begin with W are silent
pub merge_strips : (O : Option (List ℕ) → List ℕ) (W : List ℕ) (S : List (List ℕ)) → O none ≡ [] → merge (map (λ r. O (strip W r)) S) ≡ merge (map (λ v. O (some v)) (strips W S))
unfolding merge join put
merge_strips O W [] h = unfold strips in refl
merge_strips O W (r ∷ S) h = rw strips_put (go (strip W r) (merge_strips O W S h))
  where
    go : (o : Option (List ℕ)) → merge (map (λ r. O (strip W r)) S) ≡ merge (map (λ v. O (some v)) (strips W S))
        → join (O o) (merge (map (λ r. O (strip W r)) S)) ≡ merge (map (λ v. O (some v)) (put o (strips W S)))
    go (some v) e = ap (join (O (some v))) e
    go none e = rw h e

-- what holds of all that is left holds of what each row has left
pub all_unstrips : (G : List ℕ → Type 0) (W : List ℕ) (S : List (List ℕ)) → All G (strips W S) → All (λ r. (v : List ℕ) → strip W r ≡ some v → G v) S
unfolding put
all_unstrips G W [] h = tt
all_unstrips G W (r ∷ S) h = go (strip W r) (rw strips_put at h) (all_unstrips G W S)
  where
    go : (o : Option (List ℕ)) → All G (put o (strips W S)) → (All G (strips W S) → All (λ r. (v : List ℕ) → strip W r ≡ some v → G v) S)
        → ((v : List ℕ) → o ≡ some v → G v) × All (λ r. (v : List ℕ) → strip W r ≡ some v → G v) S
    go (some t) h ih = (λ v e. let e' : t ≡ v = cc in rw e' at h.0, ih h.1)
    go none h ih = (λ v e. let z : ◌≡◌ {A = ℕ} 0 1 = cc in absurd (omega arith), ih h)
