-- What a row has left after the bits W, if it begins with them. Assumes nothing.
use Rattle.std.specs.Prelude.{◌≡◌, ◌≢◌, ℕ, List, [], ◌∷◌, ◌++◌}
use Rattle.std.proofs.Math.Path.{refl}
use Rattle.std.proofs.Common.{ap, ◌∙◌, sym, arith}
use Rattle.std.proofs.Math.Option.{Option, none, some}
use Rattle.uid.specs.Order.{Diff, on, off, later, diff}
use Rattle.uid.specs.OrderLaws.{lead, from, diff_cons, diff_on, lead_same}

-- what a row has left after W, if it begins with W
unfoldable pub shape : Diff → Option (List ℕ)
shape (on t) = some t
shape (off p x) = none

unfoldable pub strip : List ℕ → List ℕ → Option (List ℕ)
strip W r = shape (diff W r)

unfoldable pub and_then : Option (List ℕ) → List ℕ → Option (List ℕ)
and_then (some t) Y = strip Y t
and_then none Y = none

shape_later : (D : Diff) → shape (later D) ≡ shape D
unfolding shape later
shape_later (on t) = refl
shape_later (off p x) = refl

strip_cons : (x : ℕ) (W r : List ℕ) → strip (x ∷ W) r ≡ and_then (lead x r) W
unfolding strip and_then shape from
strip_cons x W r = rw diff_cons (go (lead x r))
  where
    go : (o : Option (List ℕ)) → shape (from x W o) ≡ and_then o W
    go (some t) = shape_later (diff W t)
    go none = refl

pub strip_append : (W Y r : List ℕ) → strip (W ++ Y) r ≡ and_then (strip W r) Y
unfolding and_then
strip_append [] Y r = unfold strip diff shape in refl
strip_append (x ∷ W) Y r = rw (strip_cons x (W ++ Y) r, strip_cons x W r) (go (lead x r) (strip_append W Y))
  where
    go : (o : Option (List ℕ)) → ((t : List ℕ) → strip (W ++ Y) t ≡ and_then (strip W t) Y) → and_then o (W ++ Y) ≡ and_then (and_then o W) Y
    go (some t) ih = ih t
    go none ih = refl

pub strip_sound : (W r t : List ℕ) → strip W r ≡ some t → r ≡ W ++ t
unfolding strip shape
strip_sound W r t e = go (diff W r) refl e
  where
    go : (D : Diff) → diff W r ≡ D → shape D ≡ some t → r ≡ W ++ t
    go (on u) d e = diff_on W r t (d ∙ cc)
    go (off p x) d e = cc

-- a row that begins with W
strip_on : (W t : List ℕ) → strip W (W ++ t) ≡ some t
unfolding and_then
strip_on [] t = unfold strip shape diff in refl
strip_on (x ∷ W) t = rw (strip_cons x W (x ∷ (W ++ t)), lead_same x (W ++ t)) (strip_on W t)

pub not_none : (W t r : List ℕ) → strip W r ≡ none → r ≢ W ++ t
not_none W t r e h = let z : some t ≡ none = sym (strip_on W t) ∙ ap (strip W) (sym h) ∙ e in let o : ◌≡◌ {A = ℕ} 0 1 = cc in omega arith
