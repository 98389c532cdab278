-- One bit at a time: what `strips` and `parts` of a row x ∷ P are by the first bits of the other rows. Assumes nothing.
use mathlib.Core.Path.{◌≡◌, refl, ap, ap₂, ◌∙◌}
use Prim.Native.Nat.{ℕ, suc, ◌+◌}
use mathlib.Core.Bool.{Bool, true, false, ◌||◌}
use mathlib.Core.Option.{Option, none, some}
use mathlib.Core.List.{List, [], ◌∷◌, ◌++◌}
use lib.ListN.{length}
use lib.Dec.{eqb-suc-zero, eqb-zero-suc, eqb-suc-suc}
use native.Mathlib.Omega.{arith}
use Rattle.rows.specs.Rows.{any}
use Rattle.uid.specs.Order.{Diff, on, off, later, diff, one, count, parts_at, parts}
use Rattle.uid.specs.OrderLaws.{lead, from, diff_cons}
use Rattle.uid.specs.PartsLaws.{count_cong}
use Rattle.sweep_rules.proofs.Abstract.{keep, strips}

-- the rows with a first bit x, without it
unfoldable pub put : Option (List ℕ) → List (List ℕ) → List (List ℕ)
put (some t) l = t ∷ l
put none l = l

unfoldable pub pull : ℕ → List (List ℕ) → List (List ℕ)
unfolding put lead
pull x [] = []
pull x (r ∷ S) = put (lead x r) (pull x S)

unfoldable pub out : Option (List ℕ) → Bool
out (some t) = false
out none = true

-- a row with another first bit, or with none
unfoldable pub miss : ℕ → List (List ℕ) → Bool
unfolding any out lead
miss x S = any (λ r. out (lead x r)) S

keep_later : (D : Diff) (l : List (List ℕ)) → keep (later D) l ≡ keep D l
unfolding keep later
keep_later (on t) l = refl
keep_later (off p x) l = refl

pub strips_nil : (S : List (List ℕ)) → strips [] S ≡ S
unfolding strips keep diff
strips_nil [] = refl
strips_nil (r ∷ S) = ap (λ l. r ∷ l) (strips_nil S)

pub strips_cons : (x : ℕ) (P : List ℕ) (S : List (List ℕ)) → strips (x ∷ P) S ≡ strips P (pull x S)
unfolding strips pull from put keep later diff
strips_cons x P [] = refl
strips_cons x P (r ∷ S) = rw diff_cons (go (lead x r) (strips_cons x P S))
  where
    go : (o : Option (List ℕ)) {A : List (List ℕ)} → A ≡ strips P (pull x S) → keep (from x P o) A ≡ strips P (put o (pull x S))
    go (some t) e = keep_later (diff P t) _ ∙ ap (keep (diff P t)) e
    go none e = e

pub strips_append : (P Q : List ℕ) (S : List (List ℕ)) → strips (P ++ Q) S ≡ strips Q (strips P S)
strips_append [] Q S = rw strips_nil
strips_append (x ∷ P) Q S = rw (strips_cons x (P ++ Q) S, strips_cons x P S, strips_append P Q (pull x S))

-- ---- counting

parts_here : (x : ℕ) (P : List ℕ) (S : List (List ℕ)) → any (λ r. parts_at 0 (diff (x ∷ P) r)) S ≡ miss x S
unfolding any miss parts_at later from out
parts_here x P [] = refl
parts_here x P (r ∷ S) = rw diff_cons (ap₂ ◌||◌ (go (lead x r)) (parts_here x P S))
  where
    go₂ : (D : Diff) → parts_at 0 (later D) ≡ false
    go₂ (on t) = refl
    go₂ (off p y) = eqb-suc-zero p

    go : (o : Option (List ℕ)) → parts_at 0 (from x P o) ≡ out o
    go (some t) = go₂ (diff P t)
    go none = refl

pub parts_later : (x : ℕ) (P : List ℕ) (q : ℕ) (S : List (List ℕ)) → any (λ r. parts_at (suc q) (diff (x ∷ P) r)) S ≡ any (λ r. parts_at q (diff P r)) (pull x S)
unfolding any pull parts_at later from put
parts_later x P q [] = refl
parts_later x P q (r ∷ S) = rw diff_cons (go (lead x r) (parts_later x P q S))
  where
    go₂ : (D : Diff) → parts_at (suc q) (later D) ≡ parts_at q D
    go₂ (on t) = refl
    go₂ (off p y) = eqb-suc-suc p q

    go : (o : Option (List ℕ)) {b : Bool} → b ≡ any (λ r. parts_at q (diff P r)) (pull x S)
        → (parts_at (suc q) (from x P o) || b) ≡ any (λ r. parts_at q (diff P r)) (put o (pull x S))
    go (some t) e = ap₂ ◌||◌ (go₂ (diff P t)) e
    go none e = rw eqb-zero-suc e

pub parts_cons : (x : ℕ) (P : List ℕ) (S : List (List ℕ)) → parts (x ∷ P) S ≡ one (miss x S) + parts P (pull x S)
unfolding parts count
parts_cons x P S = ap₂ (λ b k. one b + k) (parts_here x P S) (count_cong (length P) (λ q l. parts_later x P q S))

pub parts_append : (P Q : List ℕ) (S : List (List ℕ)) → parts (P ++ Q) S ≡ parts P S + parts Q (strips P S)
unfolding parts count
parts_append [] Q S = rw strips_nil (omega arith)
parts_append (x ∷ P) Q S = rw (parts_cons x (P ++ Q) S, parts_cons x P S, strips_cons x P S, parts_append P Q (pull x S)) (omega arith)
