-- The sweep over rows of bits alone: a level, a selection and a sweep as functions, and what they ask of the rows. No definition of the
-- core cites this file. Assumes nothing.
use mathlib.Core.Path.{◌≡◌}
use Prim.Native.Nat.{ℕ, zero, suc, ◌+◌, ◌-◌, ◌*◌, ◌/◌}
use mathlib.Core.Bool.{true, cond}
use mathlib.Core.List.{List, [], ◌∷◌, ◌++◌, map}
use lib.ListN.{length, take}
use Rattle.rows.specs.Rows.{clean, next, is_nil, any, All}
use Rattle.uid.specs.LevelLaws.{wide}
use Rattle.uid.specs.Order.{insert_on, sort_on, Diff, on, off, diff, above, parts}
use Rattle.uid.specs.OrderLaws.{Off}
use Rattle.field.specs.Merge.{merge}

-- ---- rows that begin with what is known

-- what the rows that begin with P have left
unfoldable pub keep : Diff → List (List ℕ) → List (List ℕ)
keep (on t) l = t ∷ l
keep (off p x) l = l

unfoldable pub strips : List ℕ → List (List ℕ) → List (List ℕ)
strips P [] = []
strips P (r ∷ S) = keep (diff P r) (strips P S)

-- the rows that do not begin with P
unfoldable pub leave : Diff → List ℕ → List (List ℕ) → List (List ℕ)
leave (on t) r l = l
leave (off p x) r l = r ∷ l

unfoldable pub rest : List ℕ → List (List ℕ) → List (List ℕ)
rest P [] = []
rest P (r ∷ S) = leave (diff P r) r (rest P S)

-- what is heard of the next n bits
unfoldable pub heard : ℕ → List (List ℕ) → List ℕ
heard n T = merge (map (take n) T)

-- the first of the two rows comes first, or is the other's head
abbrev pub Up : Diff → Type 0
Up (on t) = Unit {0}
Up (off p x) = x ≡ 1

-- no row of S comes before P
abbrev pub Top : List ℕ → List (List ℕ) → Type 0
Top P S = All (λ r. Up (diff P r)) S

-- ---- a level, a selection, a sweep

-- the rest of a level of which n bits are open: its bits, and how many collisions it took.
-- T has what each card that is still in has left. f bounds the collisions.
unfoldable pub level : ℕ → ℕ → List (List ℕ) → List ℕ × ℕ
level zero n T = ([], 0)
level (suc f) n T =
    let R : List ℕ = next (heard n T) in
    let q : List ℕ × ℕ = level f (n - length R) (strips R T) in
    let more : List ℕ × ℕ = (R ++ q.0, suc q.1) in
    cond (clean (heard n T)) (R, 0) more

-- a selection: the row of the card, and the number of ANTICOLLISION and SELECT frames. L bounds the levels.
unfoldable pub select : ℕ → List (List ℕ) → List ℕ × ℕ
select zero T = ([], 0)
select (suc L) T =
    let q : List ℕ × ℕ = level wide wide T in
    let T' : List (List ℕ) = strips q.0 T in
    let s : List ℕ × ℕ = select L T' in
    let more : List ℕ × ℕ = (q.0 ++ s.0, 2 + q.1 + s.1) in
    cond (any is_nil T') (q.0, 2 + q.1) more

-- the sweep: the rows found, and the number of reader frames. n bounds the cards.
unfoldable pub sweep : ℕ → List (List ℕ) → List (List ℕ) × ℕ
sweep zero S = ([], 1)
sweep (suc n) [] = ([], 1)
sweep (suc n) (r ∷ S) =
    let s : List ℕ × ℕ = select 3 (r ∷ S) in
    let w : List (List ℕ) × ℕ = sweep n (rest s.0 (r ∷ S)) in
    (s.0 ∷ w.0, 2 + s.1 + w.1)

-- ---- falling order of rows

abbrev pub insert : List ℕ → List (List ℕ) → List (List ℕ)
insert r l = insert_on (λ s. s) r l

abbrev pub sort : List (List ℕ) → List (List ℕ)
sort S = sort_on (λ s. s) S

unfoldable pub levels : List ℕ → ℕ
levels r = length r / wide

-- the reader frames of a sweep that finds these rows in this order
unfoldable pub frames : List (List ℕ) → ℕ
frames [] = 1
frames (r ∷ l) = 2 + 2 * levels r + parts r l + frames l

-- ---- what a sweep asks of the rows

-- no row is another's head: so they are distinct too
abbrev pub Apart : List (List ℕ) → Type 0
Apart [] = Unit {0}
Apart (r ∷ S) = All (λ s. Off (diff r s) × Off (diff s r)) S × Apart S

-- each row comes before all later ones
abbrev pub Falling : List (List ℕ) → Type 0
Falling [] = Unit {0}
Falling (r ∷ l) = All (λ s. above r s ≡ true) l × Falling l
