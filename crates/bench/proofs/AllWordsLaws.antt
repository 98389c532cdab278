-- The list of all words and the words one by one: the k-th of the list is the word at k. Assumes nothing.
use Rattle.std.specs.Prelude.{◌≡◌, refl, ℕ, zero, suc, Bool, true, false, List, [], ◌∷◌, length, get_or, eqb, not}
use Rattle.std.specs.List.{slice_split, filter}
use Rattle.std.proofs.Math.Dec.{eqb-suc-zero}
use Rattle.bench.specs.Words.{after_gap, first_run, after_run, word_at, words_of}

-- what stands between spaces, empty parts too
abbrev parts : List ℕ → List (List ℕ)
parts l = slice_split (λ b. eqb b 32) l

-- the parts behind the first space; none where there is no space
abbrev parts_behind : List ℕ → List (List ℕ)
parts_behind [] = []
parts_behind (x ∷ l) = parts l

-- without the empty ones
abbrev filled : List (List ℕ) → List (List ℕ)
filled ps = filter (λ w. not (eqb (length w) 0)) ps

-- the first part is what stands before the first space
parts_run : (l : List ℕ) → parts l ≡ first_run l ∷ parts_behind (after_run l)
unfolding first_run after_run
parts_run [] = refl
parts_run (x ∷ l) = go (eqb x 32) refl (parts_run l)
  where
    go : (b : Bool) → eqb x 32 ≡ b → parts l ≡ first_run l ∷ parts_behind (after_run l)
        → parts (x ∷ l) ≡ first_run (x ∷ l) ∷ parts_behind (after_run (x ∷ l))
    go true e h = rw e
    go false e h = rw (e, h)

-- the space itself gives one part more, which is empty
filled_behind : (l : List ℕ) → filled (parts_behind (after_run l)) ≡ filled (parts (after_run l))
unfolding after_run
filled_behind [] = refl
filled_behind (x ∷ l) = go (eqb x 32) refl (filled_behind l)
  where
    go : (b : Bool) → eqb x 32 ≡ b → filled (parts_behind (after_run l)) ≡ filled (parts (after_run l))
        → filled (parts_behind (after_run (x ∷ l))) ≡ filled (parts (after_run (x ∷ l)))
    go true e h = rw (e, e)
    go false e h = rw e h

-- a letter in front begins the first part that is filled, and the others are those of what is left behind it
filled_run : (x : ℕ) (l : List ℕ) → eqb x 32 ≡ false
    → filled (parts (x ∷ l)) ≡ (x ∷ first_run l) ∷ filled (parts (after_run l))
filled_run x l e = rw (e, parts_run l, eqb-suc-zero, filled_behind l)

-- the k-th of all words is the word at k, which is empty where there are no more
pub word_of_words : (k : ℕ) (l : List ℕ) → word_at k l ≡ get_or (words_of l) k []
unfolding word_at after_gap first_run after_run
word_of_words zero [] = refl
word_of_words (suc k) [] = word_of_words k []
word_of_words zero (x ∷ l) = go (eqb x 32) refl (word_of_words zero l) (filled_run x l)
  where
    go : (b : Bool) → eqb x 32 ≡ b → word_at 0 l ≡ get_or (words_of l) 0 []
        → (eqb x 32 ≡ false → words_of (x ∷ l) ≡ (x ∷ first_run l) ∷ words_of (after_run l))
        → word_at 0 (x ∷ l) ≡ get_or (words_of (x ∷ l)) 0 []
    go true e h f = rw e h
    go false e h f = rw (f e, e, e)
word_of_words (suc k) (x ∷ l) =
    go (eqb x 32) refl (word_of_words (suc k) l) (word_of_words k (after_run l)) (filled_run x l)
  where
    go : (b : Bool) → eqb x 32 ≡ b → word_at (suc k) l ≡ get_or (words_of l) (suc k) []
        → word_at k (after_run l) ≡ get_or (words_of (after_run l)) k []
        → (eqb x 32 ≡ false → words_of (x ∷ l) ≡ (x ∷ first_run l) ∷ words_of (after_run l))
        → word_at (suc k) (x ∷ l) ≡ get_or (words_of (x ∷ l)) (suc k) []
    go true e h t f = rw e h
    go false e h t f = rw (f e, e, e) t
