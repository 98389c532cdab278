-- The script language's lines and words. Words are separated by one or more spaces.
use Rattle.std.specs.Prelude.{ℕ, zero, suc, ◌-◌, ◌≤◌, ◌≡◌, Bool, cond, List, [], ◌∷◌, length, take, drop, get_or, eqb, ltb, not, filter}
use Rattle.std.specs.List.{slice_split}
use Rattle.bench.specs.declared.LineKind.{LineKind}
use Rattle.bench.specs.declared.LineKind.TheVariants.{PassedOver, TooLong, Script}

-- ---- words

-- without the spaces in front
unfoldable pub after_gap : List ℕ → List ℕ
after_gap [] = []
after_gap (x ∷ l) = cond (eqb x 32) (after_gap l) (x ∷ l)

-- what stands before the first space
unfoldable pub first_run : List ℕ → List ℕ
first_run [] = []
first_run (x ∷ l) = cond (eqb x 32) [] (x ∷ first_run l)

-- what is left from the first space on
unfoldable pub after_run : List ℕ → List ℕ
after_run [] = []
after_run (x ∷ l) = cond (eqb x 32) (x ∷ l) (after_run l)

-- the k-th word, counted from 0; empty where there is none
unfoldable pub word_at : ℕ → List ℕ → List ℕ
word_at zero l = first_run (after_gap l)
word_at (suc k) l = word_at k (after_run (after_gap l))

-- all the words, in order: what stands between spaces, where anything does
abbrev pub words_of : List ℕ → List (List ℕ)
words_of l = filter (λ w. not (eqb (length w) 0)) (slice_split (λ b. eqb b 32) l)

-- r is the index of the first letter that is no space, at from or behind it, or the end
pub record Skipped (l : List ℕ) (from r : ℕ) : Type 0 where
  pub low : from ≤ r
  pub high : r ≤ length l
  pub rest : drop r l ≡ after_gap (drop from l)

-- r is the index of the first space at from or behind it, or the end
pub record Stopped (l : List ℕ) (from r : ℕ) : Type 0 where
  pub low : from ≤ r
  pub high : r ≤ length l
  pub rest : drop r l ≡ after_run (drop from l)
  pub run : take (r - from) (drop from l) ≡ first_run (drop from l)

-- ---- lines

-- a carriage return before the line feed is ignored
unfoldable pub without_return : List ℕ → List ℕ
without_return l = cond (eqb (get_or l (length l - 1) 0) 13) (take (length l - 1) l) l

-- the longest line that is understood
abbrev pub longest_line : ℕ
longest_line = 16384

-- an empty line and a line that begins with `#` are passed over; so is a line of spaces
unfoldable pub kind_of : Bool → List ℕ → LineKind
kind_of overlong t =
    cond overlong TooLong
    (cond (ltb longest_line (length t)) TooLong
    (cond (eqb (get_or t 0 0) 35) PassedOver
    (cond (eqb (length (word_at 0 t)) 0) PassedOver Script)))
