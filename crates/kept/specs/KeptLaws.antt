-- What is kept is read back. Assumes nothing.
use Rattle.std.specs.Prelude.{◌≡◌, refl, Bool, true, false, List, [], ◌∷◌, ◌++◌, ℕ, zero, suc, ◌+◌, ◌*◌, ◌/◌, ◌%◌, ◌<◌, ◌≤◌, length, get_or}
use Rattle.std.proofs.Common.{sym, ap, ◌∙◌, append-nil, zero-add, add-one, arith, length-append}
use Rattle.rows.specs.Rows.{overlay}
use Rattle.rows.proofs.RowLaws.{overlay_next}
use Rattle.refusal.specs.Refusal.{number_of}
use Rattle.refusal.specs.declared.Refusal.{Refusal}
use Rattle.refusal.specs.declared.Refusal.TheVariants.{Room, Length, Parity, Crc, Check, Argument, Silence, Collision, Forbidden, TooLong, NotDue, Repeats}
use Rattle.uid.specs.declared.Level.{Level}
use Rattle.uid.specs.declared.Level.TheVariants.{One, Two, Three}
use Rattle.uid.specs.declared.UidSize.{UidSize}
use Rattle.uid.specs.declared.UidSize.TheVariants.{Single, Double, Triple}
use Rattle.kept.specs.Kept.{bytes_at, word, number, flag, flag_of, level_tag, level_of, size_tag, size_of}

pub flag_back : (x : Bool) → flag_of (flag x) ≡ x
flag_back true = refl
flag_back false = refl

pub level_back : (l : Level) → level_of (level_tag l) ≡ l
level_back One = refl
level_back Two = refl
level_back Three = refl

pub size_back : (z : UidSize) → size_of (size_tag z) ≡ z
size_back Single = refl
size_back Double = refl
size_back Triple = refl

-- the bytes of a row from its second on are those of its tail
bytes_tail : (k : ℕ) (x : ℕ) (b : List ℕ) (p : ℕ) → bytes_at k (x ∷ b) (suc p) ≡ bytes_at k b p
unfolding bytes_at
bytes_tail zero x b p = refl
bytes_tail (suc k) x b p = rw (add-one, add-one, bytes_tail k x b (suc p))

-- .. and those behind p are those of what stands there
pub bytes_behind : (k : ℕ) (p b : List ℕ) (i : ℕ) → bytes_at k (p ++ b) (length p + i) ≡ bytes_at k b i
bytes_behind k [] b i = rw zero-add
bytes_behind k (x ∷ p) b i =
    let e : suc (length p) + i ≡ suc (length p + i) = omega arith in
    rw e (bytes_tail k x (p ++ b) (length p + i) ∙ bytes_behind k p b i)

-- as many bytes as stand in front are they
pub bytes_front : (k : ℕ) (b rest : List ℕ) → length b ≡ k → bytes_at k (b ++ rest) 0 ≡ b
unfolding bytes_at
bytes_front zero [] rest h = refl
bytes_front zero (x ∷ b) rest h = absurd (omega arith)
bytes_front (suc k) [] rest h = absurd (omega arith)
bytes_front (suc k) (x ∷ b) rest h = ap (λ (l : List ℕ). x ∷ l) (bytes_tail k x (b ++ rest) 0 ∙ bytes_front k b rest (omega arith))

pub bytes_whole : (k : ℕ) (b : List ℕ) → length b ≡ k → bytes_at k b 0 ≡ b
bytes_whole k b h = ap (λ (l : List ℕ). bytes_at k l 0) (sym (append-nil b)) ∙ bytes_front k b [] h

-- what k bytes hold
unfoldable pub room : ℕ → ℕ
room zero = 1
room (suc k) = 256 * room k

head_same : (x y : ℕ) (a b : List ℕ) → x ∷ a ≡ y ∷ b → x ≡ y
head_same x y a b e = cc

tail_same : (x y : ℕ) (a b : List ℕ) → x ∷ a ≡ y ∷ b → a ≡ b
tail_same x y a b e = cc

-- a number that k bytes hold is read back from them, wherever they stand
pub word_back : (k n : ℕ) (b : List ℕ) (p : ℕ) → n < room k → bytes_at k b p ≡ word k n → number k b p ≡ n
unfolding room bytes_at word number
word_back zero n b p h e = omega arith
word_back (suc k) n b p h e =
    let r : number k b (p + 1) ≡ n / 256 = word_back k (n / 256) b (p + 1) (omega arith) (tail_same _ _ _ _ e) in
    let d : get_or b p 0 ≡ n % 256 = head_same _ _ _ _ e in
    omega arith

-- three rows written one behind the other are one row
pub three_put : (m n : ℕ) (d A B C : List ℕ) → length A ≡ m → length B ≡ n → m + n + length C ≤ length d
    → overlay (overlay (overlay d 0 A) m B) (m + n) C ≡ overlay d 0 ((A ++ B) ++ C)
three_put m n d A B C a b h =
    let k : length (A ++ B) ≡ m + n = simp (length-append, a, b) in
    let e : overlay (overlay d 0 A) m B ≡ overlay d 0 (A ++ B) = rw (a, zero-add) at (overlay_next d 0 A B (omega arith)) in
    let g : overlay (overlay d 0 (A ++ B)) (m + n) C ≡ overlay d 0 ((A ++ B) ++ C) = rw (k, zero-add) at (overlay_next d 0 (A ++ B) C (omega arith)) in
    rw e g

-- no refusal has the number 0
pub number_some : (e : Refusal) → 1 ≤ number_of e
number_some Room = omega arith
number_some Length = omega arith
number_some (Parity b) = omega arith
number_some Crc = omega arith
number_some Check = omega arith
number_some Argument = omega arith
number_some Silence = omega arith
number_some Collision = omega arith
number_some Forbidden = omega arith
number_some TooLong = omega arith
number_some NotDue = omega arith
number_some Repeats = omega arith
