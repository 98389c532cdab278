-- Two different records have different bytes, whatever follows them: bytes are read as one record only. Assumes nothing.
use Rattle.std.specs.Prelude.{◌≡◌, refl, ℕ, ◌+◌, ◌≤◌, ◌<◌, Bool, true, false, cond, List, [], ◌∷◌, ◌++◌, ltb, length, take, drop, get_or}
use Rattle.std.proofs.Common.{sym, ap, ap₂, ◌∙◌, arith, append_assoc, ltb-true}
use Rattle.std.proofs.lemmas.Bool.{false≢true}
use Rattle.std.proofs.Math.Seq.{take-append_seam}
use Rattle.rows.specs.Rows.{All, Bits, clean}
use Rattle.air_log.specs.Log.{pack, header, plain, marks, sent_record, heard_record}
use Rattle.air_log.specs.Calls.{most_bits, row_size, shown_bit}
use Rattle.air_log.specs.Reading.{row_at, record_at}
use Rattle.air_log.proofs.RecordLaws.{plain_clean}
use Rattle.air_log.proofs.ReadBackLaws.{sent_back, silence_back, clean_back, collided_back}
use Rattle.air_log.specs.declared.Record.{Record}
use Rattle.air_log.specs.declared.Record.TheVariants.{Sent, Clean, Collided, Silence, End, Cut, Malformed}

-- a record's kind, and its number of bits
abbrev kind_no : Record → ℕ
kind_no (Sent a n x) = 0
kind_no (Clean a n x) = 1
kind_no (Collided a m n x) = 2
kind_no (Silence x) = 3
kind_no End = 4
kind_no Cut = 5
kind_no Malformed = 6

abbrev bit_no : Record → ℕ
bit_no (Sent a n x) = n
bit_no (Clean a n x) = n
bit_no (Collided a m n x) = n
bit_no (Silence x) = 0
bit_no End = 0
bit_no Cut = 0
bit_no Malformed = 0

-- ---- reader frames

sent_stamp : (x f p : List ℕ) → take (length x) (drop 2 (sent_record x f ++ p)) ≡ x
unfolding sent_record header
sent_stamp x f p = ap (take (length x)) (append_assoc x (pack f) p) ∙ take-append_seam x (pack f ++ p)

pub sent_once : (x y f g p q : List ℕ) → length x ≡ length y → Bits f → Bits g → 0 < length f → 0 < length g → length f ≤ most_bits → length g ≤ most_bits
    → sent_record x f ++ p ≡ sent_record y g ++ q → (x ≡ y) × (f ≡ g)
sent_once x y f g p q w bf bg hf hg nf ng e =
    let l : List ℕ = sent_record x f ++ p in
    let a = sent_back l 0 x f p bf hf nf refl in
    let b = sent_back l 0 y g q bg hg ng e in
    let n : length f ≡ length g = ap bit_no (sym a.0 ∙ ap (λ i. record_at i l 0) w ∙ b.0) in (
      sym (sent_stamp x f p) ∙ ap₂ (λ i s. take i (drop 2 s)) w e ∙ sent_stamp y g q,
      sym a.1 ∙ ap₂ (λ i j. row_at l (0 + 2 + i) j) w n ∙ b.1,
    )

-- ---- what was heard: rows of 0, 1 and, for a collided bit, 2

abbrev Heard : List ℕ → Type 0
Heard r = All (λ x. x < 3) r

-- a row is known from what its record shows
one_bit : (x y : ℕ) → x < 3 → y < 3 → shown_bit false x ≡ shown_bit false y → shown_bit true x ≡ shown_bit true y → x ≡ y
one_bit x y hx hy = go (ltb 1 x) (ltb 1 y) refl refl
  where
    go : (s t : Bool) → ltb 1 x ≡ s → ltb 1 y ≡ t → cond s 0 x ≡ cond t 0 y → ◌≡◌ {A = ℕ} (cond s 1 0) (cond t 1 0) → x ≡ y
    go true true p q e f = omega (arith, ltb-true 1 x p, ltb-true 1 y q)
    go true false p q e f = absurd (omega arith)
    go false true p q e f = absurd (omega arith)
    go false false p q e f = e

one_row : (h k : List ℕ) → Heard h → Heard k → plain h ≡ plain k → marks h ≡ marks k → h ≡ k
unfolding plain marks
one_row [] [] bh bk p m = refl
one_row [] (y ∷ k) bh bk p m = let n = ap length p in absurd (omega arith)
one_row (x ∷ h) [] bh bk p m = let n = ap length p in absurd (omega arith)
one_row (x ∷ h) (y ∷ k) bh bk p m =
    ap₂ ◌∷◌
    (one_bit x y bh.0 bk.0 (ap (λ l. get_or l 0 0) p) (ap (λ l. get_or l 0 0) m))
    (one_row h k bh.1 bk.1 (ap (drop 1) p) (ap (drop 1) m))

-- what is read at the front of bytes that start with the record of a row, whose stamp has w bytes
record Read (w : ℕ) (l h : List ℕ) : Type 0 where
  bits : bit_no (record_at w l 0) ≡ length h
  row : row_at l (0 + 2 + w) (length h) ≡ plain h
  heard : kind_no (record_at w l 0) ≡ 0 → ⊥
  clear : clean h ≡ true → kind_no (record_at w l 0) ≡ 2 → ⊥
  struck : clean h ≡ false → kind_no (record_at w l 0) ≡ 2
  marked : clean h ≡ false → row_at l (0 + 2 + w + row_size (length h)) (length h) ≡ marks h

read : (x l h p : List ℕ) → length h ≤ most_bits → l ≡ heard_record x h ++ p → Read (length x) l h
unfolding clean plain
read x l [] p n e =
    let a : record_at (length x) l 0 ≡ Silence (0 + 2 + length x) = silence_back l 0 x p e in
    let k = ap kind_no a in
    record {
      bits = ap bit_no a;
      row = refl;
      heard = λ z. omega arith;
      clear = λ c z. omega arith;
      struck = λ c. absurd (false≢true (sym c));
      marked = λ c. absurd (false≢true (sym c));
    }
read x l (b ∷ h) p n e = go (clean (b ∷ h)) refl
  where
    go : (t : Bool) → clean (b ∷ h) ≡ t → Read (length x) l (b ∷ h)
    go true c =
        let a = clean_back l 0 x (b ∷ h) p c (omega arith) n e in
        let k = ap kind_no a.0 in
        record {
          bits = ap bit_no a.0;
          row = a.1 ∙ sym (plain_clean (b ∷ h) c);
          heard = λ z. omega arith;
          clear = λ d z. omega arith;
          struck = λ d. absurd (false≢true (sym d ∙ c));
          marked = λ d. absurd (false≢true (sym d ∙ c));
        }
    go false c =
        let a = collided_back l 0 x (b ∷ h) p c n e in
        let k = ap kind_no a.0 in
        record {
          bits = ap bit_no a.0;
          row = a.1;
          heard = λ z. omega arith;
          clear = λ d z. absurd (false≢true (sym c ∙ d));
          struck = λ d. k;
          marked = λ d. a.2;
        }

heard_stamp : (x h p : List ℕ) → take (length x) (drop 2 (heard_record x h ++ p)) ≡ x
unfolding heard_record header
heard_stamp x [] p = take-append_seam x p
heard_stamp x (b ∷ h) p = go (clean (b ∷ h))
  where
    r : List ℕ
    r = b ∷ h

    go : (t : Bool) → take (length x) (drop 2 (cond t (header 1 (length r) ++ (x ++ pack r)) (header 2 (length r) ++ (x ++ (pack (plain r) ++ pack (marks r)))) ++ p)) ≡ x
    go true = ap (take (length x)) (append_assoc x (pack r) p) ∙ take-append_seam x _
    go false = ap (take (length x)) (append_assoc x (pack (plain r) ++ pack (marks r)) p) ∙ take-append_seam x _

pub heard_once : (x y h k p q : List ℕ) → length x ≡ length y → Heard h → Heard k → length h ≤ most_bits → length k ≤ most_bits
    → heard_record x h ++ p ≡ heard_record y k ++ q → (x ≡ y) × (h ≡ k)
heard_once x y h k p q w bh bk nh nk e =
    (sym (heard_stamp x h p) ∙ ap₂ (λ i s. take i (drop 2 s)) w e ∙ heard_stamp y k q, go (clean h) (clean k) refl refl)
  where
    l : List ℕ
    l = heard_record x h ++ p

    a : Read (length x) l h
    a = read x l h p nh refl

    b : Read (length x) l k
    b = rw w (read y l k q nk e)

    n : length h ≡ length k
    n = sym a.bits ∙ b.bits

    same : plain h ≡ plain k
    same = sym a.row ∙ ap (row_at l (0 + 2 + length x)) n ∙ b.row

    go : (s t : Bool) → clean h ≡ s → clean k ≡ t → h ≡ k
    go true true c d = sym (plain_clean h c) ∙ same ∙ plain_clean k d
    go true false c d = absurd (a.clear c (b.struck d))
    go false true c d = absurd (b.clear d (a.struck c))
    go false false c d = one_row h k bh bk same (sym (a.marked c) ∙ ap (λ i. row_at l (0 + 2 + length x + row_size i) i) n ∙ b.marked d)

-- a reader frame is never read as an answer
pub sent_not_heard : (x y f h p q : List ℕ) → length x ≡ length y → Bits f → 0 < length f → length f ≤ most_bits → length h ≤ most_bits
    → sent_record x f ++ p ≡ heard_record y h ++ q → ⊥
sent_not_heard x y f h p q w b i nf nh e =
    let l : List ℕ = sent_record x f ++ p in
    (read y l h q nh e).heard (ap kind_no (ap (λ n. record_at n l 0) (sym w) ∙ (sent_back l 0 x f p b i nf refl).0))
