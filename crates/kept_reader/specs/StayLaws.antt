-- Readers that are kept as the same bytes are one reader, and so what a call leaves is read back whether it writes or not. Assumes nothing.
use Rattle.std.specs.Prelude.{◌≡◌, refl, Bool, true, false, ◌&&◌, List, [], ◌++◌, ℕ}
use Rattle.std.proofs.Common.{sym, ap, ◌∙◌}
use Rattle.rows.specs.Rows.{overlay, same}
use Rattle.rows.specs.ListLaws.{same_sound}
use Rattle.reader.specs.declared.Reader.{Reader}
use Rattle.reader_link.specs.declared.Link.{Link}
use Rattle.reader_link.specs.declared.LinkReader.{LinkReader}
use Rattle.reader_link.specs.declared.LinkTurn.{LinkTurn}
use Rattle.kept.specs.Kept.{event_of, length_of}
use Rattle.kept_reader.specs.KeptReader.{selection_bytes, selection_of, link_bytes, link_of, reader_of, Fits, answer_refuses, turn_bytes, same_reader, stays, turn_left, Kept, kept_in, kept_of, kept_after}
use Rattle.kept_reader.specs.KeptReaderLaws.{selection_back, link_back}

left_of : (a b : Bool) → (a && b) ≡ true → a ≡ true
left_of true b e = refl
left_of false b e = e

right_of : (a b : Bool) → (a && b) ≡ true → b ≡ true
right_of true b e = e
right_of false true e = refl
right_of false false e = e

paired : (y : LinkReader) (r : Reader) (k : Link) → r ≡ y.reader → k ≡ y.link → record { reader = r; link = k } ≡ y
paired y r k e f = rw (e, f)

pub same_reader_law : (x y : LinkReader) → Fits x → Fits y → same_reader x y ≡ true → x ≡ y
same_reader_law x y f g h =
    let r = x.reader in
    let p : selection_bytes x.reader ≡ selection_bytes y.reader = same_sound _ _ (left_of _ _ h) in
    let q : link_bytes x.link ≡ link_bytes y.link = same_sound _ _ (right_of (same (selection_bytes x.reader) (selection_bytes y.reader)) _ h) in
    let e : x.reader ≡ y.reader =
    sym (selection_back x.reader [] f.0 f.1.0) ∙ ap (λ (b : List ℕ). selection_of (b ++ [])) p ∙ selection_back y.reader [] g.0 g.1.0 in
    let k : x.link ≡ y.link =
    sym (link_back r x.link [] f.1.1) ∙ ap (λ (b : List ℕ). link_of (selection_bytes r ++ (b ++ []))) q ∙ link_back r y.link [] g.1.1 in
    paired y x.reader x.link e k

pub stays_by : (x : LinkReader) (t : LinkTurn) (r a b c : Bool) (A A' B B' : List ℕ) → r ≡ (a && (b && c)) → a ≡ answer_refuses t.answer
    → b ≡ same A A' → A ≡ selection_bytes x.reader → A' ≡ selection_bytes t.reader.reader
    → c ≡ same B B' → B ≡ link_bytes x.link → B' ≡ link_bytes t.reader.link → r ≡ stays x t
unfolding stays
stays_by x t r a b c A A' B B' e f g h i j k l = rw (e, f, g, h, i, j, k, l)

stays_same : (x : LinkReader) (t : LinkTurn) → stays x t ≡ true → same_reader x t.reader ≡ true
unfolding stays
stays_same x t h = right_of (answer_refuses t.answer) _ h

-- nothing is written
pub stayed : (b : List ℕ) (x : LinkReader) (t : LinkTurn) → x ≡ reader_of b → Fits x → Fits t.reader → stays x t ≡ true
    → (b ≡ turn_left b t) × (kept_in b ≡ kept_after b t)
unfolding turn_left kept_after
stayed b x t e f g h =
    let s : stays (reader_of b) t ≡ true = sym (ap (λ (r : LinkReader). stays r t) e) ∙ h in
    let w : reader_of b ≡ t.reader = sym e ∙ same_reader_law x t.reader f g (stays_same x t h) in
    let k : LinkReader → Kept = λ r. record { reader = r; event = event_of b; length = length_of b } in
    (rw s, rw s (ap k w))

-- a turn's bytes are
pub moved : (b b' : List ℕ) (x : LinkReader) (t : LinkTurn) → x ≡ reader_of b → stays x t ≡ false → b' ≡ overlay b 0 (turn_bytes t) → kept_in b' ≡ kept_of t
    → (b' ≡ turn_left b t) × (kept_in b' ≡ kept_after b t)
unfolding turn_left kept_after
moved b b' x t e h w k =
    let s : stays (reader_of b) t ≡ false = sym (ap (λ (r : LinkReader). stays r t) e) ∙ h in
    (rw s w, rw s k)
