-- What a sweep leaves in the reader's state is read back. Assumes nothing.
use Rattle.std.specs.Prelude.{◌≡◌, refl, true, false, List, ◌++◌, ℕ, ◌+◌, ◌<◌, ◌≤◌, length, drop, take}
use Rattle.std.proofs.Common.{sym, ◌∙◌, append_assoc, arith}
use Rattle.std.proofs.lemmas.Bool.{false≢true}
use Rattle.rows.specs.Rows.{overlay}
use Rattle.reader.specs.declared.Reader.{Reader}
use Rattle.reader_link.specs.declared.Link.{Link}
use Rattle.reader_link.specs.declared.Link.TheVariants.{NoLink, RatsSent, Linked}
use Rattle.sweep.specs.declared.Swept.{Swept}
use Rattle.kept.specs.Kept.{bytes_at, word, event_of, length_of}
use Rattle.kept.specs.KeptLaws.{room, word_back, three_put}
use Rattle.kept_reader.specs.KeptReader.{selection_bytes, linked_bytes, link_bytes, link_of, selection_of, Sized, selection_refuses, selection_number}
use Rattle.kept_reader.specs.KeptReaderLaws.{selection_back, link_back, selection_length_law, link_length}
use Rattle.kept_field.specs.KeptField.{cards_in, cards_left, swept_tail, swept_bytes, frames_of, swept_in, swept_kept, swept_number, state_left, row_left, Says}

tail_length : (m f : ℕ) → length (swept_tail m f) ≡ 17
unfolding swept_tail word
tail_length m f = refl

-- what stands behind the reader and its link
tail_back : (r : Reader) (k : Link) (m f : ℕ) (rest : List ℕ) → m < 18446744073709551616 → f < 18446744073709551616
    → (event_of (selection_bytes r ++ (link_bytes k ++ (swept_tail m f ++ rest))) ≡ 3)
    × (length_of (selection_bytes r ++ (link_bytes k ++ (swept_tail m f ++ rest))) ≡ m)
    × (frames_of (selection_bytes r ++ (link_bytes k ++ (swept_tail m f ++ rest))) ≡ f)
unfolding selection_bytes linked_bytes bytes_at word room swept_tail
tail_back r NoLink m f rest h g = (refl, word_back 8 m _ 46 h refl, word_back 8 f _ 54 g refl)
tail_back r (RatsSent i) m f rest h g = (refl, word_back 8 m _ 46 h refl, word_back 8 f _ 54 g refl)
tail_back r (Linked l) m f rest h g = (refl, word_back 8 m _ 46 h refl, word_back 8 f _ 54 g refl)

says : (b : List ℕ) (r : Reader) (k : Link) (m f : ℕ) → selection_of b ≡ r → link_of b ≡ k → event_of b ≡ 3 → length_of b ≡ m → frames_of b ≡ f
    → swept_in b ≡ swept_kept r k m f
says b r k m f c d e g h = rw (c, d, e, g, h)

swept_back : (d : List ℕ) (r : Reader) (k : Link) (m f : ℕ) → length r.five ≡ 5 → length r.uid.bytes ≡ 10 → Sized k
    → m < 18446744073709551616 → f < 18446744073709551616 → swept_in (overlay d 0 (swept_bytes r k m f)) ≡ swept_kept r k m f
unfolding overlay
swept_back d r k m f v u z h g =
    let rest : List ℕ = drop (0 + length (swept_bytes r k m f)) d in
    let t = tail_back r k m f rest h g in
    let e : swept_bytes r k m f ++ rest ≡ selection_bytes r ++ (link_bytes k ++ (swept_tail m f ++ rest)) =
    append_assoc (selection_bytes r ++ link_bytes k) (swept_tail m f) rest ∙ append_assoc (selection_bytes r) (link_bytes k) (swept_tail m f ++ rest) in
    rw e (says _ r k m f (selection_back r _ v u) (link_back r k _ z) t.0 t.1 t.2)

-- three rows written one behind the other keep a reader after a sweep
pub kept_swept : (r : Reader) (k : Link) (m f : ℕ) (d A B C d₁ d₂ d₃ : List ℕ) → 64 ≤ length d
    → A ≡ selection_bytes r → (length r.five ≡ 5) × (length r.uid.bytes ≡ 10) → B ≡ link_bytes k → Sized k
    → C ≡ swept_tail m f → (m < 18446744073709551616) × (f < 18446744073709551616)
    → d₁ ≡ overlay d 0 A → d₂ ≡ overlay d₁ 21 B → d₃ ≡ overlay d₂ 45 C
    → (d₃ ≡ overlay d 0 (swept_bytes r k m f)) × (swept_in d₃ ≡ swept_kept r k m f)
kept_swept r k m f d A B C d₁ d₂ d₃ h a v b z c g e₁ e₂ e₃ =
    let n = tail_length m f in
    let w : d₃ ≡ overlay d 0 (swept_bytes r k m f) =
    rw (e₃, e₂, e₁, a, b, c) (three_put 21 24 d _ _ _ (selection_length_law r) (link_length k) (omega arith)) in
    (w, rw w (swept_back d r k m f v.0 v.1 z g.0 g.1))

-- ---- what a sweep leaves

-- nothing, where it was refused
pub settled_refused : (s : Swept) (n : ℕ) (state cards : List ℕ) (x : ℕ) → selection_refuses s.answer ≡ true → x ≡ selection_number s.answer
    → (x ≡ swept_number s) × ((state ≡ state_left state s) × ((cards ≡ row_left n cards s) × Says state n s state cards))
unfolding state_left row_left
settled_refused s n state cards x h e = (rw h e, (rw h, (rw h, λ k. absurd (false≢true (sym k ∙ h)))))

pub settled_swept : (s : Swept) (n : ℕ) (state cards state₁ cards₁ : List ℕ) (k : Link) → selection_refuses s.answer ≡ false → k ≡ link_of state
    → state₁ ≡ overlay state 0 (swept_bytes s.reader k s.logged s.frames) → swept_in state₁ ≡ swept_kept s.reader k s.logged s.frames
    → cards₁ ≡ cards_left cards (take n s.cards) → cards_in (length (take n s.cards)) cards₁ ≡ take n s.cards
    → length s.cards ≡ 32
    → (s.found ≡ swept_number s) × ((state₁ ≡ state_left state s) × ((cards₁ ≡ row_left n cards s) × Says state n s state₁ cards₁))
unfolding state_left row_left
settled_swept s n state cards state₁ cards₁ k h l a b c d m = (rw h, (rw (h, ← l) a, (rw h c, λ z. (rw (← l) b, d, m))))
