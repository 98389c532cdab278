-- A reader that is kept is read back, and so is what the last call answered. Assumes nothing.
use Rattle.std.specs.Prelude.{◌≡◌, refl, Bool, List, ◌++◌, ℕ, ◌<◌, ◌≤◌, ◌+◌, length, drop}
use Rattle.std.proofs.Common.{ap, ◌∙◌, append_assoc, arith}
use Rattle.reader.specs.declared.Phase.{Phase}
use Rattle.reader.specs.declared.Phase.TheVariants as phase
use Rattle.reader_blocks.specs.declared.Turn.{Turn}
use Rattle.reader_blocks.specs.declared.Turn.TheVariants.{Sending, Awaiting, Joining}
use Rattle.reader_blocks.specs.declared.ReaderPhase.{ReaderPhase}
use Rattle.reader_blocks.specs.declared.ReaderPhase.TheVariants.{Open, Talking, Leaving, Finished, Stopped}
use Rattle.rows.specs.Rows.{overlay}
use Rattle.uid.specs.declared.UidSize.{UidSize}
use Rattle.reader.specs.declared.Reader.{Reader}
use Rattle.reader_blocks.specs.declared.ReaderLink.{ReaderLink}
use Rattle.reader_link.specs.declared.Link.{Link}
use Rattle.reader_link.specs.declared.Link.TheVariants.{NoLink, RatsSent, Linked}
use Rattle.reader_link.specs.declared.LinkReader.{LinkReader}
use Rattle.reader_link.specs.declared.LinkAnswer.{LinkAnswer}
use Rattle.reader_link.specs.declared.LinkTurn.{LinkTurn}
use Rattle.kept.specs.Kept.{bytes_at, word, event_of, length_of}
use Rattle.kept.specs.KeptLaws.{level_back, flag_back, size_back, bytes_whole, word_back, room, three_put}
use Rattle.kept_reader.specs.KeptReader.{phase_tag, phase_level, phase_of, turn_tag, turn_of, link_phase_tag, link_phase_turn, link_phase_of, selection_bytes, selection_of, linked_bytes, linked_of, link_bytes, link_of, Sized, reader_bytes, reader_of, answer_event, answer_length, answer_bytes, turn_bytes, kept_in, kept_of}

pub phase_back : (p : Phase) → phase_of (phase_tag p) (phase_level p) ≡ p
phase_back phase.New = refl
phase_back phase.ReqaSent = refl
phase_back (phase.AnticollisionSent l) = ap phase.AnticollisionSent (level_back l)
phase_back (phase.SelectSent l) = ap phase.SelectSent (level_back l)
phase_back phase.HltaSent = refl
phase_back phase.Selected = refl
phase_back phase.Finished = refl
phase_back phase.WupaSent = refl
phase_back (phase.UidSelectSent l) = ap phase.UidSelectSent (level_back l)
phase_back phase.Stopped = refl

pub turn_back : (t : Turn) → turn_of (turn_tag t) ≡ t
turn_back Sending = refl
turn_back Awaiting = refl
turn_back Joining = refl

pub link_phase_back : (p : ReaderPhase) → link_phase_of (link_phase_tag p) (link_phase_turn p) ≡ p
link_phase_back Open = refl
link_phase_back (Talking t) = ap Talking (turn_back t)
link_phase_back Leaving = refl
link_phase_back Finished = refl
link_phase_back Stopped = refl

-- ---- the selection

made : (r : Reader) (p : Phase) (s : Bool) (f : List ℕ) (z : UidSize) (u : List ℕ)
    → p ≡ r.phase → s ≡ r.sweeps → f ≡ r.five → z ≡ r.uid.size → u ≡ r.uid.bytes
    → record { phase = p; sweeps = s; five = f; known = r.known; uid = record { size = z; bytes = u }; sak = r.sak } ≡ r
made r p s f z u a b c d e = rw (a, b, c, d, e)

pub selection_back : (r : Reader) (rest : List ℕ) → length r.five ≡ 5 → length r.uid.bytes ≡ 10 → selection_of (selection_bytes r ++ rest) ≡ r
unfolding selection_bytes selection_of bytes_at
selection_back r rest f u =
    made r _ _ _ _ _ (phase_back r.phase) (flag_back r.sweeps) (bytes_whole 5 r.five f) (size_back r.uid.size) (bytes_whole 10 r.uid.bytes u)

-- ---- the link

joined : (l : ReaderLink) (n : Bool) (p : ReaderPhase) (a j : ℕ) → n ≡ l.number → p ≡ l.phase → a ≡ l.at → j ≡ l.joined
    → record { own = l.own; card = l.card; number = n; phase = p; at = a; joined = j; again = l.again; repeats = l.repeats } ≡ l
joined l n p a j b c d e = rw (b, c, d, e)

linked_back : (r : Reader) (l : ReaderLink) (rest : List ℕ) → l.at < 18446744073709551616 → l.joined < 18446744073709551616
    → linked_of (selection_bytes r ++ (linked_bytes l ++ rest)) ≡ l
unfolding selection_bytes linked_bytes linked_of bytes_at word room
linked_back r l rest a j =
    let b : List ℕ = selection_bytes r ++ (linked_bytes l ++ rest) in
    joined l _ _ _ _ (flag_back l.number) (link_phase_back l.phase) (word_back 8 l.at b 29 a refl) (word_back 8 l.joined b 37 j refl)

pub link_back : (r : Reader) (k : Link) (rest : List ℕ) → Sized k → link_of (selection_bytes r ++ (link_bytes k ++ rest)) ≡ k
unfolding selection_bytes linked_bytes link_of bytes_at
link_back r NoLink rest h = refl
link_back r (RatsSent i) rest h = refl
link_back r (Linked l) rest h = ap Linked (linked_back r l rest h.0 h.1)

-- ---- the whole reader: "encoding then decoding gives the state back"

pub reader_back : (x : LinkReader) (rest : List ℕ) → length x.reader.five ≡ 5 → length x.reader.uid.bytes ≡ 10 → Sized x.link
    → reader_of (reader_bytes x ++ rest) ≡ x
reader_back x rest f u h = rw (append_assoc, selection_back x.reader _ f u, link_back x.reader x.link rest h)

-- ---- the bytes written: 21, 24 and then the answer's

pub selection_length_law : (r : Reader) → length (selection_bytes r) ≡ 21
unfolding selection_bytes bytes_at
selection_length_law r = refl

pub link_length : (k : Link) → length (link_bytes k) ≡ 24
unfolding linked_bytes word
link_length NoLink = refl
link_length (RatsSent i) = refl
link_length (Linked l) = refl

-- ---- what else the last call answered

pub event_back : (r : Reader) (k : Link) (a : LinkAnswer) (rest : List ℕ) → event_of (selection_bytes r ++ (link_bytes k ++ (answer_bytes a ++ rest))) ≡ answer_event a
unfolding selection_bytes linked_bytes bytes_at word
event_back r NoLink a rest = refl
event_back r (RatsSent i) a rest = refl
event_back r (Linked l) a rest = refl

pub length_back : (r : Reader) (k : Link) (a : LinkAnswer) (rest : List ℕ) → answer_length a < 18446744073709551616
    → length_of (selection_bytes r ++ (link_bytes k ++ (answer_bytes a ++ rest))) ≡ answer_length a
unfolding selection_bytes linked_bytes bytes_at word room
length_back r NoLink a rest h = word_back 8 (answer_length a) _ 46 h refl
length_back r (RatsSent i) a rest h = word_back 8 (answer_length a) _ 46 h refl
length_back r (Linked l) a rest h = word_back 8 (answer_length a) _ 46 h refl

answer_length_law : (t : LinkTurn) → length (answer_bytes t.answer) ≡ 9
unfolding word
answer_length_law t = refl

says : (b : List ℕ) (t : LinkTurn) → selection_of b ≡ t.reader.reader → link_of b ≡ t.reader.link → event_of b ≡ answer_event t.answer
    → length_of b ≡ answer_length t.answer → kept_in b ≡ kept_of t
says b t e f g h = rw (e, f, g, h)

-- what is kept says the reader and what was answered, whatever stands behind it
pub kept_back : (d : List ℕ) (t : LinkTurn) → length t.reader.reader.five ≡ 5 → length t.reader.reader.uid.bytes ≡ 10 → Sized t.reader.link
    → answer_length t.answer < 18446744073709551616 → kept_in (overlay d 0 (turn_bytes t)) ≡ kept_of t
unfolding overlay
kept_back d t f u h n =
    let r = t.reader.reader in
    let k = t.reader.link in
    let a = t.answer in
    let rest : List ℕ = drop (0 + length (turn_bytes t)) d in
    let e : turn_bytes t ++ rest ≡ selection_bytes r ++ (link_bytes k ++ (answer_bytes a ++ rest)) =
    append_assoc (reader_bytes t.reader) (answer_bytes a) rest ∙ append_assoc (selection_bytes r) (link_bytes k) (answer_bytes a ++ rest) in
    rw e (says _ t (selection_back r _ f u) (link_back r k _ h) (event_back r k a rest) (length_back r k a rest n))

-- three rows written one behind the other keep a turn, and what it leaves is read back
pub settled : (t : LinkTurn) (d A B C d₁ d₂ d₃ : List ℕ) → 64 ≤ length d
    → A ≡ selection_bytes t.reader.reader → (length t.reader.reader.five ≡ 5) × (length t.reader.reader.uid.bytes ≡ 10)
    → B ≡ link_bytes t.reader.link → Sized t.reader.link
    → C ≡ answer_bytes t.answer → answer_length t.answer < 18446744073709551616
    → d₁ ≡ overlay d 0 A → d₂ ≡ overlay d₁ 21 B → d₃ ≡ overlay d₂ 45 C
    → (d₃ ≡ overlay d 0 (turn_bytes t)) × (kept_in d₃ ≡ kept_of t)
settled t d A B C d₁ d₂ d₃ h a f b k c m e₁ e₂ e₃ =
    let n = answer_length_law t in
    let w : d₃ ≡ overlay d 0 (turn_bytes t) =
    rw (e₃, e₂, e₁, a, b, c) (three_put 21 24 d _ _ _ (selection_length_law t.reader.reader) (link_length t.reader.link) (omega arith)) in
    (w, rw w (kept_back d t f.0 f.1 k m))
