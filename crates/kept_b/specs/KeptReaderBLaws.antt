-- A Type B reader that is kept is read back, and so is what was answered. Assumes nothing.
use Rattle.std.specs.Prelude.{◌≡◌, refl, Bool, true, false, ◌&&◌, List, [], ◌++◌, ℕ, ◌≤◌, ◌+◌, length, drop, replicate}
use Rattle.std.proofs.Common.{sym, ap, ◌∙◌, append_assoc, arith}
use Rattle.rows.specs.Rows.{overlay, same}
use Rattle.rows.specs.ListLaws.{same_sound, same_refl}
use Rattle.reader_b.specs.ReaderB.{blank}
use Rattle.reader_b.specs.declared.PhaseB.{PhaseB}
use Rattle.reader_b.specs.declared.PhaseB.TheVariants.{Ready, Slot, AttribSent, HltbSent, Stopped}
use Rattle.reader_b.specs.declared.ReaderB.{ReaderB}
use Rattle.reader_b.specs.declared.AnswerB.{AnswerB}
use Rattle.reader_b.specs.declared.TurnB.{TurnB}
use Rattle.kept.specs.Kept.{bytes_at, number, event_of, length_of}
use Rattle.kept.specs.KeptLaws.{bytes_whole, three_put}
use Rattle.kept_b.specs.KeptReaderB.{phase_tag, phase_of, reader_bytes, reader_in, answer_refuses, answer_event, answer_length, answer_held, slot_bytes, front_bytes, answer_bytes, turn_bytes, stays, turn_left, held_in, atqb_in, kept_with, kept_in, kept_of, kept_after}

pub phase_back : (p : PhaseB) → phase_of (phase_tag p) ≡ p
phase_back Ready = refl
phase_back Slot = refl
phase_back AttribSent = refl
phase_back HltbSent = refl
phase_back Stopped = refl

with_phase : (r : ReaderB) (p : PhaseB) → p ≡ r.phase → record { phase = p; slots = r.slots; slot = r.slot } ≡ r
with_phase r p e = rw e

-- "encoding then decoding gives the reader back", whatever stands behind it
pub reader_back : (r : ReaderB) (rest : List ℕ) → reader_in (reader_bytes r ++ rest) ≡ r
unfolding reader_bytes reader_in
reader_back r rest = with_phase r _ (phase_back r.phase)

-- zeros are a new reader, which is ready
pub zeros_reader : reader_in (replicate 64 0) ≡ blank Ready
unfolding reader_in
zeros_reader = refl

-- ---- what the last call answered

front_length : (t : TurnB) → length (front_bytes t) ≡ 16
unfolding reader_bytes slot_bytes bytes_at
front_length t = refl

answer_length_law : (a : AnswerB) → length (answer_bytes a) ≡ 9
unfolding answer_bytes
answer_length_law a = refl

-- the parts of a turn as bytes, and the rest behind them
abbrev Row : TurnB → List ℕ → List ℕ
Row t rest = reader_bytes t.reader ++ (slot_bytes t ++ (replicate 29 0 ++ (answer_bytes t.answer ++ rest)))

row_of_law : (t : TurnB) (rest : List ℕ) → turn_bytes t ++ rest ≡ Row t rest
row_of_law t rest =
    append_assoc (front_bytes t ++ replicate 29 0) (answer_bytes t.answer) rest
    ∙ append_assoc (front_bytes t) (replicate 29 0) (answer_bytes t.answer ++ rest)
    ∙ append_assoc (reader_bytes t.reader) (slot_bytes t) (replicate 29 0 ++ (answer_bytes t.answer ++ rest))

held_back : (t : TurnB) (rest : List ℕ) → held_in (Row t rest) ≡ answer_held t.answer
unfolding reader_bytes slot_bytes
held_back t rest = refl

atqb_back : (t : TurnB) (rest : List ℕ) → length t.atqb ≡ 12 → atqb_in (Row t rest) ≡ t.atqb
unfolding reader_bytes slot_bytes bytes_at
atqb_back t rest h = bytes_whole 12 t.atqb h

event_back : (t : TurnB) (rest : List ℕ) → event_of (Row t rest) ≡ answer_event t.answer
unfolding reader_bytes slot_bytes bytes_at answer_bytes
event_back t rest = refl

length_back : (t : TurnB) (rest : List ℕ) → length_of (Row t rest) ≡ answer_length t.answer
unfolding reader_bytes slot_bytes bytes_at answer_bytes number
length_back t rest = omega arith

says : (b : List ℕ) (t : TurnB) → reader_in b ≡ t.reader → held_in b ≡ answer_held t.answer → atqb_in b ≡ t.atqb
    → event_of b ≡ answer_event t.answer → length_of b ≡ answer_length t.answer → kept_in b ≡ kept_of t
says b t e f g h i = rw (e, f, g, h, i)

-- what is kept says the reader and what was answered, whatever stands behind it
pub kept_back : (d : List ℕ) (t : TurnB) → length t.atqb ≡ 12 → kept_in (overlay d 0 (turn_bytes t)) ≡ kept_of t
unfolding overlay
kept_back d t h =
    let rest : List ℕ = drop (0 + length (turn_bytes t)) d in
    rw (row_of_law t rest)
    (says _ t (reader_back t.reader _) (held_back t rest) (atqb_back t rest h) (event_back t rest) (length_back t rest))

-- three rows written one behind the other keep a turn, and what it leaves is read back
pub settled : (t : TurnB) (d A B C d₁ d₂ d₃ : List ℕ) → 64 ≤ length d → A ≡ front_bytes t → length t.atqb ≡ 12
    → B ≡ replicate 29 0 → C ≡ answer_bytes t.answer
    → d₁ ≡ overlay d 0 A → d₂ ≡ overlay d₁ 16 B → d₃ ≡ overlay d₂ 45 C
    → (d₃ ≡ overlay d 0 (turn_bytes t)) × (kept_in d₃ ≡ kept_of t)
settled t d A B C d₁ d₂ d₃ h a u b c e₁ e₂ e₃ =
    let n = answer_length_law t.answer in
    let w : d₃ ≡ overlay d 0 (turn_bytes t) =
    rw (e₃, e₂, e₁, a, b, c) (three_put 16 29 d _ _ _ (front_length t) refl (omega arith)) in
    (w, rw w (kept_back d t u))

-- ---- what a call leaves

-- two readers that are kept as the same bytes are one
pub same_reader_law : (x y : ReaderB) → same (reader_bytes x) (reader_bytes y) ≡ true → x ≡ y
same_reader_law x y h =
    sym (reader_back x []) ∙ ap (λ (b : List ℕ). reader_in (b ++ [])) (same_sound (reader_bytes x) (reader_bytes y) h) ∙ reader_back y []

right_of : (a b : Bool) → (a && b) ≡ true → b ≡ true
right_of true b e = e
right_of false true e = refl
right_of false false e = e

pub stays_by : (x : ReaderB) (t : TurnB) (r : Bool) (A B : List ℕ) → answer_refuses t.answer ≡ true → r ≡ same A B
    → A ≡ reader_bytes x → B ≡ reader_bytes t.reader → r ≡ stays x t
unfolding stays
stays_by x t r A B h e f g = rw (h, e, f, g)

pub moves_by : (x : ReaderB) (t : TurnB) → answer_refuses t.answer ≡ false → false ≡ stays x t
unfolding stays
moves_by x t h = rw h

stays_same : (x : ReaderB) (t : TurnB) → stays x t ≡ true → x ≡ t.reader
unfolding stays
stays_same x t h = same_reader_law x t.reader (right_of (answer_refuses t.answer) _ h)

-- nothing is written
pub stayed : (b : List ℕ) (x : ReaderB) (t : TurnB) → x ≡ reader_in b → stays x t ≡ true → (b ≡ turn_left b t) × (kept_in b ≡ kept_after b t)
unfolding turn_left kept_after
stayed b x t e h =
    let s : stays (reader_in b) t ≡ true = sym (ap (λ (r : ReaderB). stays r t) e) ∙ h in
    let w : reader_in b ≡ t.reader = stays_same (reader_in b) t s in
    (rw s, rw s (ap (λ (r : ReaderB). kept_with r b) w))

-- a turn's bytes are
pub moved : (b b' : List ℕ) (x : ReaderB) (t : TurnB) → x ≡ reader_in b → stays x t ≡ false → b' ≡ overlay b 0 (turn_bytes t) → kept_in b' ≡ kept_of t
    → (b' ≡ turn_left b t) × (kept_in b' ≡ kept_after b t)
unfolding turn_left kept_after
moved b b' x t e h w k =
    let s : stays (reader_in b) t ≡ false = sym (ap (λ (r : ReaderB). stays r t) e) ∙ h in
    (rw s w, rw s k)

-- a refusal that leaves the reader what it was writes nothing
pub refused_writes_nothing : (b : List ℕ) (t : TurnB) → answer_refuses t.answer ≡ true → t.reader ≡ reader_in b → turn_left b t ≡ b
unfolding turn_left stays
refused_writes_nothing b t h e = rw (h, e, same_refl (reader_bytes (reader_in b)))
