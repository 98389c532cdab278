-- A reader that remembers is read back with its path, and so is what the last call answered, whether it writes or not. Assumes nothing.
use Rattle.std.specs.Prelude.{◌≡◌, refl, Bool, true, false, ◌&&◌, List, [], ◌++◌, ℕ, ◌+◌, ◌-◌, ◌<◌, ◌≤◌, length, take, drop, set, replicate}
use Rattle.std.proofs.Common.{sym, ap, ◌∙◌, append_assoc, zero-add, arith, length-append, length-drop, take_at, length-take-le}
use Rattle.std.proofs.lemmas.List.{length-replicate}
use Rattle.rows.specs.Rows.{overlay, same}
use Rattle.rows.proofs.RowLaws.{length_overlay, overlay_next, overlay_all}
use Rattle.rows.specs.ListLaws.{same_sound}
use Rattle.reader.specs.declared.Reader.{Reader}
use Rattle.reader.specs.declared.Answer.{Answer}
use Rattle.memory.specs.Calls.{start_call}
use Rattle.memory.specs.declared.Path.{Path}
use Rattle.memory.specs.declared.Memory.{Memory}
use Rattle.kept.specs.Kept.{bytes_at, word, number, event_of, length_of}
use Rattle.kept.specs.KeptLaws.{word_back, room, three_put}
use Rattle.kept_reader.specs.KeptReader.{selection_bytes, selection_of, selection_refuses, selection_event, selection_length}
use Rattle.kept_reader.specs.KeptReaderLaws.{selection_back, selection_length_law}
use Rattle.kept_memory.specs.KeptMemory.{start_on, told_bytes, path_bytes, path_in, Fits, memory_bytes, stays, memory_left, Remembered, memory_in, memory_of, memory_after}

-- ---- a sweep begins, or is refused and the path stays

pub start_refused : (r : Reader) (p : Path) (room : ℕ) (m : Memory) → m ≡ start_call r room → selection_refuses m.turn.answer ≡ true
    → record { turn = m.turn; path = p } ≡ start_on r p room
unfolding start_on
start_refused r p room m e h = rw (← e, h)

pub start_begun : (r : Reader) (p : Path) (room : ℕ) (m : Memory) → m ≡ start_call r room → selection_refuses m.turn.answer ≡ false → m ≡ start_on r p room
unfolding start_on
start_begun r p room m e h = rw (← e, h)

-- ---- the bytes

word_length : (n : ℕ) → length (word 8 n) ≡ 8
unfolding word
word_length n = refl

pub told_length_law : (a : Answer) → length (told_bytes a) ≡ 43
unfolding told_bytes word
told_length_law a = refl

-- the event and its length, written into zeros
pub told_put : (a : Answer) (e n : ℕ) (w d : List ℕ) → e ≡ selection_event a → n ≡ selection_length a → w ≡ word 8 n
    → d ≡ overlay (set (replicate 43 0) 24 e) 25 w → d ≡ told_bytes a
unfolding overlay told_bytes word
told_put a e n w d f g h k = rw (k, h, f, g)

path_length : (p : Path) → length p.row ≡ 120 → length (path_bytes p) ≡ 128
unfolding path_bytes word
path_length p h = omega arith

-- a path's bytes, written one part behind the other
pub path_room : (k : ℕ) (w d : List ℕ) → w ≡ word 8 k → d ≡ overlay (replicate 128 0) 0 w → length d ≡ 128
path_room k w d e f =
    let n : length w ≡ 8 = ap length e ∙ word_length k in
    let z : length {A = ℕ} (replicate 128 0) ≡ 128 = length-replicate {A = ℕ} 128 0 in
    rw f (length_overlay (replicate 128 0) 0 w (omega arith) ∙ z)

pub path_put : (p : Path) (w d₁ d₂ : List ℕ) → w ≡ word 8 p.known → length p.row ≡ 120 → d₁ ≡ overlay (replicate {A = ℕ} 128 0) 0 w
    → d₂ ≡ overlay d₁ 8 p.row → d₂ ≡ path_bytes p
unfolding path_bytes
path_put p w d₁ d₂ e h e₁ e₂ =
    let n = word_length p.known in
    let z : length {A = ℕ} (replicate 128 0) ≡ 128 = length-replicate {A = ℕ} 128 0 in
    let k : length (word 8 p.known ++ p.row) ≡ 128 = rw (length-append, n, h) in
    let g : overlay (overlay (replicate {A = ℕ} 128 0) 0 (word 8 p.known)) 8 p.row ≡ overlay (replicate 128 0) 0 (word 8 p.known ++ p.row) =
    rw (n, zero-add) at (overlay_next (replicate 128 0) 0 (word 8 p.known) p.row (omega arith)) in
    rw (e₂, e₁, e) (g ∙ overlay_all (replicate 128 0) (word 8 p.known ++ p.row) (z ∙ sym k))

-- .. and read
pub path_read : (b r : List ℕ) (k : ℕ) → 192 ≤ length b → k ≡ number 8 b 64 → r ≡ overlay (replicate 120 0) 0 (take 120 (drop 72 b))
    → record { row = r; known = k } ≡ path_in b
unfolding path_in
path_read b r k h e w =
    let d : length (drop 72 b) ≡ length b - 72 = length-drop 72 b in
    let t : length (take 120 (drop 72 b)) ≡ 120 = length-take-le 120 (drop 72 b) (omega arith) in
    let v : overlay (replicate 120 0) 0 (take 120 (drop 72 b)) ≡ take 120 (drop 72 b) = overlay_all _ _ (rw t) in
    rw (e, w, v)

-- ---- the path

path_made : (p : Path) (r : List ℕ) (k : ℕ) → r ≡ p.row → k ≡ p.known → record { row = r; known = k } ≡ p
path_made p r k e f = rw (e, f)

-- behind 64 bytes a path is read back
pub path_back : (r : Reader) (a : Answer) (p : Path) (rest : List ℕ) → Fits p → path_in (selection_bytes r ++ (told_bytes a ++ (path_bytes p ++ rest))) ≡ p
unfolding selection_bytes told_bytes path_bytes path_in bytes_at word room
path_back r a p rest f =
    path_made p _ _ (take_at p.row rest 120 f.1) (word_back 8 p.known (selection_bytes r ++ (told_bytes a ++ (path_bytes p ++ rest))) 64 f.0 refl)

-- ---- what else the last call answered

told_back : (r : Reader) (a : Answer) (rest : List ℕ) → selection_length a < 18446744073709551616
    → (event_of (selection_bytes r ++ (told_bytes a ++ rest)) ≡ selection_event a) × (length_of (selection_bytes r ++ (told_bytes a ++ rest)) ≡ selection_length a)
unfolding selection_bytes told_bytes bytes_at word room
told_back r a rest h = (refl, word_back 8 (selection_length a) (selection_bytes r ++ (told_bytes a ++ rest)) 46 h refl)

says : (b : List ℕ) (m : Memory) → selection_of b ≡ m.turn.reader → path_in b ≡ m.path → event_of b ≡ selection_event m.turn.answer
    → length_of b ≡ selection_length m.turn.answer → memory_in b ≡ memory_of m
says b m e f g h = rw (e, f, g, h)

-- "encoding then decoding gives the state back"
pub memory_back : (d : List ℕ) (m : Memory) → length m.turn.reader.five ≡ 5 → length m.turn.reader.uid.bytes ≡ 10
    → selection_length m.turn.answer < 18446744073709551616 → Fits m.path → memory_in (overlay d 0 (memory_bytes m)) ≡ memory_of m
unfolding overlay
memory_back d m f u n z =
    let r = m.turn.reader in
    let a = m.turn.answer in
    let p = m.path in
    let rest : List ℕ = drop (0 + length (memory_bytes m)) d in
    let e : memory_bytes m ++ rest ≡ selection_bytes r ++ (told_bytes a ++ (path_bytes p ++ rest)) =
    append_assoc (selection_bytes r ++ told_bytes a) (path_bytes p) rest ∙ append_assoc (selection_bytes r) (told_bytes a) (path_bytes p ++ rest) in
    let t = told_back r a (path_bytes p ++ rest) n in
    rw e (says _ m (selection_back r _ f u) (path_back r a p rest z) t.0 t.1)

-- three rows written one behind the other keep what comes of a call
pub settled : (m : Memory) (d A B C d₁ d₂ d₃ : List ℕ) → 192 ≤ length d
    → A ≡ selection_bytes m.turn.reader → (length m.turn.reader.five ≡ 5) × (length m.turn.reader.uid.bytes ≡ 10)
    → B ≡ told_bytes m.turn.answer → selection_length m.turn.answer < 18446744073709551616
    → C ≡ path_bytes m.path → Fits m.path
    → d₁ ≡ overlay d 0 A → d₂ ≡ overlay d₁ 21 B → d₃ ≡ overlay d₂ 64 C
    → (d₃ ≡ overlay d 0 (memory_bytes m)) × (memory_in d₃ ≡ memory_of m)
settled m d A B C d₁ d₂ d₃ h a f b n c z e₁ e₂ e₃ =
    let k = path_length m.path z.1 in
    let w : d₃ ≡ overlay d 0 (memory_bytes m) =
    rw (e₃, e₂, e₁, a, b, c) (three_put 21 43 d _ _ _ (selection_length_law m.turn.reader) (told_length_law m.turn.answer) (omega arith)) in
    (w, rw w (memory_back d m f.0 f.1 n z))

-- ---- a call that is refused, reader and path being what they were

left_of : (a b : Bool) → (a && b) ≡ true → a ≡ true
left_of true b e = refl
left_of false b e = e

right_of : (a b : Bool) → (a && b) ≡ true → b ≡ true
right_of true b e = e
right_of false true e = refl
right_of false false e = e

same_selection : (r s : Reader) → length r.five ≡ 5 → length r.uid.bytes ≡ 10 → length s.five ≡ 5 → length s.uid.bytes ≡ 10
    → same (selection_bytes r) (selection_bytes s) ≡ true → r ≡ s
same_selection r s f u g v h =
    sym (selection_back r [] f u) ∙ ap (λ (b : List ℕ). selection_of (b ++ [])) (same_sound _ _ h) ∙ selection_back s [] g v

-- a path in the bytes of some reader and some answer is read back from them
same_path : (r : Reader) (a : Answer) (p q : Path) → Fits p → Fits q → same (path_bytes p) (path_bytes q) ≡ true → p ≡ q
same_path r a p q f g h =
    let at : List ℕ → Path = λ b. path_in (selection_bytes r ++ (told_bytes a ++ (b ++ []))) in
    sym (path_back r a p [] f) ∙ ap at (same_sound _ _ h) ∙ path_back r a q [] g

pub stays_by : (r : Reader) (p : Path) (m : Memory) (x a b c : Bool) (A A' B B' : List ℕ) → x ≡ (a && (b && c)) → a ≡ selection_refuses m.turn.answer
    → b ≡ same A A' → A ≡ selection_bytes r → A' ≡ selection_bytes m.turn.reader → c ≡ same B B' → B ≡ path_bytes p → B' ≡ path_bytes m.path
    → x ≡ stays r p m
unfolding stays
stays_by r p m x a b c A A' B B' e f g h i j k l = rw (e, f, g, h, i, j, k, l)

stays_same : (r : Reader) (p : Path) (m : Memory) → stays r p m ≡ true
    → (same (selection_bytes r) (selection_bytes m.turn.reader) ≡ true) × (same (path_bytes p) (path_bytes m.path) ≡ true)
unfolding stays
stays_same r p m h =
    let s = right_of (selection_refuses m.turn.answer) _ h in
    (left_of _ _ s, right_of (same (selection_bytes r) (selection_bytes m.turn.reader)) _ s)

-- nothing is written
pub stayed : (b : List ℕ) (r : Reader) (p : Path) (m : Memory) → r ≡ selection_of b → p ≡ path_in b
    → (length r.five ≡ 5) × (length r.uid.bytes ≡ 10) × (length m.turn.reader.five ≡ 5) × (length m.turn.reader.uid.bytes ≡ 10)
    × Fits p × Fits m.path → stays r p m ≡ true → (b ≡ memory_left b m) × (memory_in b ≡ memory_after b m)
unfolding memory_left memory_after
stayed b r p m e f z h =
    let s : stays (selection_of b) (path_in b) m ≡ true = rw (← e, ← f) h in
    let k = stays_same r p m h in
    let x : selection_of b ≡ m.turn.reader = sym e ∙ same_selection r m.turn.reader z.0 z.1 z.2 z.3 k.0 in
    let y : path_in b ≡ m.path = sym f ∙ same_path r m.turn.answer p m.path z.4 z.5 k.1 in
    let w : Reader → Path → Remembered = λ u v. record { reader = u; path = v; event = event_of b; length = length_of b } in
    (rw s, rw s (ap (λ (u : Reader). w u (path_in b)) x ∙ ap (w m.turn.reader) y))

-- what came of the call is
pub moved : (b b' : List ℕ) (r : Reader) (p : Path) (m : Memory) → r ≡ selection_of b → p ≡ path_in b → stays r p m ≡ false
    → b' ≡ overlay b 0 (memory_bytes m) → memory_in b' ≡ memory_of m → (b' ≡ memory_left b m) × (memory_in b' ≡ memory_after b m)
unfolding memory_left memory_after
moved b b' r p m e f h w k =
    let s : stays (selection_of b) (path_in b) m ≡ false = rw (← e, ← f) h in
    (rw s w, rw s k)
