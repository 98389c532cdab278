-- A call on a state that is too short, and on one that is not. Assumes nothing.
use Rattle.std.specs.Prelude.{◌≡◌, refl, List, ℕ, ◌<◌, ◌≤◌, length, replicate}
use Rattle.std.proofs.Common.{ap, ◌∙◌, lt-ltb, le-ltb}
use Rattle.refusal.specs.declared.Refusal.TheVariants.{Room}
use Rattle.rows.specs.Rows.{overlay, fill}
use Rattle.reader_link.specs.declared.LinkReader.{LinkReader}
use Rattle.reader_link.specs.declared.LinkTurn.{LinkTurn}
use Rattle.reader_link.specs.ReaderCalls.{Called, new_reader}
use Rattle.uid.specs.Uid.{byte_count, uid_bytes}
use Rattle.uid.specs.declared.Uid.{Uid}
use Rattle.kept.specs.Kept.{refused, bytes_at, uid_in}
use Rattle.kept_reader.specs.KeptReader.{answer_number, turn_left, reader_of, selection_of, link_of, kept_in, kept_after}
use Rattle.lacrivosum.specs.Library.{done, left, reader_done, uid_done}

pub left_short : (s x y : List ℕ) → length s < 64 → x ≡ left s x y
unfolding left
left_short s x y h = rw (lt-ltb _ _ h)

pub left_by_law : (s b b' : List ℕ) (f : LinkReader → Called) (x : LinkReader) → 64 ≤ length s → x ≡ reader_of s → b' ≡ (f x).buffer
    → b' ≡ left s b (f (reader_of s)).buffer
unfolding left
left_by_law s b b' f x h e w = rw (le-ltb _ _ h, ← e) w

pub reader_short : (s o : List ℕ) (t : Called) (n : ℕ) → length s < 64 → n ≡ refused Room → reader_done s o t ≡ done n s o
unfolding reader_done
reader_short s o t n h e = rw (lt-ltb _ _ h, e)

pub reader_kept : (s o s' o' : List ℕ) (t : Called) (u : LinkTurn) (n : ℕ) → 64 ≤ length s → u ≡ t.turn
    → n ≡ answer_number u.answer → s' ≡ turn_left s u → o' ≡ overlay o 0 t.sent
    → reader_done s o t ≡ done n s' o'
unfolding reader_done
reader_kept s o s' o' t u n h e a c f = rw (le-ltb _ _ h, a, c, f, e)

-- a call by value, f, on the reader that the bytes say
pub reader_called : (s o s' o' : List ℕ) (f : LinkReader → Called) (x : LinkReader) (u : LinkTurn) (n : ℕ) → 64 ≤ length s → x ≡ reader_of s
    → u ≡ (f x).turn → o' ≡ overlay o 0 (f x).sent → n ≡ answer_number u.answer → s' ≡ turn_left s u
    → reader_done s o (f (reader_of s)) ≡ done n s' o'
reader_called s o s' o' f x u n h e t w a b = rw (← e) (reader_kept s o s' o' (f x) u n h t a b w)

pub reader_says : (s s' : List ℕ) (f : LinkReader → Called) (x : LinkReader) (u : LinkTurn) → x ≡ reader_of s → u ≡ (f x).turn → kept_in s' ≡ kept_after s u
    → kept_in s' ≡ kept_after s (f (reader_of s)).turn
reader_says s s' f x u e t b = b ∙ ap (kept_after s) (t ∙ ap (λ (y : LinkReader). (f y).turn) e)

-- ---- the UID

pub uid_short : (s o : List ℕ) (n : ℕ) → length s < 64 → n ≡ refused Room → uid_done s o ≡ done n s o
unfolding uid_done
uid_short s o n h e = rw (lt-ltb _ _ h, e)

pub uid_no_room : (s o : List ℕ) (n : ℕ) → 64 ≤ length s → length o < 10 → n ≡ refused Room → uid_done s o ≡ done n s o
unfolding uid_done
uid_no_room s o n h k e = rw (le-ltb _ _ h, lt-ltb _ _ k, e)

pub uid_given_law : (s o o' : List ℕ) (u : Uid) (n : ℕ) → 64 ≤ length s → 10 ≤ length o → u ≡ uid_in s → n ≡ byte_count u.size
    → o' ≡ overlay o 0 (uid_bytes u) → uid_done s o ≡ done n s o'
unfolding uid_done
uid_given_law s o o' u n h k e c w = rw (le-ltb _ _ h, le-ltb _ _ k, c, w, e)

-- ---- a new state

-- a state of zeros is a new reader
pub new_zeros : reader_of (replicate 64 0) ≡ new_reader
unfolding selection_of link_of bytes_at fill
new_zeros = refl
