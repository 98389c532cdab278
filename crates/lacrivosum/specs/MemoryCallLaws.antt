-- A call of the reader that remembers on a state that is too short, and on one that is not; what a refusal leaves; a new state. Assumes nothing.
use Rattle.std.specs.Prelude.{◌≡◌, refl, true, List, [], ℕ, ◌<◌, ◌≤◌, length, replicate}
use Rattle.std.proofs.Common.{ap, ◌∙◌, lt-ltb, le-ltb}
use Rattle.refusal.specs.declared.Refusal.{Refusal}
use Rattle.refusal.specs.declared.Refusal.TheVariants.{Room}
use Rattle.rows.specs.Rows.{fill}
use Rattle.rows.specs.ListLaws.{same_refl}
use Rattle.reader.specs.Calls.{row_after}
use Rattle.reader.specs.declared.Reader.{Reader}
use Rattle.memory.specs.Calls as memory
use Rattle.memory.specs.Stored.{stored}
use Rattle.memory.specs.declared.Path.{Path}
use Rattle.memory.specs.declared.Memory.{Memory}
use Rattle.reader_link.specs.ReaderCalls.{new_reader}
use Rattle.kept.specs.Kept.{refused, bytes_at, number}
use Rattle.kept_reader.specs.KeptReader.{selection_number, selection_of, selection_bytes}
use Rattle.kept_memory.specs.KeptMemory.{path_in, path_bytes, stays, memory_left, memory_in, memory_after}
use Rattle.lacrivosum.specs.Library.{done}
use Rattle.lacrivosum.specs.Memories.{memory_done}

pub memory_short : (s o : List ℕ) (m : Memory) (n : ℕ) → length s < 192 → n ≡ refused Room → memory_done s o m ≡ done n s o
unfolding memory_done
memory_short s o m n h e = rw (lt-ltb _ _ h, e)

memory_kept : (s o s' o' : List ℕ) (m : Memory) (n : ℕ) → 192 ≤ length s → n ≡ selection_number m.turn.answer → s' ≡ memory_left s m
    → o' ≡ row_after m.turn o → memory_done s o m ≡ done n s' o'
unfolding memory_done
memory_kept s o s' o' m n h a b w = rw (le-ltb _ _ h, a, b, w)

-- a call by value, f, on the reader and the path that the bytes say
pub memory_called : (s o s' o' : List ℕ) (f : Reader → Path → Memory) (r : Reader) (p : Path) (m : Memory) (n : ℕ) → 192 ≤ length s
    → r ≡ selection_of s → p ≡ path_in s → m ≡ f r p → o' ≡ row_after m.turn o
    → (n ≡ selection_number m.turn.answer) × ((s' ≡ memory_left s m) × (memory_in s' ≡ memory_after s m))
    → (memory_done s o (f (selection_of s) (path_in s)) ≡ done n s' o') × (192 ≤ length s → memory_in s' ≡ memory_after s (f (selection_of s) (path_in s)))
memory_called s o s' o' f r p m n h e g t w k =
    let c : m ≡ f (selection_of s) (path_in s) = t ∙ ap (λ (x : Reader). f x p) e ∙ ap (f (selection_of s)) g in
    (rw (← c) (memory_kept s o s' o' m n h k.0 k.1.0 w), λ _. rw (← c) k.1.1)

-- ---- a refusal that leaves reader and path what they were leaves every byte

refused_stays : (r : Reader) (p : Path) (e : Refusal) → stays r p (memory.refused r p e) ≡ true
unfolding stays memory.refused
refused_stays r p e = rw (same_refl (selection_bytes r), same_refl (path_bytes p))

pub refused_writes_nothing : (b : List ℕ) (e : Refusal) → memory_left b (memory.refused (selection_of b) (path_in b) e) ≡ b
unfolding memory_left
refused_writes_nothing b e = rw (refused_stays (selection_of b) (path_in b) e)

-- ---- a new state

-- a state of zeros is a new reader that remembers nothing
pub new_zeros : (selection_of (replicate 192 0) ≡ new_reader.reader) × (path_in (replicate 192 0) ≡ stored [])
unfolding selection_of path_in bytes_at number fill stored
new_zeros = (refl, refl)
