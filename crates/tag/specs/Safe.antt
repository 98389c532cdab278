-- What a deed names is there: its blocks, and of a write its bytes in the row f. The code leans on it where it reads and writes memory.
use Rattle.std.specs.Prelude.{◌≡◌, ℕ, ◌+◌, ◌*◌, ◌≤◌, ◌<◌, true, List}
use Rattle.frame_v.specs.FrameV.{bytes_in, sound}
use Rattle.request_v.specs.declared.Tag.{Tag}
use Rattle.request_v.specs.declared.Deed.{Deed}
use Rattle.request_v.specs.declared.Deed.TheVariants.{Nothing, Quiets, Drops, Tells, Waits, Fails, Reads, Writes, Locks, Selects, Resets}

abbrev pub Safe : Tag → List ℕ → Deed → Type 0
Safe t f Nothing = Unit {0}
Safe t f Quiets = Unit {0}
Safe t f Drops = Unit {0}
Safe t f Tells = Unit {0}
Safe t f (Waits n) = Unit {0}
Safe t f (Fails e) = Unit {0}
Safe t f (Reads a n s) = a + n ≤ t.blocks
Safe t f (Writes a n p) = (a + n ≤ t.blocks) × (p + n * t.size ≤ bytes_in f) × (sound f ≡ true)
Safe t f (Locks b) = b < t.blocks
Safe t f Selects = Unit {0}
Safe t f Resets = Unit {0}
