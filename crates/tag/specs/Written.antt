-- Document 02, T-10, of the claim: "a write without error makes the named blocks those sent and changes no other".
use Rattle.std.specs.Prelude.{◌≡◌, ℕ, ◌+◌, ◌*◌, ◌≤◌, ◌<◌, List, length, drop}
use Rattle.frame.specs.Frame.{bytes_of}
use Rattle.tag.specs.Memory.{block_of}

-- n blocks of a size from block a on were written, memory before and afterwards; the sent bytes stand from byte p of the row f on
pub record Written (size a n p : ℕ) (f before afterwards : List ℕ) : Type 0 where
  -- block a + i is the i-th that was sent
  pub named : (i : ℕ) → i < n → block_of size afterwards (a + i) ≡ block_of size (bytes_of (size * n) (drop (8 * p) f)) i
  -- every other is what it was
  pub ahead : (b : ℕ) → b < a → block_of size afterwards b ≡ block_of size before b
  pub behind : (b : ℕ) → a + n ≤ b → block_of size afterwards b ≡ block_of size before b
  pub long : length afterwards ≡ length before
