-- Document 02, T-10: a tag's memory, blocks of one size, one behind the other; a lock is a byte for each block, 0 where it is open.
use Rattle.std.specs.Prelude.{ℕ, zero, suc, ◌+◌, ◌*◌, Bool, cond, ◌&&◌, List, [], ◌∷◌, ◌++◌, take, drop, get_or, eqb, leb}

-- up to 256 blocks of up to 32 bytes
unfoldable pub geometry : ℕ → ℕ → Bool
geometry blocks size = leb 1 blocks && (leb blocks 256 && (leb 1 size && leb size 32))

-- block b
unfoldable pub block_of : ℕ → List ℕ → ℕ → List ℕ
block_of size memory b = take size (drop (size * b) memory)

-- its status: b1 tells that it is locked
abbrev pub status_of : ℕ → ℕ
status_of l = cond (eqb l 0) 0x00 0x01

-- what a read shows of block b: its bytes, and with the Option flag its status ahead of them
unfoldable pub shown : Bool → ℕ → List ℕ → List ℕ → ℕ → List ℕ
shown status size memory locks b = cond status (status_of (get_or locks b 0) ∷ block_of size memory b) (block_of size memory b)

-- .. of count blocks from b on
unfoldable pub shown_from : Bool → ℕ → List ℕ → List ℕ → ℕ → ℕ → List ℕ
shown_from status size memory locks b zero = []
shown_from status size memory locks b (suc count) = shown status size memory locks b ++ shown_from status size memory locks (b + 1) count
