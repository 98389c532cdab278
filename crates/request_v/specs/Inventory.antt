-- Document 02, T-10: "inventory with 1 or 16 slots, mask of 0 to 64 or 0 to 60 bits, .. AFI", as a tag takes it. Bytes go low bit first and the low
-- byte first, so that the low bits of a UID are the first ones of its row, and a mask of n bits is compared with the first n.
use Rattle.std.specs.Prelude.{ℕ, ◌+◌, ◌*◌, ◌/◌, Bool, true, cond, not, ◌&&◌, List, take, drop, eqb, leb}
use Rattle.rows.specs.Rows.{same}
use Rattle.parity.specs.Bits.{unbits}
use Rattle.frame.specs.Frame.{air_bits}
use Rattle.frame_b.specs.FrameB.{byte_at}
use Rattle.frame_v.specs.FrameV.{bytes_in}
use Rattle.selection_b.specs.TakenB.{admits}
use Rattle.request_v.specs.Flags.{listens}
use Rattle.request_v.specs.declared.Tag.{Tag}
use Rattle.request_v.specs.declared.Flags.{Flags}
use Rattle.request_v.specs.declared.Deed.{Deed}
use Rattle.request_v.specs.declared.Deed.TheVariants.{Nothing, Tells, Waits}

-- the byte that holds the mask's length: behind flags, code and the AFI, if there is one
abbrev pub length_at : Flags → ℕ
length_at q = cond q.fifth 3 2

-- "1 or 16 slots, mask of 0 to 64 or 0 to 60 bits"
abbrev pub most_mask : Bool → ℕ
most_mask one = cond one 64 60

-- 01, no Option flag, a mask that may be so long, and just as many mask bytes as it takes
unfoldable pub is_inventory : Flags → ℕ → ℕ → ℕ → Bool
is_inventory q code n len = eqb code 0x01 && (not q.option && (leb len (most_mask q.sixth) && eqb n (length_at q + 1 + (len + 7) / 8)))

-- a tag without AFI answers no request that carries one
unfoldable pub admitted : Tag → Flags → ℕ → Bool
admitted t q asked = cond q.fifth (t.supports && admits asked t.afi) true

-- the len bits at index at of a row are the low bits of a UID
unfoldable pub matching : List ℕ → List ℕ → ℕ → ℕ → Bool
matching uid f at len = same (take len (drop at f)) (take len (air_bits uid))

-- the slot of a tag, from 0: the four bits of its UID above the mask
unfoldable pub slot_of : List ℕ → ℕ → ℕ
slot_of uid len = unbits (take 4 (drop len (air_bits uid)))

-- a tag that the mask fits: of 16 slots it answers in its own, which begins with as many EOFs
abbrev pub turn_in : Bool → ℕ → Deed
turn_in one slot = cond one Tells (cond (eqb slot 0) Tells (Waits slot))

unfoldable pub inventory_deed : Tag → Flags → List ℕ → Deed
inventory_deed t q f =
    let len : ℕ = byte_at (length_at q) f in
    cond (listens t.state && (is_inventory q (byte_at 1 f) (bytes_in f) len && (admitted t q (byte_at 2 f) && matching t.uid f (8 * (length_at q + 1)) len)))
    (turn_in q.sixth (slot_of t.uid len))
    Nothing
