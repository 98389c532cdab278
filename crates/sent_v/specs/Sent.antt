-- Document 02, T-10: the requests that our reader sends, as bytes without CRC_B. It works with one sub-carrier and at the high rate: b1 clear, b2 set.
use Rattle.std.specs.Prelude.{ℕ, ◌+◌, ◌/◌, Bool, cond, List, [], ◌∷◌, ◌++◌, take}
use Rattle.rows.specs.Rows.{fill}
use Rattle.parity.specs.Bits.{bits_of}
use Rattle.frame.specs.Frame.{air_bits, bytes_of}
use Rattle.sent_v.specs.declared.Mode.{Mode}
use Rattle.sent_v.specs.declared.Mode.TheVariants.{Addressed, Any, Chosen}
use Rattle.sent_v.specs.declared.Round.{Round}
use Rattle.sent_v.specs.declared.Head.{Head}

-- ---- inventory

-- 06 for 16 slots, 26 for one; with the AFI flag 16 and 36
abbrev pub round_flags : Bool → Bool → ℕ
round_flags one asks = 0x06 + cond one 0x20 0 + cond asks 0x10 0

-- flags and code, and behind them the AFI, if there is one
abbrev pub round_length : Bool → ℕ
round_length asks = cond asks 3 2

-- the low len bits of a mask, and zeros above them
unfoldable pub cut_mask : List ℕ → ℕ → List ℕ
cut_mask mask len = bytes_of 8 (fill 64 (take len (air_bits mask)))

-- "lengthening the mask by the slot number": four bits more, above those that it has
unfoldable pub grown_mask : List ℕ → ℕ → ℕ → List ℕ
grown_mask mask len slot = bytes_of 8 (fill 64 (take len (air_bits mask) ++ bits_of 4 slot))

-- flags, 01, the AFI if there is one, the mask's length, and as many mask bytes as it takes
unfoldable pub round_bytes : Round → List ℕ
round_bytes k =
    take (round_length k.asks) (round_flags k.one k.asks ∷ 0x01 ∷ k.afi ∷ [])
    ++ ((k.len ∷ []) ++ take ((k.len + 7) / 8) (cut_mask k.mask k.len))

-- ---- the other requests

-- 22, 02, 12: Address flag, neither, Select flag; 40 more with the Option flag
abbrev pub mode_flags : Mode → ℕ
mode_flags Addressed = 0x22
mode_flags Any = 0x02
mode_flags Chosen = 0x12

abbrev pub head_flags : Mode → Bool → ℕ
head_flags m option = mode_flags m + cond option 0x40 0

-- the UID stands in an addressed request only
abbrev pub head_length : Mode → ℕ
head_length Addressed = 10
head_length Any = 2
head_length Chosen = 2

-- flags, code, the UID if it is addressed, parameters, and the data of a write
unfoldable pub request_bytes : Head → List ℕ → List ℕ → List ℕ
request_bytes k parameters bytes = take (head_length k.mode) (head_flags k.mode k.option ∷ k.code ∷ k.uid) ++ (parameters ++ bytes)
