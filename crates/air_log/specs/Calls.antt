-- The calls that write records: what of a row each of a record's rows shows, and how much room a record takes.
use Rattle.std.specs.Prelude.{ℕ, ◌+◌, ◌/◌, Bool, true, false, cond, List, ltb}
use Rattle.air_log.specs.Log.{plain, marks}
use Rattle.air_log.specs.declared.Kind.{Kind}
use Rattle.air_log.specs.declared.Kind.TheVariants.{Sent, Clean, Collided, Silence}
use Rattle.air_log.specs.declared.within.Part.{Part}
use Rattle.air_log.specs.declared.within.Part.TheVariants.{Bits, Marks}

-- "13 bits giving the number of air bits": a longer row has no record
abbrev pub most_bits : ℕ
most_bits = 8191

-- T-09: the bytes of a tick
abbrev pub tick_size : ℕ
tick_size = 4

-- the bytes of a row of n bits, "zero-filled to a byte"
abbrev pub row_size : ℕ → ℕ
row_size n = (n + 7) / 8

-- what a record shows of a bit: in the row of marks a 1 if it collided; else the bit, "0 at collided bits"
abbrev pub shown_bit : Bool → ℕ → ℕ
shown_bit true x = cond (ltb 1 x) 1 0
shown_bit false x = cond (ltb 1 x) 0 x

abbrev pub shown : Bool → List ℕ → List ℕ
shown true r = marks r
shown false r = plain r

-- which of the two a part of a record is
abbrev pub is_marks : Part → Bool
is_marks Marks = true
is_marks Bits = false

-- the number of a kind of record, in its header
abbrev pub kind_number : Kind → ℕ
kind_number Sent = 0
kind_number Clean = 1
kind_number Collided = 2
kind_number Silence = 3
