-- The calls of this crate: a UID from bytes, and its on-air row written into a lent row.
use Rattle.std.specs.Prelude.{ℕ, Bool, cond, not, ◌&&◌, ◌||◌, List, [], ◌∷◌, length, get_or, eqb, ltb, Result, Ok, Err}
use Rattle.std.specs.Result.{result_unwrap_or}
use Rattle.rows.specs.Rows.{fill, overlay}
use Rattle.uid.specs.Uid.{valid, row_of}
use Rattle.refusal.specs.Refusal.{Said, giving, decline_if}
use Rattle.refusal.specs.declared.Refusal.TheVariants.{Argument}
use Rattle.uid.specs.declared.Uid.{Uid}
use Rattle.uid.specs.declared.UidSize.{UidSize}
use Rattle.uid.specs.declared.UidSize.TheVariants.{Single, Double, Triple}
use Rattle.refusal.specs.declared.Refusal.{Refusal}

-- bytes as a UID of a size, zeros behind
abbrev pub sized : UidSize → List ℕ → Uid
sized z l = record { size = z; bytes = fill 10 l }

-- a UID that is valid, or 6
unfoldable pub checked : Uid → Result Uid Refusal
checked u = cond (valid u) (Ok u) (Err Argument)

-- "Valid means: one of these lengths, .."; anything else is 6
unfoldable pub new_uid : List ℕ → Result Uid Refusal
new_uid l =
    cond (eqb (length l) 4) (checked (sized Single l))
    (cond (eqb (length l) 7) (checked (sized Double l))
    (cond (eqb (length l) 10) (checked (sized Triple l))
    (Err Argument)))

-- the UID of bytes; four zeros where they are no valid one's
abbrev pub uid_of : List ℕ → Uid
uid_of l = result_unwrap_or (new_uid l) (sized Single [])

-- "Valid means: one of these lengths, u0 of a 4-byte UID is not 88, u3 of a 7-byte UID is not 88", said of the bytes alone
unfoldable pub valid_bytes : List ℕ → Bool
valid_bytes l =
    eqb (length l) 4 && not (eqb (get_or l 0 0) 0x88)
    || eqb (length l) 7 && not (eqb (get_or l 3 0) 0x88)
    || eqb (length l) 10

-- "argument: invalid .. UID": 6
abbrev pub new_says : List ℕ → Said
new_says l = decline_if (not (valid_bytes l)) 6 (giving [])

-- the on-air row into a lent row, which has room for the longest: 1 where it is shorter
abbrev pub air_room : ℕ
air_room = 120

abbrev pub air_says : ℕ → Uid → Said
air_says room u = decline_if (ltb room air_room) 1 (giving (length (row_of u) ∷ []))

-- the lent row afterwards: the on-air row at its front, or unchanged
abbrev pub air_row_after : Result ℕ Refusal → Uid → List ℕ → List ℕ
air_row_after (Ok n) u out = overlay out 0 (row_of u)
air_row_after (Err e) u out = out
