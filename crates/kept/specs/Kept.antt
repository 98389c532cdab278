-- A state kept in lent bytes: what each small part of it is as bytes, and what any bytes say. A byte that stands for no value is read as the
-- last one, so every byte pattern is one state.
use Rattle.std.specs.Prelude.{ℕ, zero, suc, ◌+◌, ◌-◌, ◌*◌, ◌/◌, ◌%◌, Bool, true, false, cond, List, [], ◌∷◌, get_or, eqb}
use Rattle.refusal.specs.Refusal.{number_of, place_of}
use Rattle.refusal.specs.declared.Refusal.{Refusal}
use Rattle.block.specs.declared.Told.{Told}
use Rattle.block.specs.declared.Told.TheVariants.{Quiet, Message, Granted, Deselected, Refused}
use Rattle.uid.specs.declared.Level.{Level}
use Rattle.uid.specs.declared.Level.TheVariants.{One, Two, Three}
use Rattle.uid.specs.declared.Uid.{Uid}
use Rattle.uid.specs.declared.UidSize.{UidSize}
use Rattle.uid.specs.declared.UidSize.TheVariants.{Single, Double, Triple}

-- the bytes that a state asks for
abbrev pub state_size : ℕ
state_size = 64

-- .. and the room for the longest UID
abbrev pub uid_room : ℕ
uid_room = 10

-- k bytes of a row from a place on
unfoldable pub bytes_at : ℕ → List ℕ → ℕ → List ℕ
bytes_at zero b p = []
bytes_at (suc k) b p = get_or b p 0 ∷ bytes_at k b (p + 1)

-- a number as k bytes, the low byte first
unfoldable pub word : ℕ → ℕ → List ℕ
word zero n = []
word (suc k) n = n % 256 ∷ word k (n / 256)

-- the number that k bytes of a row say, from a place on
unfoldable pub number : ℕ → List ℕ → ℕ → ℕ
number zero b p = 0
number (suc k) b p = get_or b p 0 + 256 * number k b (p + 1)

abbrev pub flag : Bool → ℕ
flag x = cond x 1 0

abbrev pub flag_of : ℕ → Bool
flag_of b = eqb b 1

abbrev pub level_tag : Level → ℕ
level_tag One = 0
level_tag Two = 1
level_tag Three = 2

abbrev pub level_of : ℕ → Level
level_of b = cond (eqb b 0) One (cond (eqb b 1) Two Three)

abbrev pub size_tag : UidSize → ℕ
size_tag Single = 0
size_tag Double = 1
size_tag Triple = 2

abbrev pub size_of : ℕ → UidSize
size_of b = cond (eqb b 0) Single (cond (eqb b 1) Double Triple)

-- the UID, at the same places in a reader's state and in a card's: its size, then ten bytes
abbrev pub uid_in : List ℕ → Uid
uid_in b = record { size = size_of (get_or b 9 0); bytes = bytes_at 10 b 10 }

-- what the last call told, at the same places too: an event's number, and what came with it
abbrev pub event_of : List ℕ → ℕ
event_of b = get_or b 45 0

abbrev pub length_of : List ℕ → ℕ
length_of b = number 8 b 46

-- ---- what a call answers: one number, 64 bits wide. A refusal is minus its number, in two's complement

abbrev pub refused : Refusal → ℕ
refused e = 18446744073709551616 - number_of e

-- so many bits to send, or a refusal
abbrev pub told_number : ℕ → Told → ℕ
told_number bits Quiet = bits
told_number bits (Message n) = bits
told_number bits Granted = bits
told_number bits Deselected = bits
told_number bits (Refused e) = refused e

abbrev pub told_refuses : Told → Bool
told_refuses Quiet = false
told_refuses (Message n) = false
told_refuses Granted = false
told_refuses Deselected = false
told_refuses (Refused e) = true

-- ---- what else a host is told: the event's number, and what comes with it: a message's length, or the byte index of a refusal (T-07)

abbrev pub told_event : Told → ℕ
told_event Quiet = 0
told_event (Message n) = 5
told_event Granted = 6
told_event Deselected = 7
told_event (Refused e) = 0

abbrev pub told_length : Told → ℕ
told_length Quiet = 0
told_length (Message n) = n
told_length Granted = 0
told_length Deselected = 0
told_length (Refused e) = place_of e
