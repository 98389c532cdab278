-- Document 01, "When the core declines": the table's numbers, and what an answer says in the table's terms.
use Rattle.std.specs.Prelude.{ℕ, Bool, cond, List, [], ◌∷◌, Option, Some, None, Result, Ok, Err}
use Rattle.refusal.specs.declared.Refusal.{Refusal}
use Rattle.refusal.specs.declared.Refusal.TheVariants.{Room, Length, Parity, Crc, Check, Argument, Silence, Collision, Forbidden, TooLong, NotDue, Repeats}

abbrev pub number_of : Refusal → ℕ
number_of Room = 1
number_of Length = 2
number_of (Parity b) = 3
number_of Crc = 4
number_of Check = 5
number_of Argument = 6
number_of Silence = 7
number_of Collision = 8
number_of Forbidden = 9
number_of TooLong = 10
number_of NotDue = 11
number_of Repeats = 12

-- T-07: "the byte index with refusal 3: the first byte, from 0, whose parity is wrong among those checked"; "Other refusals carry 0 there"
abbrev pub place_of : Refusal → ℕ
place_of Room = 0
place_of Length = 0
place_of (Parity b) = b
place_of Crc = 0
place_of Check = 0
place_of Argument = 0
place_of Silence = 0
place_of Collision = 0
place_of Forbidden = 0
place_of TooLong = 0
place_of NotDue = 0
place_of Repeats = 0

-- "Where an answer is an enum, a definition gives this paper's number and values for every one of its cases": the table's number, 0 where
-- nothing is declined, and the values that the case holds. Each enum that a call answers has such a definition, `..Says`.
pub record Said : Type 0 where
  pub number : ℕ
  pub values : List ℕ

-- nothing is declined, and these are the values
abbrev pub giving : List ℕ → Said
giving vs = record { number = 0; values = vs }

-- declined with this number, and the byte index that comes with it
abbrev pub declining_at : ℕ → ℕ → Said
declining_at n place = record { number = n; values = place ∷ [] }

-- .. a number other than 3 comes with 0
abbrev pub declining : ℕ → Said
declining n = declining_at n 0

abbrev pub refusal_says : Refusal → Said
refusal_says e = declining_at (number_of e) (place_of e)

-- a call's own test, with the number that it gives where it applies; else what comes behind it
abbrev pub decline_if : Bool → ℕ → Said → Said
decline_if test n s = cond test (declining n) s

-- ---- what a Result of a call says: the refusal, or the values that it holds

-- a number: of bits or bytes that were written, or one that was read
abbrev pub number_says : Result ℕ Refusal → Said
number_says (Ok n) = giving (n ∷ [])
number_says (Err e) = refusal_says e

-- a value that the contract gives beside it, or none at all: that it was made
abbrev pub made_says : {T : Type 0} → Result T Refusal → Said
made_says (Ok x) = giving []
made_says (Err e) = refusal_says e

-- the bits of an answer, or silence
abbrev pub sent_says : Result (Option ℕ) Refusal → Said
sent_says (Ok (Some n)) = giving (n ∷ [])
sent_says (Ok None) = giving []
sent_says (Err e) = refusal_says e
