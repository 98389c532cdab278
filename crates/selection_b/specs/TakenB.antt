-- What a card makes of a row. A row is the frame that it looks like if it equals it bit for bit, so that wrong length, wrong CRC_B and
-- collided bits need no rule of their own.
use Rattle.std.specs.Prelude.{ℕ, ◌/◌, ◌%◌, Bool, cond, ◌&&◌, ◌||◌, List, [], ◌∷◌, drop, eqb, leb, ltb, Option, Some, None}
use Rattle.rows.specs.Rows.{same}
use Rattle.frame.specs.Frame.{bytes_of}
use Rattle.frame_b.specs.FrameB.{frame_b, byte_at}
use Rattle.selection_b.specs.TypeB.{marker, attrib}
use Rattle.selection_b.specs.declared.Request.{Request}

-- AFI and PARAM, if the row is a request
abbrev pub afi_in : List ℕ → ℕ
afi_in f = byte_at 1 f

abbrev pub param_in : List ℕ → ℕ
param_in f = byte_at 2 f

-- REQB or WUPB: PARAM's b8 to b5 are 0, and its code of N is one of five
unfoldable pub is_request : List ℕ → Bool
is_request f = ltb (param_in f) 16 && leb (param_in f % 8) 4 && same f (frame_b (0x05 ∷ afi_in f ∷ param_in f ∷ []))

-- .. it is WUPB
unfoldable pub wakes : List ℕ → Bool
wakes f = leb 8 (param_in f)

-- N of a code; 0 of one that is none
unfoldable pub slots_of : ℕ → ℕ
slots_of k = cond (eqb k 0) 1 (cond (eqb k 1) 2 (cond (eqb k 2) 4 (cond (eqb k 3) 8 (cond (eqb k 4) 16 0))))

-- .. its N
unfoldable pub slots_in : List ℕ → ℕ
slots_in f = slots_of (param_in f % 8)

-- what a card reads of it, if it is one
unfoldable pub request_read : List ℕ → Option Request
request_read f = cond (is_request f) (Some (record { wake = wakes f; slots = slots_in f; afi = afi_in f })) None

-- "admitted by the request's AFI": 00 admits all, X0 every card of family X, another value the card with that AFI
unfoldable pub admits : ℕ → ℕ → Bool
admits asked own = eqb asked 0x00 || eqb asked own || eqb (asked % 16) 0 && eqb (asked / 16) (own / 16)

-- Slot-MARKER of a slot
unfoldable pub is_marker : ℕ → List ℕ → Bool
is_marker slot f = leb 2 slot && leb slot 16 && same f (marker slot)

-- ATTRIB to the card with this PUPI, whatever its parameters
unfoldable pub is_attrib : List ℕ → List ℕ → Bool
is_attrib pupi f = same f (attrib pupi (bytes_of 4 (drop 40 f)))
