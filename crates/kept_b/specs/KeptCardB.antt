-- A Type B card kept in lent bytes, by places from the front:
--     0 state, 1 the slot of Requested, 2 AFI, 3 whether it answers slot markers, 4 PUPI (four bytes), 8 application data (four),
--     12 protocol information (three).
-- Of the 64 bytes that a call asks for these are the first 15; no call looks at those behind them.
use Rattle.std.specs.Prelude.{ℕ, Bool, true, false, cond, List, ◌∷◌, ◌++◌, ◌≡◌, length, get_or, eqb, Result, Ok, Err, Option, Some, None}
use Rattle.rows.specs.Rows.{overlay}
use Rattle.card_b.specs.declared.StateB.{StateB}
use Rattle.card_b.specs.declared.StateB.TheVariants.{Off, Idle, Requested, Declared, Active, Halt}
use Rattle.card_b.specs.declared.CardB.{CardB}
use Rattle.card_b.specs.declared.TakenB.{TakenB}
use Rattle.kept.specs.Kept.{bytes_at, flag, flag_of, refused}
use Rattle.refusal.specs.declared.Refusal.{Refusal}

abbrev pub state_tag : StateB → ℕ
state_tag Off = 0
state_tag Idle = 1
state_tag (Requested n) = 2
state_tag Declared = 3
state_tag Active = 4
state_tag Halt = 5

abbrev pub state_slot : StateB → ℕ
state_slot Off = 0
state_slot Idle = 0
state_slot (Requested n) = n
state_slot Declared = 0
state_slot Active = 0
state_slot Halt = 0

-- a state by its byte and its slot
abbrev pub state_in : ℕ → ℕ → StateB
state_in t n =
    cond (eqb t 0) Off
    (cond (eqb t 1) Idle
    (cond (eqb t 2) (Requested n)
    (cond (eqb t 3) Declared
    (cond (eqb t 4) Active Halt))))

unfoldable pub card_bytes : CardB → List ℕ
card_bytes c =
    state_tag c.state ∷ state_slot c.state ∷ c.afi ∷ flag c.markers
    ∷ (bytes_at 4 c.pupi 0 ++ (bytes_at 4 c.application 0 ++ bytes_at 3 c.protocol 0))

-- every row of bytes is one card
unfoldable pub card_in : List ℕ → CardB
card_in b = record {
  pupi = bytes_at 4 b 4;
  afi = get_or b 2 0;
  markers = flag_of (get_or b 3 0);
  application = bytes_at 4 b 8;
  protocol = bytes_at 3 b 12;
  state = state_in (get_or b 0 0) (get_or b 1 0);
}

-- what every card in memory has: arrays of their length
abbrev pub Fits : CardB → Type 0
Fits c = (length c.pupi ≡ 4) × ((length c.application ≡ 4) × (length c.protocol ≡ 3))

-- ---- what a call answers: so many bits to send, or minus the refusal's number; a call that is refused leaves the card what it was, and nothing
-- is written

abbrev pub taken_number : Result (Option ℕ) Refusal → ℕ
taken_number (Ok (Some n)) = n
taken_number (Ok None) = 0
taken_number (Err e) = refused e

abbrev pub taken_refuses : Result (Option ℕ) Refusal → Bool
taken_refuses (Ok (Some n)) = false
taken_refuses (Ok None) = false
taken_refuses (Err e) = true

unfoldable pub taken_left : List ℕ → TakenB → List ℕ
taken_left b t = cond (taken_refuses t.answer) b (overlay b 0 (card_bytes t.card))
