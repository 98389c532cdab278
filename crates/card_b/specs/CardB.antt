-- Document 02, T-05: a Type B card's state rules, with the slot number that its host hands in.
use Rattle.std.specs.Prelude.{ℕ, Bool, true, false, cond, ◌&&◌, List, [], eqb, leb}
use Rattle.rows.specs.Rows.{same}
use Rattle.frame_b.specs.FrameB.{frame_b}
use Rattle.selection_b.specs.TypeB.{atqb_bytes, hltb, done}
use Rattle.selection_b.specs.TakenB.{afi_in, is_request, wakes, slots_in, admits, is_marker, is_attrib}
use Rattle.card_b.specs.declared.CardB.{CardB}
use Rattle.card_b.specs.declared.StateB.{StateB}
use Rattle.card_b.specs.declared.StateB.TheVariants.{Off, Idle, Requested, Declared, Active, Halt}

-- the state after a frame, and the row that the card sends; an empty row is silence
abbrev pub Step : Type 0
Step = StateB × List ℕ

-- its ATQB
unfoldable pub atqb_of : CardB → List ℕ
atqb_of c = atqb_bytes c.pupi c.application c.protocol

-- "The host hands in slot numbers, 1 to N"
unfoldable pub drawn : ℕ → ℕ → Bool
drawn number n = leb 1 number && leb number n

-- the states that take a request: WUPB a halted card too
abbrev pub heeds : StateB → Bool → Bool
heeds Off wake = false
heeds Idle wake = true
heeds (Requested s) wake = true
heeds Declared wake = true
heeds Active wake = false
heeds Halt wake = wake

-- an admitted request: ATQB in slot 1; in another slot a card that answers slot markers waits for its own, and one that does not stays out
unfoldable pub requested : CardB → ℕ → Step
requested c number = cond (eqb number 1) (Declared, frame_b (atqb_of c)) (cond c.markers (Requested number, []) (Idle, []))

-- REQB, or WUPB where wake, with n slots: one that is not for this card changes nothing
unfoldable pub asked : CardB → StateB → ℕ → Bool → ℕ → ℕ → Step
asked c y number wake n afi = cond (heeds y wake && (drawn number n && admits afi c.afi)) (requested c number) (y, [])

-- All other frames. "After ATTRIB's answer a card is silent"; a frame that is not awaited, or damaged, changes nothing
unfoldable pub other : CardB → StateB → List ℕ → Step
other c Off f = (Off, [])
other c Idle f = (Idle, [])
other c (Requested s) f = cond (is_marker s f) (Declared, frame_b (atqb_of c)) (Requested s, [])
other c Declared f = cond (is_attrib c.pupi f) (Active, done) (cond (same f (hltb c.pupi)) (Halt, done) (Declared, []))
other c Active f = (Active, [])
other c Halt f = (Halt, [])

-- The state rules
unfoldable pub rules : CardB → StateB → ℕ → List ℕ → Step
rules c y number f = cond (is_request f) (asked c y number (wakes f) (slots_in f) (afi_in f)) (other c y f)

abbrev pub with_state : CardB → StateB → CardB
with_state c s = record { pupi = c.pupi; afi = c.afi; markers = c.markers; application = c.application; protocol = c.protocol; state = s }

-- the card after a frame, and what it answers
unfoldable pub takes : CardB → ℕ → List ℕ → CardB
takes c number f = with_state c (rules c c.state number f).0

unfoldable pub answers : CardB → ℕ → List ℕ → List ℕ
answers c number f = (rules c c.state number f).1

-- Off is silent until power brings Idle; loss of power brings Off from anywhere
abbrev pub powered : StateB → StateB
powered Off = Idle
powered Idle = Idle
powered (Requested s) = Requested s
powered Declared = Declared
powered Active = Active
powered Halt = Halt

abbrev pub power_on : CardB → CardB
power_on c = with_state c (powered c.state)

abbrev pub power_off : CardB → CardB
power_off c = with_state c Off
