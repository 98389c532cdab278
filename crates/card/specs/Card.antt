-- Document 01, "The card": the state rules, blocks left out.
-- A frame is the one that a card awaits if it equals it bit for bit. So a frame of wrong length, parity, CRC_A or NVB, one with a
-- collided bit and one that does not match are "else" alike.
use Rattle.std.specs.Prelude.{ℕ, suc, ◌-◌, ◌/◌, Bool, true, false, cond, ◌&&◌, ◌||◌, List, [], length, take, drop, get_or, ltb}
use Rattle.rows.specs.Rows.{same}
use Rattle.parity.specs.Bits.{unbits}
use Rattle.uid.specs.Uid.{place, levels}
use Rattle.selection.specs.Selection.{reqa, wupa, hlta, anticollision, others, select, sak_frame, atqa, rats, ats, at_most8}
use Rattle.card.specs.declared.Card.{Card}
use Rattle.card.specs.declared.CardState.{CardState}
use Rattle.card.specs.declared.CardState.TheVariants.{Off, Idle, Ready, Active, Halt, ReadyStar, ActiveStar, Protocol}
use Rattle.uid.specs.declared.Level.{Level}
use Rattle.uid.specs.declared.Level.TheVariants.{One, Two, Three}

-- the state after a frame, and the row that the card sends; an empty row is silence
abbrev pub Step : Type 0
Step = CardState × List ℕ

-- the level after a level
abbrev pub up : Level → Level
up One = Two
up Two = Three
up Three = Three

-- the bits k that an ANTICOLLISION of this length sends: of its bits behind SEL and NVB each ninth is parity
abbrev pub bits_sent : List ℕ → ℕ
bits_sent f = (length f - 18) - (length f - 18) / 9

-- FSDI, if the frame is RATS: the second byte's high half
abbrev pub fsdi : List ℕ → ℕ
fsdi f = unbits (take 4 (drop 13 f))

-- levels remain after level l
unfoldable pub remain : Card → Level → Bool
remain c l = ltb (suc (place l)) (length (levels c.uid))

-- "SAK 04 while levels remain; at the end its last SAK, 20 if it speaks blocks, else 00"
unfoldable pub sak : Card → Level → ℕ
sak c l = cond (remain c l) 0x04 (cond c.blocks 0x20 0x00)

-- T-03: "second states Ready* and Active* for cards from Halt, which go back to Halt". A card that WUPA woke from Halt (`woken`) is in them where
-- another is in Ready and Active; the rules are the same but for where "else" leads
abbrev pub home : Bool → CardState
home false = Idle
home true = Halt

abbrev pub ready_in : Bool → Level → CardState
ready_in false l = Ready l
ready_in true l = ReadyStar l

abbrev pub active_in : Bool → CardState
active_in false = Active
active_in true = ActiveStar

-- "SAK, then Ready at L+1, or Active after the last"
unfoldable pub chosen : Card → Bool → Level → CardState
chosen c woken l = cond (remain c l) (ready_in woken (up l)) (active_in woken)

-- the frame is an ANTICOLLISION of level l, whose bytes are five, and its bits match
abbrev pub matching : Level → List ℕ → List ℕ → Bool
matching l five f = ltb (bits_sent f) 40 && same f (anticollision l (bits_sent f) five)

-- "Ready at level L", where five are the level's bytes: "ANTICOLLISION of level L whose bits match: the rest, same state. SELECT of level L
-- that matches all 40 bits: SAK, .. Everything else, REQA and a mismatch included: silent, Idle"; a woken card: Halt
unfoldable pub ready : Card → Bool → Level → List ℕ → List ℕ → Step
ready c woken l five f =
    cond (matching l five f) (ready_in woken l, others (bits_sent f) five)
    (cond (same f (select l five)) (chosen c woken l, sak_frame (sak c l)) (home woken, []))

-- .. a card that is Ready at a level which its UID lacks has no match: "else"
abbrev pub ready_at : Card → Bool → Level → List ℕ → Step
ready_at c woken l f = cond (ltb (place l) (length (levels c.uid))) (ready c woken l (get_or (levels c.uid) (place l) []) f) (home woken, [])

-- "Active: HLTA: silent, Halt. RATS where SAK was 20: ATS, Protocol. Else silent, Idle"; a woken card: Halt
abbrev pub active : Card → Bool → List ℕ → Step
active c woken f =
    cond (same f hlta) (Halt, [])
    (cond (c.blocks && same f (rats (fsdi f))) (Protocol (at_most8 (fsdi f)), ats (at_most8 c.index)) (home woken, []))

-- The state rules, state by state. Blocks take over in Protocol
unfoldable pub rules : Card → CardState → List ℕ → Step
rules c Off f = (Off, [])
rules c Idle f = cond (same f reqa || same f wupa) (Ready One, atqa c.uid.size) (Idle, [])
rules c (Ready l) f = ready_at c false l f
rules c Active f = active c false f
rules c Halt f = cond (same f wupa) (ReadyStar One, atqa c.uid.size) (Halt, [])
rules c (ReadyStar l) f = ready_at c true l f
rules c ActiveStar f = active c true f
rules c (Protocol i) f = (Protocol i, [])

abbrev pub with_state : Card → CardState → Card
with_state c s = record { uid = c.uid; blocks = c.blocks; index = c.index; state = s }

-- the card after a frame, and what it answers
unfoldable pub takes : Card → List ℕ → Card
takes c f = with_state c (rules c c.state f).0

unfoldable pub answers : Card → List ℕ → List ℕ
answers c f = (rules c c.state f).1

-- "Off: silent until power brings Idle. Loss of power brings Off from anywhere"
abbrev pub powered : CardState → CardState
powered Off = Idle
powered Idle = Idle
powered (Ready l) = Ready l
powered Active = Active
powered Halt = Halt
powered (ReadyStar l) = ReadyStar l
powered ActiveStar = ActiveStar
powered (Protocol i) = Protocol i

abbrev pub power_on : Card → Card
power_on c = with_state c (powered c.state)

abbrev pub power_off : Card → Card
power_off c = with_state c Off
