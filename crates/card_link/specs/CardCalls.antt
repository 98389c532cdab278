-- Document 01, "The card" and "RATS, ATS and blocks": the whole card, every state. Outside Protocol the rules of crate card hold word for
-- word; RATS opens the link; in Protocol the block rules hold; DESELECT's answer leads to Halt. Rows in, rows out.
--
-- The calls, each with the same contract form. With o what the definition gives:
--     take(x, row, answer, buffer, out)   take_call x row answer buffer (length out)
--     reply(x, answer, out)               reply_call x answer (length out)
--     ask(x, wtx, out)                    ask_call x wtx (length out)
-- the answer is `turn_of o`, buffer at exit `o.buffer` and out at exit `overlay out 0 o.sent`. `power_on` and `power_off` have no more
-- than `poweredOn x` and `poweredOff x`. A call tests 11, 1, 6, 10; a refused call sends nothing and changes nothing. CardSays.antt says the
-- answers in the table's numbers.
use Rattle.std.specs.Prelude.{ℕ, Bool, false, cond, not, List, [], length, ltb, Result, Ok, Err}
use Rattle.limits.specs.Limits.{row_room}
use Rattle.refusal.specs.declared.Refusal.{Refusal}
use Rattle.refusal.specs.declared.Refusal.TheVariants.{Room, NotDue}
use Rattle.card.specs.Card.{takes, answers, with_state, power_on, power_off}
use Rattle.card.specs.declared.Card.{Card}
use Rattle.card.specs.declared.CardState.{CardState}
use Rattle.card.specs.declared.CardState.TheVariants.{Off, Idle, Ready, Active, Halt, ReadyStar, ActiveStar, Protocol}
use Rattle.block.specs.declared.Told.{Told}
use Rattle.block.specs.declared.Told.TheVariants.{Quiet, Message, Granted, Deselected, Refused}
use Rattle.block.specs.Out.{Out}
use Rattle.block.specs.Row.{block_row, heard_row}
use Rattle.card_blocks.specs.declared.CardLink.{CardLink}
use Rattle.card_link.specs.declared.LinkCard.{LinkCard}
use Rattle.card_link.specs.declared.CardTurn.{CardTurn}
use Rattle.card_blocks.specs.CardRules.{card_open, owes}
use Rattle.card_blocks.specs.CardFrames.{card_block, card_reply, card_wtx}

-- no link: a card outside Protocol carries nothing of an earlier one
abbrev pub no_link : CardLink
no_link = card_open 0 0

-- a card that could be made, with no link yet
abbrev pub without_link : Result Card Refusal → Result LinkCard Refusal
without_link (Ok c) = Ok (record { card = c; link = no_link })
without_link (Err e) = Err e

-- the link of a card that a frame has led to this state from outside Protocol: RATS opens it, "card [starts] at 1"
abbrev pub link_in : Card → CardState → CardLink
link_in c (Protocol i) = card_open c.index i
link_in c Off = no_link
link_in c Idle = no_link
link_in c (Ready l) = no_link
link_in c Active = no_link
link_in c Halt = no_link
link_in c (ReadyStar l) = no_link
link_in c ActiveStar = no_link

-- the card by the link's news: "DESELECT: its answer, then Halt"
abbrev pub left_by : Told → Card → CardLink → LinkCard
left_by Deselected c l = record { card = with_state c Halt; link = no_link }
left_by Quiet c l = record { card = c; link = l }
left_by (Message n) c l = record { card = c; link = l }
left_by Granted c l = record { card = c; link = l }
left_by (Refused e) c l = record { card = c; link = l }

-- what comes of a call; sent is a row here
abbrev pub with_row : Card → Out CardLink → Out LinkCard
with_row c o = record { link = left_by o.told c o.link; sent = block_row o.sent; told = o.told; buffer = o.buffer }

-- a frame outside Protocol
unfoldable pub takes_outside : LinkCard → List ℕ → List ℕ → Out LinkCard
takes_outside x f buffer =
    record {
      link = record { card = takes x.card f; link = link_in x.card (takes x.card f).state };
      sent = answers x.card f;
      told = Quiet;
      buffer = buffer;
    }

-- .. in Protocol: "blocks: as in 2, with the card's size"
unfoldable pub takes_inside : LinkCard → List ℕ → List ℕ → List ℕ → Out LinkCard
takes_inside x f m buffer = with_row x.card (card_block x.link (heard_row x.link.own f) m buffer)

abbrev pub takes_in : CardState → LinkCard → List ℕ → List ℕ → List ℕ → Out LinkCard
takes_in (Protocol i) x f m buffer = takes_inside x f m buffer
takes_in Off x f m buffer = takes_outside x f buffer
takes_in Idle x f m buffer = takes_outside x f buffer
takes_in (Ready l) x f m buffer = takes_outside x f buffer
takes_in Active x f m buffer = takes_outside x f buffer
takes_in Halt x f m buffer = takes_outside x f buffer
takes_in (ReadyStar l) x f m buffer = takes_outside x f buffer
takes_in ActiveStar x f m buffer = takes_outside x f buffer

-- "a card owing its host's answer takes no frame", and only then is its host's call due
abbrev pub owes_in : CardState → CardLink → Bool
owes_in (Protocol i) l = owes l.phase
owes_in Off l = false
owes_in Idle l = false
owes_in (Ready l') l = false
owes_in Active l = false
owes_in Halt l = false
owes_in (ReadyStar l') l = false
owes_in ActiveStar l = false

abbrev pub owing : LinkCard → Bool
owing x = owes_in x.card.state x.link

-- declined: "unchanged", "all of it unchanged"
abbrev pub declined : LinkCard → List ℕ → Refusal → Out LinkCard
declined x buffer e = record { link = x; sent = []; told = Refused e; buffer = buffer }

-- 11 and 1 around what is due. Each call that writes a row asks for room for the longest frame, whatever is heard
unfoldable pub called : Bool → LinkCard → List ℕ → ℕ → Out LinkCard → Out LinkCard
called due x buffer room o = cond (not due) (declined x buffer NotDue) (cond (ltb room row_room) (declined x buffer Room) o)

-- A frame f is heard, with an answer m and a message buffer lent:
unfoldable pub take_call : LinkCard → List ℕ → List ℕ → List ℕ → ℕ → Out LinkCard
take_call x f m buffer room = called (not (owing x)) x buffer room (takes_in x.card.state x f m buffer)

-- .. the host answers m: 10 where it is over 4,096 bytes
unfoldable pub reply_call : LinkCard → List ℕ → ℕ → Out LinkCard
reply_call x m room = called (owing x) x [] room (with_row x.card (card_reply x.link m []))

-- .. the host asks for WTX: 6 outside 1 to 59
unfoldable pub ask_call : LinkCard → ℕ → ℕ → Out LinkCard
ask_call x v room = called (owing x) x [] room (with_row x.card (card_wtx x.link v []))

-- "Off: silent until power brings Idle. Loss of power brings Off from anywhere"
abbrev pub powered_on : LinkCard → LinkCard
powered_on x = record { card = power_on x.card; link = x.link }

abbrev pub powered_off : LinkCard → LinkCard
powered_off x = record { card = power_off x.card; link = no_link }

-- the answer of a call
abbrev pub turn_of : Out LinkCard → CardTurn
turn_of o = record { card = o.link; bits = length o.sent; told = o.told }
