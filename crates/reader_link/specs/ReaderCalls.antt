-- Document 01, "The reader and the sweep" and "RATS, ATS and blocks": the whole reader, every phase. Selection's rules are those of crate
-- reader word for word; RATS is due on a selected reader if b6 of the last SAK is set; a good ATS opens the link. Rows in, rows out.
--
-- The calls, each with the same contract form. With t what the definition gives:
--     select(x, out), start_sweep(x, out) start_call false x (length out), start_call true x (length out)
--     wake(x, bytes, out)               wake_call x bytes (length out)
--     rats(x, index, out)               rats_call x index (length out)
--     send(x, message, out)             send_call x message (length out)
--     deselect(x, out)                  deselect_call x (length out)
--     hear(x, row, message, buffer, out) hear_call x row message buffer (length out)
-- the answer is `t.turn`, out at exit `overlay out 0 t.sent` and, of hear, buffer at exit `t.buffer`. A call tests 11, 1, 6, 10; a
-- refused call sends nothing and changes nothing. ReaderSays.antt says the answers in the table's numbers.
use Rattle.std.specs.Prelude.{ℕ, ◌/◌, ◌%◌, Bool, true, false, cond, not, ◌&&◌, List, [], length, eqb, ltb, Result, Ok, Err}
use Rattle.limits.specs.Limits.{row_room}
use Rattle.refusal.specs.declared.Refusal.{Refusal}
use Rattle.refusal.specs.declared.Refusal.TheVariants.{Room, Argument, NotDue}
use Rattle.selection.specs.Selection.{rats}
use Rattle.selection.specs.Heard.{read_ats}
use Rattle.reader.specs.Reader.{blank, hear, begin, is_new}
use Rattle.reader.specs.Calls.{awaits, wake_turn, sent_by}
use Rattle.reader.specs.declared.Phase.{Phase}
use Rattle.reader.specs.declared.Phase.TheVariants as phase
use Rattle.reader.specs.declared.Reader.{Reader}
use Rattle.reader.specs.declared.Answer.{Answer}
use Rattle.reader.specs.declared.Answer.TheVariants.{Sends, Finds, Selects, Finishes, Declines}
use Rattle.reader.specs.declared.Turn.{Turn}
use Rattle.block.specs.declared.Told.TheVariants.{Quiet, Refused}
use Rattle.block.specs.Out.{Out}
use Rattle.block.specs.Row.{block_row, heard_row}
use Rattle.reader_blocks.specs.declared.ReaderPhase.{ReaderPhase}
use Rattle.reader_blocks.specs.declared.ReaderPhase.TheVariants.{Open, Talking, Leaving, Finished, Stopped}
use Rattle.reader_blocks.specs.declared.ReaderLink.{ReaderLink}
use Rattle.reader_link.specs.declared.Link.{Link}
use Rattle.reader_link.specs.declared.Link.TheVariants.{NoLink, RatsSent, Linked}
use Rattle.reader_link.specs.declared.LinkReader.{LinkReader}
use Rattle.reader_link.specs.declared.LinkAnswer.{LinkAnswer}
use Rattle.reader_link.specs.declared.LinkAnswer.TheVariants.{Selection, Opens, Blocks}
use Rattle.reader_link.specs.declared.LinkTurn.{LinkTurn}
use Rattle.reader_blocks.specs.ReaderRules.{reader_open, is_open}
use Rattle.reader_blocks.specs.ReaderFrames.{reader_block, reader_send, reader_deselect}

-- no frame sent yet
abbrev pub new_reader : LinkReader
new_reader = record { reader = blank phase.New false; link = NoLink }

-- what comes of a call: the answer, the row sent (empty: none), the message buffer
pub record Called : Type 0 where
  pub turn : LinkTurn
  pub sent : List ℕ
  pub buffer : List ℕ

abbrev pub called : LinkReader → LinkAnswer → List ℕ → List ℕ → Called
called x a sent buffer = record { turn = record { reader = x; answer = a }; sent = sent; buffer = buffer }

-- how many air bits of the next frame stand at the front of the lent row
abbrev pub bits_of : Answer → ℕ
bits_of (Sends n) = n
bits_of (Finds n) = n
bits_of Selects = 0
bits_of Finishes = 0
bits_of (Declines e) = 0

abbrev pub bits_by : LinkAnswer → ℕ
bits_by (Selection a) = bits_of a
bits_by (Opens i) = 0
bits_by (Blocks n t) = n

-- declined before anything is looked at: "unchanged". While it selects, a reader says so as crate reader has it
abbrev pub declined_by : Link → Refusal → LinkAnswer
declined_by NoLink e = Selection (Declines e)
declined_by (RatsSent i) e = Blocks 0 (Refused e)
declined_by (Linked l) e = Blocks 0 (Refused e)

-- 11 and 1 around what is due. Each call that writes a row asks for room for the longest frame, whatever is heard
unfoldable pub tested : Bool → LinkReader → List ℕ → ℕ → Called → Called
tested due x buffer room t =
    cond (not due) (called x (declined_by x.link NotDue) [] buffer)
    (cond (ltb room row_room) (called x (declined_by x.link Room) [] buffer) t)

-- ---- the reader's part of a turn

-- a turn of a selection
unfoldable pub selecting : Turn → List ℕ → Called
selecting t buffer =
    called (record { reader = t.reader; link = NoLink }) (Selection t.answer) (sent_by t.answer t.reader) buffer

-- a reader that has stopped or finished holds nothing of the selection or of the link
abbrev pub linked : Reader → ReaderPhase → ReaderLink → LinkReader
linked r Open l = record { reader = r; link = Linked l }
linked r (Talking t) l = record { reader = r; link = Linked l }
linked r Leaving l = record { reader = r; link = Linked l }
linked r Finished l = record { reader = blank phase.Finished false; link = NoLink }
linked r Stopped l = record { reader = blank phase.Stopped false; link = NoLink }

-- a turn of the link
unfoldable pub linking : Reader → Out ReaderLink → Called
linking r o = called (linked r o.link.phase o.link) (Blocks (length (block_row o.sent)) o.told) (block_row o.sent) o.buffer

-- after RATS, which is not repeated: a good ATS opens the link at number 0 with the card's size index, all else stops the reader
abbrev pub after_ats : Reader → ℕ → Result ℕ Refusal → List ℕ → Called
after_ats r own (Ok i) buffer = called (record { reader = r; link = Linked (reader_open own i false) }) (Opens i) [] buffer
after_ats r own (Err e) buffer = called (record { reader = blank phase.Stopped false; link = NoLink }) (Blocks 0 (Refused e)) [] buffer

-- ---- a row h is heard, with the message m and a buffer lent

-- a frame is due while a block or DESELECT's answer is awaited
abbrev pub awaits_block : ReaderPhase → Bool
awaits_block Open = false
awaits_block (Talking t) = true
awaits_block Leaving = true
awaits_block Finished = false
awaits_block Stopped = false

abbrev pub frame_due : Link → Reader → Bool
frame_due NoLink r = awaits r.phase
frame_due (RatsSent own) r = true
frame_due (Linked l) r = awaits_block l.phase

abbrev pub hears_in : Link → Reader → List ℕ → List ℕ → List ℕ → Called
hears_in NoLink r h m buffer = selecting (hear r h) buffer
hears_in (RatsSent own) r h m buffer = after_ats r own (read_ats own h) buffer
hears_in (Linked l) r h m buffer = linking r (reader_block l (heard_row l.own h) m buffer)

unfoldable pub hear_call : LinkReader → List ℕ → List ℕ → List ℕ → ℕ → Called
hear_call x h m buffer room = tested (frame_due x.link x.reader) x buffer room (hears_in x.link x.reader h m buffer)

-- ---- the host's calls

abbrev pub is_new_in : Link → Reader → Bool
is_new_in NoLink r = is_new r.phase
is_new_in (RatsSent i) r = false
is_new_in (Linked l) r = false

-- a selection (s false) or a sweep (s true) begins
unfoldable pub start_call : Bool → LinkReader → ℕ → Called
start_call s x room = tested (is_new_in x.link x.reader) x [] room (selecting (begin s) [])

-- T-03: one known card, due where a selection is; 6 where its bytes are no valid UID
unfoldable pub wake_call : LinkReader → List ℕ → ℕ → Called
wake_call x l room = tested (is_new_in x.link x.reader) x [] room (selecting (wake_turn x.reader l) [])

abbrev pub is_selected : Phase → Bool
is_selected phase.New = false
is_selected phase.ReqaSent = false
is_selected (phase.AnticollisionSent l) = false
is_selected (phase.SelectSent l) = false
is_selected phase.HltaSent = false
is_selected phase.Selected = true
is_selected phase.Finished = false
is_selected phase.Stopped = false
is_selected phase.WupaSent = false
is_selected (phase.UidSelectSent l) = false

-- b6 of a SAK: the card speaks blocks
abbrev pub b6 : ℕ → Bool
b6 b = eqb (b / 32 % 2) 1

-- RATS is due on a selected reader whose last SAK has b6 set
abbrev pub rats_due : Link → Reader → Bool
rats_due NoLink r = is_selected r.phase && b6 r.sak
rats_due (RatsSent i) r = false
rats_due (Linked l) r = false

-- "index over 8": 6
unfoldable pub rats_call : LinkReader → ℕ → ℕ → Called
rats_call x index room =
    tested (rats_due x.link x.reader) x [] room
    (cond (ltb 8 index) (called x (declined_by x.link Argument) [] [])
    (called (record { reader = x.reader; link = RatsSent index }) (Blocks (length (rats index)) Quiet) (rats index) []))

-- A message and DESELECT are due between messages
abbrev pub between : Link → Bool
between NoLink = false
between (RatsSent i) = false
between (Linked l) = is_open l.phase

abbrev pub send_in : Link → LinkReader → List ℕ → Called
send_in (Linked l) x m = linking x.reader (reader_send l m [])
send_in NoLink x m = called x (declined_by NoLink NotDue) [] []
send_in (RatsSent i) x m = called x (declined_by (RatsSent i) NotDue) [] []

unfoldable pub send_call : LinkReader → List ℕ → ℕ → Called
send_call x m room = tested (between x.link) x [] room (send_in x.link x m)

abbrev pub deselect_in : Link → LinkReader → Called
deselect_in (Linked l) x = linking x.reader (reader_deselect l [])
deselect_in NoLink x = called x (declined_by NoLink NotDue) [] []
deselect_in (RatsSent i) x = called x (declined_by (RatsSent i) NotDue) [] []

unfoldable pub deselect_call : LinkReader → ℕ → Called
deselect_call x room = tested (between x.link) x [] room (deselect_in x.link x)
