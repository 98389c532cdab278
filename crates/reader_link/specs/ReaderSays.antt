-- Document 01, "When the core declines": what each call of the whole reader answers in the table's numbers, by the call's own tests in their order.
-- "A call tests 11, 1, 6, 10".
use Rattle.std.specs.Prelude.{ℕ, not, List, [], ◌∷◌, length, ltb}
use Rattle.limits.specs.Limits.{row_room, message_max}
use Rattle.refusal.specs.Refusal.{Said, giving, refusal_says, decline_if}
use Rattle.uid.specs.Calls.{valid_bytes}
use Rattle.reader.specs.Calls.{answer_says}
use Rattle.reader.specs.declared.Reader.{Reader}
use Rattle.block.specs.declared.Told.{Told}
use Rattle.block.specs.declared.Told.TheVariants.{Quiet, Message, Granted, Deselected, Refused}
use Rattle.reader_link.specs.declared.LinkReader.{LinkReader}
use Rattle.reader_link.specs.declared.LinkAnswer.{LinkAnswer}
use Rattle.reader_link.specs.declared.LinkAnswer.TheVariants.{Selection, Opens, Blocks}
use Rattle.reader_link.specs.declared.LinkTurn.{LinkTurn}
use Rattle.reader_link.specs.ReaderCalls.{frame_due, hears_in, is_new_in, rats_due, between, send_in}

-- an answer of the link: the bits of the next frame, and of a whole message how many bytes it has
abbrev pub blocks_say : ℕ → Told → Said
blocks_say n Quiet = giving (n ∷ [])
blocks_say n (Message k) = giving (n ∷ k ∷ [])
blocks_say n Granted = giving (n ∷ [])
blocks_say n Deselected = giving (n ∷ [])
blocks_say n (Refused e) = refusal_says e

-- an answer of a selection as crate reader says it; the card's size index; an answer of the link
abbrev pub link_says : LinkAnswer → Reader → Said
link_says (Selection a) r = answer_says a r
link_says (Opens i) r = giving (i ∷ [])
link_says (Blocks n t) r = blocks_say n t

abbrev pub link_turn_says : LinkTurn → Said
link_turn_says t = link_says t.answer t.reader.reader

-- a selection or a sweep begins: 11 unless the reader is new, 1, else the seven bits of REQA
abbrev pub start_says : LinkReader → ℕ → Said
start_says x room = decline_if (not (is_new_in x.link x.reader)) 11 (decline_if (ltb room row_room) 1 (giving (7 ∷ [])))

-- T-03: one known card: 11, 1, 6 for bytes that are no valid UID, else the seven bits of WUPA
abbrev pub wake_says : LinkReader → List ℕ → ℕ → Said
wake_says x l room =
    decline_if (not (is_new_in x.link x.reader)) 11 (decline_if (ltb room row_room) 1 (decline_if (not (valid_bytes l)) 6 (giving (7 ∷ []))))

-- RATS: 11 unless a card is selected that speaks blocks, 1, 6, else its 36 bits
abbrev pub rats_says : LinkReader → ℕ → ℕ → Said
rats_says x index room =
    decline_if (not (rats_due x.link x.reader)) 11 (decline_if (ltb room row_room) 1 (decline_if (ltb 8 index) 6 (giving (36 ∷ []))))

-- a message: 11 unless the reader is between messages, 1, 10, else the bits of its first block
abbrev pub send_says : LinkReader → List ℕ → ℕ → Said
send_says x m room =
    decline_if (not (between x.link)) 11
    (decline_if (ltb room row_room) 1 (decline_if (ltb message_max (length m)) 10 (giving (length (send_in x.link x m).sent ∷ []))))

-- DESELECT: 11, 1, else its 27 bits
abbrev pub deselect_says : LinkReader → ℕ → Said
deselect_says x room = decline_if (not (between x.link)) 11 (decline_if (ltb room row_room) 1 (giving (27 ∷ [])))

-- a row h: 11 where none is due, 1, then what the reader makes of it
abbrev pub hear_says : LinkReader → List ℕ → List ℕ → List ℕ → ℕ → Said
hear_says x h m buffer room =
    decline_if (not (frame_due x.link x.reader)) 11
    (decline_if (ltb room row_room) 1 (link_turn_says (hears_in x.link x.reader h m buffer).turn))
