-- Type B for C: the calls of crates reader_b and card_b on the reader and the card that the lent bytes say, by `turn_left`, `kept_after` and
-- `taken_left` of crate kept_b.
use Rattle.std.specs.Prelude.{ℕ, Bool, cond, ◌&&◌, List, length, eqb, ltb, Ok, Err, None}
use Rattle.refusal.specs.declared.Refusal.TheVariants.{Room, Argument}
use Rattle.rows.specs.Rows.{overlay}
use Rattle.reader_b.specs.ReaderB.{is_ready, awaits, turn, requests, attaches, halts, hear, call_with, row_after}
use Rattle.reader_b.specs.declared.ReaderB.{ReaderB}
use Rattle.reader_b.specs.declared.AnswerB.TheVariants.{Declines}
use Rattle.reader_b.specs.declared.TurnB.{TurnB}
use Rattle.card_b.specs.declared.CardB.{CardB}
use Rattle.card_b.specs.declared.StateB.TheVariants.{Off}
use Rattle.card_b.specs.declared.TakenB.{TakenB}
use Rattle.kept.specs.Kept.{state_size, refused}
use Rattle.kept_b.specs.KeptReaderB.{answer_number, turn_left, atqb_in}
use Rattle.kept_b.specs.KeptCardB.{taken_number, taken_left}
use Rattle.lacrivosum.specs.Library.{Done, done}
use Rattle.lacrivosum.specs.CardLibrary.{speaks}

-- ---- the reader

-- a reader's call that gives t by value, with the frame that goes out if one does, on the state s and the row o. A state that is too short: 1, all
-- unchanged
unfoldable pub reader_bdone : List ℕ → List ℕ → TurnB → List ℕ → Done
reader_bdone s o t frame =
    cond (ltb (length s) state_size) (done (refused Room) s o)
    (done (answer_number t.answer) (turn_left s t) (row_after t.answer frame o))

-- the host's calls on the reader x, with a lent row of so many bits. "A call tests 11, 1", and then its arguments
abbrev pub unfit : ReaderB → TurnB
unfit x = turn x (Declines Argument)

abbrev pub due : ReaderB → ℕ → TurnB → TurnB
due x room t = call_with (is_ready x.phase) x room t

unfoldable pub request_call : ReaderB → ℕ → ℕ → ℕ → ℕ → TurnB
request_call x wake n afi room = due x room (requests x (speaks wake) n afi)

-- 6: a PUPI is four bytes
unfoldable pub halt_call : ReaderB → List ℕ → ℕ → TurnB
halt_call x pupi room = due x room (cond (eqb (length pupi) 4) (halts x) (unfit x))

-- 6: an ATQB without CRC_B is twelve
unfoldable pub attach_call : ReaderB → List ℕ → ℕ → ℕ → TurnB
attach_call x atqb index room = due x room (cond (eqb (length atqb) 12) (attaches x index) (unfit x))

unfoldable pub hear_call : ReaderB → List ℕ → ℕ → TurnB
hear_call x row room = call_with (awaits x.phase) x room (hear x row)

-- the ATQB of the last answer, in front of the row o, and its length. No room for it: 1, all unchanged
unfoldable pub atqb_done : List ℕ → List ℕ → Done
atqb_done s o =
    cond (ltb (length s) state_size) (done (refused Room) s o)
    (cond (ltb (length o) 12) (done (refused Room) s o) (done 12 s (overlay o 0 (atqb_in s))))

-- ---- the card

-- a card's call that gives t by value and leaves the row o as w, on the state s. A state that is too short: 1, all unchanged
unfoldable pub card_bdone : List ℕ → List ℕ → TakenB → List ℕ → Done
card_bdone s o t w =
    cond (ltb (length s) state_size) (done (refused Room) s o)
    (done (taken_number t.answer) (taken_left s t) w)

-- a call that sends nothing
abbrev pub silent : CardB → TakenB
silent c = record { card = c; answer = (Ok None) }

abbrev pub unmade : CardB → TakenB
unmade x = record { card = x; answer = Err Argument }

abbrev pub fitting : List ℕ → List ℕ → List ℕ → Bool
fitting pupi application protocol = eqb (length pupi) 4 && (eqb (length application) 4 && eqb (length protocol) 3)

-- a new card, without power, over the card x; where it is refused x stays
unfoldable pub new_call : CardB → List ℕ → ℕ → ℕ → List ℕ → List ℕ → TakenB
new_call x pupi afi markers application protocol =
    cond (fitting pupi application protocol)
    (silent (record { pupi = pupi; afi = afi; markers = speaks markers; application = application; protocol = protocol; state = Off }))
    (unmade x)
