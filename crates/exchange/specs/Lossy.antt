-- Document 02, T-11: the run on rows "where any block either way may be lost or damaged .. and nothing invented": the whole reader and the whole
-- card joined by their calls, with an outcome for each frame and an act of the card's host for each round. `row_talk` is the case without errors.
use Rattle.std.specs.Prelude.{ℕ, zero, suc, ◌+◌, cond, List, [], ◌∷◌, get_or, eqb}
use Rattle.block.specs.declared.Told.{Told}
use Rattle.block.specs.Out.{Out}
use Rattle.card_link.specs.declared.LinkCard.{LinkCard}
use Rattle.card_link.specs.CardCalls.{owing, take_call, reply_call, ask_call}
use Rattle.reader_link.specs.ReaderCalls.{Called, hear_call, send_call}
use Rattle.exchange.specs.declared.Fates.{Fates}
use Rattle.exchange.specs.Exchange.{Act, Answers, Asks, Waits, delivered, is_quiet}
use Rattle.exchange.specs.RowExchange.{RowEnds, told_by, RowPassed, RowRun, row_over, row_after}

-- a frame on its way arrives as it was sent, or the end that listens hears another row instead: an empty one where it is lost
pub data Passage : Type 0 where
  Whole : Passage
  Instead : List ℕ → Passage

abbrev pub heard_as : Passage → List ℕ → List ℕ
heard_as Whole f = f
heard_as (Instead h) f = h

-- what becomes of the reader's frame, what the card's host does if it owes an answer, and what becomes of the card's frame
pub record RowRound : Type 0 where
  pub down : Passage
  pub host : Act
  pub up : Passage

-- no errors, and a host that answers at once
abbrev pub row_clean : RowRound
row_clean = record { down = Whole; host = Answers; up = Whole }

-- the card's host, with the answer a: what the card does then, and the answer that is lent from now on
abbrev pub row_acts : Act → Out LinkCard → List ℕ → List ℕ → ℕ → Out LinkCard × List ℕ
row_acts Answers o a lent room = (reply_call o.link a room, a)
row_acts (Asks v) o a lent room = (ask_call o.link v room, lent)
row_acts Waits o a lent room = (o, lent)

-- a round: the card takes what it hears of the row f, its host acts if an answer is owed, the reader hears what comes of the card's row. Each
-- end has room bits for its rows
unfoldable pub lossy_passes : List ℕ → List ℕ → ℕ → RowRound → RowEnds → List ℕ → RowPassed
lossy_passes m a room x e f =
    let c : Out LinkCard = take_call e.card (heard_as x.down f) e.lent e.down room in
    let h : Out LinkCard × List ℕ = cond (owing c.link) (row_acts x.host c a e.lent room) (c, e.lent) in
    let r : Called = hear_call e.reader (heard_as x.up h.0.sent) m e.up room in
    record {
      got = delivered c.told c.buffer;
      reply = h.0.sent;
      told = told_by r.turn.answer;
      next = r.sent;
      ends = record { reader = r.turn.reader; card = h.0.link; down = c.buffer; up = r.buffer; lent = h.1 };
    }

-- the run from here on, over these rounds: the reader's host was told t and the reader's row f is out
unfoldable pub lossy_exchange : List ℕ → List ℕ → ℕ → List RowRound → RowEnds → Told → List ℕ → RowRun
lossy_exchange m a room [] e t f = row_over t e
lossy_exchange m a room (x ∷ xs) e t f =
    let p : RowPassed = lossy_passes m a room x e f in
    let r : RowRun = lossy_exchange m a room xs p.ends p.told p.next in
    cond (is_quiet t) (row_after f p r) (row_over t e)

-- the ends when the reader's host has handed in a message
abbrev pub row_handed : RowEnds → Called → RowEnds
row_handed e s = record { reader = s.turn.reader; card = e.card; down = e.down; up = e.up; lent = e.lent }

-- the reader's host hands in the message m, whose answer is a
unfoldable pub lossy_talk : List ℕ → List ℕ → ℕ → List RowRound → RowEnds → RowRun
lossy_talk m a room xs e =
    let s : Called = send_call e.reader m room in
    lossy_exchange m a room xs (row_handed e s) (told_by s.turn.answer) s.sent

-- ---- the rounds of a call, by numbers

-- 0: the frame arrives. 1: it is lost. Any other: noise is heard instead
abbrev pub passage_of : List ℕ → ℕ → Passage
passage_of noise b = cond (eqb b 0) Whole (Instead (cond (eqb b 1) [] noise))

-- 0: the card's host answers. 255: it lets the reader wait. Any other: it asks for WTX with that value
abbrev pub act_of : ℕ → Act
act_of b = cond (eqb b 0) Answers (cond (eqb b 255) Waits (Asks b))

abbrev pub round_by : List ℕ → Fates → RowRound
round_by noise x = record { down = passage_of noise x.down; host = act_of x.host; up = passage_of noise x.up }

-- the numbers of round k; behind a list's end they are 0
abbrev pub fates_at : List ℕ → List ℕ → List ℕ → ℕ → Fates
fates_at downs hosts ups k = record { down = get_or downs k 0; host = get_or hosts k 0; up = get_or ups k 0 }

-- so many rounds from round k on
unfoldable pub rounds_from : List ℕ → List ℕ → List ℕ → List ℕ → ℕ → ℕ → List RowRound
rounds_from noise downs hosts ups k zero = []
rounds_from noise downs hosts ups k (suc g) = round_by noise (fates_at downs hosts ups k) ∷ rounds_from noise downs hosts ups (k + 1) g
