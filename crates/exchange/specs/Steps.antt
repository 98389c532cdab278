-- The exchange as it runs: a state between two rounds, a round, and what the run comes to.
use Rattle.std.specs.Prelude.{ℕ, zero, suc, ◌+◌, ◌≤◌, Bool, true, false, cond, List, [], ◌∷◌, length, take, ltb}
use Rattle.rows.specs.Rows.{overlay}
use Rattle.block.specs.declared.Told.{Told}
use Rattle.block.specs.declared.Told.TheVariants.{Quiet, Message, Granted, Deselected, Refused}
use Rattle.card_link.specs.declared.LinkCard.{LinkCard}
use Rattle.limits.specs.Limits.{row_room}
use Rattle.card_link.specs.CardCalls.{owing, take_call, reply_call, ask_call}
use Rattle.reader_link.specs.declared.LinkReader.{LinkReader}
use Rattle.reader_link.specs.declared.LinkTurn.{LinkTurn}
use Rattle.reader_link.specs.ReaderCalls.{Called, bits_by, send_call}
use Rattle.exchange.specs.declared.Outcome.{Outcome}
use Rattle.exchange.specs.declared.Hosted.{Hosted}
use Rattle.exchange.specs.declared.Progress.{Progress}
use Rattle.exchange.specs.Exchange.{Act, Answers, Asks, Waits, is_quiet}
use Rattle.exchange.specs.RowExchange.{RowEnds, RowPassed, row_passes, RowRun, row_talk, told_by}
use Rattle.exchange.specs.Lossy.{heard_as, RowRound, lossy_passes, lossy_exchange, lossy_talk}

-- both ends and what is lent to them; the card's host has answered a, or its answer before that is lent
abbrev pub ends_of : LinkReader → LinkCard → List ℕ → List ℕ → Bool → List ℕ → List ℕ → RowEnds
ends_of x y down up answered before a = record { reader = x; card = y; down = down; up = up; lent = cond answered a before }

-- ---- the steps of a round

-- the card's host, who owes an answer, acts; bits is how many the card has sent
abbrev pub acts_on : Act → LinkCard → ℕ → Bool → List ℕ → ℕ → Hosted
acts_on Answers y bits answered a room = record { card = (reply_call y a room).link; bits = length (reply_call y a room).sent; answered = true }
acts_on (Asks v) y bits answered a room = record { card = (ask_call y v room).link; bits = length (ask_call y v room).sent; answered = answered }
acts_on Waits y bits answered a room = record { card = y; bits = bits; answered = answered }

-- .. and the card's row then
abbrev pub acts_row : Act → LinkCard → List ℕ → List ℕ → List ℕ
acts_row Answers y a out = overlay out 0 (reply_call y a (length out)).sent
acts_row (Asks v) y a out = overlay out 0 (ask_call y v (length out)).sent
acts_row Waits y a out = out

-- .. if it owes one
unfoldable pub hosted : Act → LinkCard → ℕ → Bool → List ℕ → ℕ → Hosted
hosted x y bits answered a room = cond (owing y) (acts_on x y bits answered a room) (record { card = y; bits = bits; answered = answered })

unfoldable pub hosted_row : Act → LinkCard → List ℕ → List ℕ → List ℕ
hosted_row x y a out = cond (owing y) (acts_row x y a out) out

abbrev pub count_in : Told → ℕ
count_in (Message n) = 1
count_in Quiet = 0
count_in Granted = 0
count_in Deselected = 0
count_in (Refused e) = 0

abbrev pub last_in : Told → ℕ → ℕ
last_in (Message n) last = n
last_in Quiet last = last
last_in Granted last = last
last_in Deselected last = last
last_in (Refused e) last = last

unfoldable pub advanced : Progress → Told → Hosted → LinkTurn → Progress
advanced p told h turn =
    record {
      so_far = record {
        reader = turn.reader;
        card = h.card;
        told = told_by turn.answer;
        answered = h.answered;
        rounds = p.so_far.rounds + 1;
        messages = p.so_far.messages + count_in told;
        last = last_in told p.so_far.last;
      };
      bits = bits_by turn.answer;
    }

-- the reader's frame fits its row, and each round brings at most one message
pub record Fit (p : Progress) : Type 0 where
  pub bits : p.bits ≤ row_room
  pub messages : p.so_far.messages ≤ p.so_far.rounds

unfoldable pub begun : LinkTurn → LinkCard → Progress
begun turn card =
    record {
      so_far = record { reader = turn.reader; card = card; told = told_by turn.answer; answered = false; rounds = 0; messages = 0; last = 0 };
      bits = bits_by turn.answer;
    }

abbrev pub goes_on : Progress → ℕ → Bool
goes_on p rounds = cond (ltb p.so_far.rounds rounds) (is_quiet p.so_far.told) false

unfoldable pub done_by : Progress → Outcome
done_by p = p.so_far

-- ---- the run

-- how many bytes the last of some messages has, n if there is none
unfoldable pub last_of : ℕ → List (List ℕ) → ℕ
last_of n [] = n
last_of n (m ∷ ms) = last_of (length m) ms

-- the card's host answers in a round where an answer is owed once the card has taken the row f
abbrev pub answers_in : RowEnds → List ℕ → Bool
answers_in e f = owing (take_call e.card f e.lent e.down row_room).link

-- .. in one of the rounds from here on
unfoldable pub answers_on : List ℕ → List ℕ → ℕ → RowEnds → Told → List ℕ → Bool
answers_on m a zero e t f = false
answers_on m a (suc g) e t f =
    let p : RowPassed = row_passes m a row_room e f in
    cond (is_quiet t) (cond (answers_in e f) true (answers_on m a g p.ends p.told p.next)) false

-- between two rounds: the ends, what the reader's host was told, the frame that is out, whether the card's host has answered, the counts so far
pub record State : Type 0 where
  pub ends : RowEnds
  pub told : Told
  pub frame : List ℕ
  pub answered : Bool
  pub rounds : ℕ
  pub messages : ℕ
  pub last : ℕ

unfoldable pub state_of : Progress → List ℕ → List ℕ → List ℕ → List ℕ → List ℕ → State
state_of p before a down up row =
    record {
      ends = ends_of p.so_far.reader p.so_far.card down up p.so_far.answered before a;
      told = p.so_far.told;
      frame = take p.bits row;
      answered = p.so_far.answered;
      rounds = p.so_far.rounds;
      messages = p.so_far.messages;
      last = p.so_far.last;
    }

-- the card's host answers in a round over x where it is owed once the card has taken what it hears of the row f, and it does not ask or wait
abbrev pub gives : Act → Bool
gives Answers = true
gives (Asks v) = false
gives Waits = false

abbrev pub gives_in : RowRound → RowEnds → List ℕ → Bool
gives_in x e f = cond (owing (take_call e.card (heard_as x.down f) e.lent e.down row_room).link) (gives x.host) false

-- .. in one of the rounds from here on
unfoldable pub gives_on : List ℕ → List ℕ → List RowRound → RowEnds → Told → List ℕ → Bool
gives_on m a [] e t f = false
gives_on m a (x ∷ xs) e t f =
    let p : RowPassed = lossy_passes m a row_room x e f in
    cond (is_quiet t) (cond (gives_in x e f) true (gives_on m a xs p.ends p.told p.next)) false

-- one round more
unfoldable pub round_of : List ℕ → List ℕ → RowRound → State → State
round_of m a x s =
    let q : RowPassed = lossy_passes m a row_room x s.ends s.frame in
    record {
      ends = q.ends;
      told = q.told;
      frame = q.next;
      answered = cond (gives_in x s.ends s.frame) true s.answered;
      rounds = s.rounds + 1;
      messages = s.messages + length q.got;
      last = last_of s.last q.got;
    }

-- what a run comes to
pub record Sum : Type 0 where
  pub ends : RowEnds
  pub told : Told
  pub answered : Bool
  pub rounds : ℕ
  pub messages : ℕ
  pub last : ℕ

unfoldable pub sum_of : Bool → ℕ → ℕ → ℕ → RowRun → Sum
sum_of answered rounds messages last r =
    record { ends = r.ends; told = r.told; answered = answered; rounds = rounds + length r.downs; messages = messages + length r.got; last = last_of last r.got }

-- .. from a state on, over these rounds
unfoldable pub rest_of : List ℕ → List ℕ → List RowRound → State → Sum
rest_of m a xs s =
    sum_of (cond s.answered true (gives_on m a xs s.ends s.told s.frame)) s.rounds s.messages s.last
    (lossy_exchange m a row_room xs s.ends s.told s.frame)

-- what a call hands back, as such a sum
unfoldable pub outcome_of : Outcome → List ℕ → List ℕ → List ℕ → List ℕ → Sum
outcome_of o before a down up =
    record { ends = ends_of o.reader o.card down up o.answered before a; told = o.told; answered = o.answered; rounds = o.rounds; messages = o.messages; last = o.last }

-- the whole: the reader's host hands in m, the card's host answers a, and before is what it answered before
unfoldable pub exchange_of : LinkReader → LinkCard → List ℕ → List ℕ → List ℕ → ℕ → List ℕ → List ℕ → Sum
exchange_of x y m before a rounds down up =
    let s : Called = send_call x m row_room in
    sum_of (answers_on m a rounds (ends_of s.turn.reader y down up false before a) (told_by s.turn.answer) s.sent) 0 0 0
    (row_talk m a row_room rounds (ends_of x y down up false before a))

-- .. where frames may be lost or damaged, over these rounds
unfoldable pub lossy_of : LinkReader → LinkCard → List ℕ → List ℕ → List ℕ → List RowRound → List ℕ → List ℕ → Sum
lossy_of x y m before a xs down up =
    let s : Called = send_call x m row_room in
    sum_of (gives_on m a xs (ends_of s.turn.reader y down up false before a) (told_by s.turn.answer) s.sent) 0 0 0
    (lossy_talk m a row_room xs (ends_of x y down up false before a))
