-- One exchange of a sweep over an array of cards, and how far a sweep is. What its reader does with a row is told elsewhere (Loop.antt).
use Rattle.std.specs.Prelude.{ℕ, ◌+◌, ◌*◌, ◌≤◌, ◌<◌, Bool, true, false, ◌&&◌, List, [], ◌∷◌, ◌++◌, ◌≡◌, length, take, drop, replicate, ltb}
use Rattle.rows.specs.Rows.{overlay}
use Rattle.uid.specs.Uid.{uid_bytes}
use Rattle.reader.specs.Reader.{frame, uid}
use Rattle.field.specs.Calls.{cards_after}
use Rattle.field.specs.Field.{heard_from}
use Rattle.air_log.specs.Log.{Exchange, sent_heard, exchange_bytes, exchange_size, log_size, list_bytes}
use Rattle.limits.specs.Limits.{most_cards, most_frames}
use Rattle.sweep_rules.specs.Run.{Out}
use Rattle.card.specs.declared.Card.{Card}
use Rattle.card.specs.declared.CardState.TheVariants.{Off}
use Rattle.uid.specs.declared.UidSize.TheVariants.{Single}
use Rattle.reader.specs.declared.Reader.{Reader}
use Rattle.reader.specs.declared.Turn.{Turn}
use Rattle.reader.specs.declared.Answer.{Answer}
use Rattle.reader.specs.declared.Answer.TheVariants.{Sends, Finds, Selects, Finishes, Declines}
use Rattle.sweep_steps.specs.declared.within.Aired.{Aired}

-- what stands in an array where there is no card
abbrev pub no_card : Card
no_card = record { uid = uid Single []; blocks = false; index = 0; state = Off }

-- a frame is out
abbrev pub goes : Answer → Bool
goes (Sends n) = true
goes (Finds n) = true
goes Selects = false
goes Finishes = false
goes (Declines e) = false

-- the UIDs that a turn has found, one or none
abbrev pub found_in : Answer → List ℕ → List (List ℕ)
found_in (Sends n) u = []
found_in (Finds n) u = u ∷ []
found_in Selects u = []
found_in Finishes u = []
found_in (Declines e) u = []

unfoldable pub found_by : Turn → List (List ℕ)
found_by t = found_in t.answer (uid_bytes t.reader.uid)

-- the reader's frame, and what it hears from the field cs
unfoldable pub exchange_of : Reader → List Card → Exchange
exchange_of r cs = sent_heard (frame r) (heard_from (frame r) cs)

-- after its frame, over an array of which the first n cards are the field
unfoldable pub aired : Reader → List Card → ℕ → Aired
aired r cards n =
    record {
      cards = cards_after cards n (frame r);
      heard = overlay (replicate 45 0) 0 (heard_from (frame r) (take n cards));
      bits = length (heard_from (frame r) (take n cards));
      bytes = exchange_size (exchange_of r (take n cards));
    }

-- ---- how far a sweep is, whatever else its reader has: the turn, the cards, the bytes of log, the frames sent and the UIDs found so far

pub record Reached : Type 0 where
  pub turn : Turn
  pub cards : List Card
  pub logged : ℕ
  pub frames : ℕ
  pub found : ℕ

-- nothing was sent yet: the turn is t
abbrev pub at_first : Turn → List Card → Reached
at_first t cards = record { turn = t; cards = cards; logged = 0; frames = 0; found = 0 }

-- what is heard next, over an array of which the first n cards are the field, and the exchange with it
abbrev pub next_heard : Reached → ℕ → List ℕ
next_heard p n = heard_from (frame p.turn.reader) (take n p.cards)

abbrev pub next_exchange : Reached → ℕ → Exchange
next_exchange p n = exchange_of p.turn.reader (take n p.cards)

-- how far it is after that: the turn is then t
unfoldable pub onto : Reached → ℕ → Turn → Reached
onto p n t =
    record {
      turn = t;
      cards = cards_after p.cards n (frame p.turn.reader);
      logged = p.logged + exchange_size (next_exchange p n);
      frames = p.frames + 1;
      found = p.found + length (found_by t);
    }

-- T-09, "adds one tick a record": the tick of its first record, where the first record of the sweep has t; each frame sent has two
abbrev pub next_tick : ℕ → Reached → ℕ
next_tick t p = t + 2 * p.frames

-- a tick of 32 bits and two more for each frame of a sweep are less than this
abbrev pub tick_bound : ℕ
tick_bound = 8589934592

-- log and list have room for the exchange after which the turn is v
pub record Roomy (p : Reached) (n : ℕ) (v : Turn) (log list : List ℕ) : Type 0 where
  pub few : n ≤ most_cards
  pub log_has_room : p.logged + exchange_size (next_exchange p n) ≤ length log
  pub list_has_room : 11 * p.found + 11 * length (found_by v) ≤ length list
  pub more : p.frames < most_frames

-- log and list before it and afterwards, in a sweep whose first tick is t; an entry of the list takes 11 bytes
pub record Written (t : ℕ) (p : Reached) (n : ℕ) (v : Turn) (log list log' list' : List ℕ) : Type 0 where
  pub log_row : log' ≡ overlay log p.logged (exchange_bytes (next_tick t p) (next_exchange p n))
  pub list_row : list' ≡ overlay list (11 * p.found) (list_bytes (found_by v))
  pub entries : length (list_bytes (found_by v)) ≡ 11 * length (found_by v)

-- it goes on
unfoldable pub goes_on : Reached → Bool
goes_on p = ltb p.frames most_frames && goes p.turn.answer

-- the whole run o is done
abbrev pub ends : List Card → ℕ → Out → Reached
ends cards n o =
    record {
      turn = o.last;
      cards = o.cards ++ drop n cards;
      logged = log_size o.exchanges;
      frames = length o.exchanges;
      found = length o.found;
    }
