-- The loop of a sweep over an array of cards: of the plain sweep, and of one that remembers (T-14), which is the same on another reader.
use Rattle.std.specs.Prelude.{ℕ, ◌+◌, Bool, List, [], true, length, take}
use Rattle.reader.specs.Reader.{blank, sends, frame}
use Rattle.field.specs.Calls.{cards_after}
use Rattle.field.specs.Field.{heard_from}
use Rattle.air_log.specs.Log.{exchange_size}
use Rattle.limits.specs.Limits.{most_frames}
use Rattle.memory.specs.Memory.{Recall, recall, hear_if}
use Rattle.memory.specs.Stored.{path_of, memory_of}
use Rattle.sweep_rules.specs.Run.{Out, Runner, run_of}
use Rattle.card.specs.declared.Card.{Card}
use Rattle.memory.specs.declared.Path.{Path}
use Rattle.reader.specs.declared.Phase.TheVariants.{ReqaSent}
use Rattle.reader.specs.declared.Reader.{Reader}
use Rattle.reader.specs.declared.Turn.{Turn}
use Rattle.sweep_steps.specs.Steps.{Reached, found_by, exchange_of}
use Rattle.sweep_steps.specs.declared.within.Exchanged.{Exchanged}
use Rattle.sweep_steps.specs.declared.within.Progress.{Progress}

-- ---- the sweep that the loop runs: b says whether it remembers

abbrev pub sweeper : Bool → Runner Recall
sweeper b = record { turn = λ m. m.turn; hears = λ m h. hear_if b m.turn.reader m.path h }

-- REQA is out, and nothing is known
abbrev pub first_recall : Recall
first_recall = recall (sends (blank ReqaSent true)) []

unfoldable pub swept_if : Bool → List Card → Out
swept_if b cs = run_of (sweeper b) most_frames first_recall cs

-- ---- how far it is

-- .. whatever its reader has beside the turn
abbrev pub reached_at : Progress → Reached
reached_at p = record { turn = p.memory.turn; cards = p.cards; logged = p.logged; frames = p.frames; found = p.found }

-- the reader's turn and path
abbrev pub recall_at : Progress → Recall
recall_at p = recall p.memory.turn (path_of p.memory.path)

-- after an exchange, over an array of which the first n cards are the field
unfoldable pub exchanged : Bool → Reader → Path → List Card → ℕ → Exchanged
exchanged b r w cards n =
    record {
      memory = memory_of (hear_if b r (path_of w) (heard_from (frame r) (take n cards)));
      cards = cards_after cards n (frame r);
      bytes = exchange_size (exchange_of r (take n cards));
    }

-- before the first exchange, and after one more
unfoldable pub started : List Card → Progress
started cards = record { memory = memory_of first_recall; cards = cards; logged = 0; frames = 0; found = 0 }

unfoldable pub stepped : Bool → Progress → ℕ → Progress
stepped b p n =
    let x : Exchanged = exchanged b p.memory.turn.reader p.memory.path p.cards n in
    record { memory = x.memory; cards = x.cards; logged = p.logged + x.bytes; frames = p.frames + 1; found = p.found + length (found_by x.memory.turn) }

-- the reader's turn after it
abbrev pub next_turn : Bool → Progress → ℕ → Turn
next_turn b p n = (exchanged b p.memory.turn.reader p.memory.path p.cards n).memory.turn
