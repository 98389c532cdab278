-- One exchange of the call over an array of cards: the loop's state is what the call gives.
use Rattle.std.specs.Prelude.{ℕ, ◌+◌, Bool, ◌&&◌, List, take, ltb}
use Rattle.reader.specs.Reader.{frame, hear, wakes}
use Rattle.field.specs.Calls.{cards_after}
use Rattle.field.specs.Field.{heard_from}
use Rattle.sweep_steps.specs.Steps.{goes}
use Rattle.uid.specs.declared.Uid.{Uid}
use Rattle.card.specs.declared.Card.{Card}
use Rattle.reader.specs.declared.Turn.{Turn}
use Rattle.wake.specs.declared.Woken.{Woken}

-- the reader's turn
abbrev pub turn_in : Woken → Turn
turn_in w = record { reader = w.reader; answer = w.answer }

abbrev pub with_turn : Turn → List Card → ℕ → Woken
with_turn t cards k = record { reader = t.reader; answer = t.answer; cards = cards; frames = k }

-- before the first exchange, and after one more
unfoldable pub started : Uid → List Card → Woken
started u cards = with_turn (wakes u) cards 0

unfoldable pub stepped : Woken → ℕ → Woken
stepped w n = with_turn (hear w.reader (heard_from (frame w.reader) (take n w.cards))) (cards_after w.cards n (frame w.reader)) (w.frames + 1)

-- it goes on: a frame is out, and fewer than `most` were sent
unfoldable pub goes_on : Woken → ℕ → Bool
goes_on w most = ltb w.frames most && goes w.answer
