-- The two loops of the trace checker: over the records, and over the frames of the sweep over the listed cards (T-12).
use Rattle.trace_rules.specs.Verdict.{Compared, Verdict, fault}
use Rattle.trace_rules.specs.declared.Differs.TheVariants.{First, Second}
use Rattle.std.specs.Prelude.{ℕ, ◌+◌, Bool, true, false, cond, ◌&&◌, List, take, leb, ltb, Err, Ok}
use Rattle.limits.specs.Limits.{most_frames}
use Rattle.reader.specs.Reader.{frame, hear}
use Rattle.field.specs.Field.{heard_from}
use Rattle.field.specs.Calls.{cards_after}
use Rattle.air_log.specs.Log.{sent_heard}
use Rattle.sweep_steps.specs.Steps.{goes}
use Rattle.trace_rules.specs.Trace.{checked, follow}
use Rattle.trace_rules.specs.Check.{compared, compared_then}
use Rattle.card.specs.declared.Card.{Card}
use Rattle.reader.specs.declared.Turn.{Turn}
use Rattle.refusal.specs.declared.Refusal.TheVariants.{Length, Forbidden}
use Rattle.trace_rules.specs.declared.Checked.{Checked}
use Rattle.trace_rules.specs.declared.Says.{Says}
use Rattle.trace_rules.specs.declared.Says.TheVariants.{Goes, Content, Faults}
use Rattle.trace_rules.specs.declared.Stepped.{Stepped}
use Rattle.trace.specs.declared.replay.Played.{Played}

-- ---- over the records

abbrev pub is_going : Says → Bool
is_going Goes = true
is_going Content = false
is_going (Faults on e) = false

-- after so many turns, of at most that many
unfoldable pub goes_on : Stepped → ℕ → ℕ → Bool
goes_on s turn most = ltb turn most && is_going s.says

-- the last turn, before which there are i records
abbrev pub last_of : ℕ → Stepped → Checked
last_of i s = follow i s.place (checked (fault (i + 2) Length) s.place) s.says

-- ---- over the sweep's frames

-- after a frame, taken by the first n cards, whose records are held to those at a place
unfoldable pub played : ℕ → List ℕ → ℕ → Turn → List Card → ℕ → Played
played w l at t cards n =
    record {
      turn = hear t.reader (heard_from (frame t.reader) (take n cards));
      cards = cards_after cards n (frame t.reader);
      compared = compared w l (sent_heard (frame t.reader) (heard_from (frame t.reader) (take n cards))) at;
    }

-- the place of the records that come next; 0 where none do
abbrev pub next_place : Compared → ℕ
next_place (Ok at) = at
next_place (Err First) = 0
next_place (Err Second) = 0

abbrev pub is_same : Compared → Bool
is_same (Ok at) = true
is_same (Err First) = false
is_same (Err Second) = false

-- after so many frames
unfoldable pub plays_on : Played → ℕ → Bool
plays_on p frames = ltb frames most_frames && is_same p.compared && goes p.turn.answer

-- the last frame, before whose records there are i, in a log of so many bytes
abbrev pub finish : ℕ → ℕ → Played → Verdict
finish i size p = compared_then i (λ at. cond (leb size at) (Ok tt) (fault (i + 2) Forbidden)) p.compared
