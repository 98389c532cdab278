-- Document 01, "When the core declines", "The log" and "How tight the contracts are": the call of a sweep over an array of cards, of which
-- the first n are the field. What a sweep is stands in crate sweep_rules.
use Rattle.std.specs.Prelude.{ℕ, not, cond, ◌||◌, List, ◌++◌, length, take, drop, ltb}
use Rattle.rows.specs.Rows.{overlay}
use Rattle.reader.specs.Reader.{is_new}
use Rattle.air_log.specs.Log.{log_bytes, list_bytes}
use Rattle.limits.specs.Limits.{most_cards, log_room, list_room}
use Rattle.sweep_rules.specs.Run.{Out, sweep}
use Rattle.sweep_rules.specs.Terms.{within}
use Rattle.card.specs.declared.Card.{Card}
use Rattle.reader.specs.declared.Reader.{Reader}
use Rattle.reader.specs.declared.Answer.TheVariants.{Declines}
use Rattle.refusal.specs.declared.Refusal.{Refusal}
use Rattle.refusal.specs.declared.Refusal.TheVariants.{Room, Argument, NotDue}
use Rattle.sweep.specs.declared.Start.{Start}
use Rattle.sweep.specs.declared.Swept.{Swept}

-- what the call gives, and the lent log and list afterwards
pub record Call : Type 0 where
  pub swept : Swept
  pub log : List ℕ
  pub list : List ℕ

abbrev pub call : Swept → List ℕ → List ℕ → Call
call s log list = record { swept = s; log = log; list = list }

-- declined before a frame is sent: all is unchanged
abbrev pub refused : Reader → List Card → Refusal → Swept
refused r cards e = record { reader = r; answer = Declines e; cards = cards; frames = 0; logged = 0; found = 0 }

-- the run o of the first n cards, the log's first tick t: the others are unchanged, log and list are written from their fronts on, the rest of them is untouched
unfoldable pub done : ℕ → List Card → ℕ → List ℕ → List ℕ → Out → Call
done t cards n log list o =
    record {
      swept = record {
        reader = o.last.reader;
        answer = o.last.answer;
        cards = o.cards ++ drop n cards;
        frames = length o.exchanges;
        logged = length (log_bytes t o.exchanges);
        found = length o.found;
      };
      log = overlay log 0 (log_bytes t o.exchanges);
      list = overlay list 0 (list_bytes o.found);
    }

-- the call of a sweep, W being its run over a field: 11, 1 and 6 are tested in this order
unfoldable pub call_of : (List Card → Out) → Start → List Card → ℕ → List ℕ → List ℕ → Call
call_of W s cards n log list =
    cond (not (is_new s.reader.phase)) (call (refused s.reader cards NotDue) log list)
    (cond (ltb (length log) log_room || ltb (length list) list_room) (call (refused s.reader cards Room) log list)
    (cond (ltb most_cards n || not (within (take n cards))) (call (refused s.reader cards Argument) log list)
    (done s.tick cards n log list (W (take n cards)))))

-- the plain sweep's
abbrev pub sweep_of : Start → List Card → ℕ → List ℕ → List ℕ → Call
sweep_of s cards n log list = call_of sweep s cards n log list
