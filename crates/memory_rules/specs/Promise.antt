-- Document 02, T-14: what a sweep that remembers is, over a field within demand 3's terms. "In the same room it must give the same list and
-- leave the same cards halted as the plain one for every field within demand 3. Its log records its own frames."
use Rattle.std.specs.Prelude.{◌≡◌, ℕ, ◌+◌, ◌-◌, ◌*◌, ◌≤◌, false, List, length}
use Rattle.limits.specs.Limits.{log_room, list_room}
use Rattle.rows.specs.Rows.{All}
use Rattle.uid.specs.Uid.{falling}
use Rattle.reader.specs.Reader.{turn, blank}
use Rattle.air_log.specs.Calls.{tick_size}
use Rattle.air_log.specs.Log.{exchange_bytes, log_bytes, list_bytes}
use Rattle.air_log.specs.Reading.{sent_in}
use Rattle.sweep_rules.specs.Demand.{idle}
use Rattle.sweep_rules.specs.Run.{Out, sweep}
use Rattle.memory_rules.specs.Count.{recall_sum, level_frames, all_shared, collisions}
use Rattle.card.specs.declared.Card.{Card}
use Rattle.reader.specs.declared.Phase.TheVariants.{Finished}
use Rattle.reader.specs.declared.Answer.TheVariants.{Finishes}

-- a sweep that remembers over the field cs that gave o. What the plain sweep over cs gives is said by demand 3
pub record Remembers (cs : List Card) (o : Out) : Type 0 where
  -- it ends as a finished sweep, nothing declined
  pub finished : o.last ≡ turn (blank Finished false) Finishes
  -- "the same list", UID by UID, and so byte for byte; "the same cards halted", whole structs
  pub found : o.found ≡ (sweep cs).found
  pub cards : o.cards ≡ (sweep cs).cards
  -- the frames are as many as the sum says, and so are the reader records that are read from the log's bytes, whatever the starting tick t; never
  -- more than the plain sweep's
  pub frames : length o.exchanges ≡ recall_sum (falling (idle cs))
  pub counted : (t : ℕ) → sent_in tick_size (log_bytes t o.exchanges) ≡ recall_sum (falling (idle cs))
  pub fewer : length o.exchanges ≤ length (sweep cs).exchanges
  -- each collision is met once, so n idle cards take n plus the sum of (2 + 2L), less all that is shared: at most 9n frames
  pub once : collisions (falling (idle cs)) ≡ length (idle cs) - 1
  pub total : 1 ≤ length (idle cs) → length o.exchanges + all_shared (falling (idle cs)) ≡ length (idle cs) + level_frames (falling (idle cs))
  pub most : 1 ≤ length (idle cs) → length o.exchanges ≤ 9 * length (idle cs)
  -- "In the same room": each frame and what was heard take at most 27 bytes of log; log and list have room
  pub short : (t : ℕ) → All (λ e. length (exchange_bytes t e) ≤ 27) o.exchanges
  pub log_fits : (t : ℕ) → length (log_bytes t o.exchanges) ≤ log_room
  pub list_fits : length (list_bytes o.found) ≤ list_room
