-- Demand 3 (document 01, "How tight the contracts are"): what a sweep over a field within the terms is. The one statement of it, over the
-- rules of card and reader; the contracts of the sweeps cite it.
use Rattle.std.specs.Prelude.{◌≡◌, ◌≢◌, ℕ, ◌≤◌, Bool, true, false, cond, ◌&&◌, List, [], ◌∷◌, map, length}
use Rattle.limits.specs.Limits.{log_room, list_room, frames_bound}
use Rattle.rows.specs.Rows.{All, Bytes, any, same}
use Rattle.uid.specs.Order.{above}
use Rattle.uid.specs.Uid.{uid_bytes, row_of, falling, frame_sum}
use Rattle.card.specs.Card.{with_state}
use Rattle.reader.specs.Reader.{turn, blank}
use Rattle.air_log.specs.Calls.{tick_size}
use Rattle.air_log.specs.Log.{exchange_bytes, log_bytes, list_bytes}
use Rattle.air_log.specs.Reading.{sent_in}
use Rattle.sweep_rules.specs.Run.{Out}
use Rattle.sweep_rules.specs.Terms.{is_idle}
use Rattle.card.specs.declared.Card.{Card}
use Rattle.uid.specs.declared.Uid.{Uid}
use Rattle.card.specs.declared.CardState.TheVariants.{Halt}
use Rattle.reader.specs.declared.Phase.TheVariants.{Finished}
use Rattle.reader.specs.declared.Answer.TheVariants.{Finishes}

-- what a card's type says of its UID's bytes
pub record Typed (c : Card) : Type 0 where
  pub ten : length c.uid.bytes ≡ 10
  pub bytes : Bytes c.uid.bytes

-- the UIDs of the idle cards
unfoldable pub idle : List Card → List Uid
idle [] = []
idle (c ∷ cs) = cond (is_idle c.state) (c.uid ∷ idle cs) (idle cs)

unfoldable pub halted : Card → Card
halted c = with_state c Halt

-- an idle card has the UID u
unfoldable pub is_idle_with : List ℕ → Card → Bool
is_idle_with u c = is_idle c.state && same u (uid_bytes c.uid)

-- no two are the same
abbrev pub Distinct : List (List ℕ) → Type 0
Distinct [] = Unit {0}
Distinct (u ∷ l) = All (λ v. u ≢ v) l × Distinct l

-- "at the first difference the 1 comes first": each row comes before all later ones
abbrev pub Descending : List (List ℕ) → Type 0
Descending [] = Unit {0}
Descending (r ∷ l) = All (λ s. above r s ≡ true) l × Descending l

-- a sweep over the field cs that gave o
pub record Demand3 (cs : List Card) (o : Out) : Type 0 where
  -- it ends as a finished sweep, nothing declined
  pub finished : o.last ≡ turn (blank Finished false) Finishes
  -- the list: the UIDs of the idle cards, falling
  pub found : o.found ≡ map uid_bytes (falling (idle cs))
  -- .. each once; a UID is in it exactly if an idle card has it; their on-air rows fall
  pub once : Distinct o.found
  pub exactly : (u : List ℕ) → any (same u) o.found ≡ any (is_idle_with u) cs
  pub descending : Descending (map row_of (falling (idle cs)))
  -- the same cards in their places, each halted
  pub cards : o.cards ≡ map halted cs
  -- the frames are as many as the sum says, and so are the reader records that are read from the log's bytes, whatever the starting tick t
  -- (T-09: "a starting tick, any one in demand 3")
  pub frames : length o.exchanges ≡ frame_sum (falling (idle cs))
  pub counted : (t : ℕ) → sent_in tick_size (log_bytes t o.exchanges) ≡ frame_sum (falling (idle cs))
  pub bound : length o.exchanges ≤ frames_bound (length (idle cs))
  -- each frame and what was heard take at most 27 bytes of log, eight of them their ticks; log and list have room
  pub short : (t : ℕ) → All (λ e. length (exchange_bytes t e) ≤ 27) o.exchanges
  pub log_fits : (t : ℕ) → length (log_bytes t o.exchanges) ≤ log_room
  pub list_fits : length (list_bytes o.found) ≤ list_room
