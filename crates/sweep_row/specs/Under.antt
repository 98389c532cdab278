-- The invariant of the sweep over a lent row: b says whether it remembers (T-14).
use Rattle.std.specs.Prelude.{ℕ, suc, ◌+◌, ◌-◌, ◌*◌, ◌≤◌, ◌<◌, Bool, true, false, cond, List, ◌++◌, ◌≡◌, length, take, replicate}
use Rattle.rows.specs.Rows.{All}
use Rattle.reader.specs.Reader.{is_new, frame}
use Rattle.field.specs.TakeLaws as take-laws
use Rattle.memory.specs.Memory.{Recall, recall}
use Rattle.memory.specs.Stored.{path_of}
use Rattle.sweep_rules.specs.Demand.{Typed}
use Rattle.limits.specs.Limits.{most_cards, log_room, list_room, most_frames}
use Rattle.sweep_rules.specs.Terms.{within}
use Rattle.sweep.specs.Promise.{Terms}
use Rattle.sweep.specs.Sweep.{call, call_of}
use Rattle.sweep_steps.specs.Loop.{sweeper, swept_if}
use Rattle.sweep_steps.specs.RunLaws as run-laws
use Rattle.sweep_steps.specs.Steps.{Reached}
use Rattle.card.specs.declared.Card.{Card}
use Rattle.sweep.specs.declared.Start.{Start}
use Rattle.sweep.specs.declared.Swept.{Swept}
use Rattle.refusal.specs.declared.Refusal.TheVariants.{Argument}
use Rattle.sweep_row.specs.declared.within.Progress.{Progress}
use Rattle.sweep_row.specs.Row.{swept_row, no_card, refused_row, goes_on}
use Rattle.sweep_row.specs.SeenLaws.{SeenFrom}

-- a row of at most the limit of cards as an array of as many as the limit, of which the first n are the field: the laws of a sweep are told of such arrays
abbrev pub padded : ℕ → List Card → List Card
padded n cards = cards ++ replicate (most_cards - n) no_card

-- the tests that come before the first card
pub record Begun (start : Start) (cards : List Card) (log list : List ℕ) : Type 0 where
  pub new : is_new start.reader.phase ≡ true
  pub log_has_room : log_room ≤ length log
  pub list_has_room : list_room ≤ length list
  pub few : length cards ≤ most_cards

-- the cards behind the place are seen
pub record Looking (b : Bool) (start : Start) (cards₀ : List Card) (log₀ list₀ : List ℕ) (p : Progress) (cards : List Card) (log list : List ℕ) : Type 0 where
  pub begun : Begun start cards₀ log₀ list₀
  pub row : cards ≡ cards₀
  pub log_row : log ≡ log₀
  pub list_row : list ≡ list₀
  pub count : p.cards ≡ length cards₀
  pub at : p.at < length cards₀
  pub bits : p.air.bits ≤ length p.air.heard
  pub tick : p.tick ≡ start.tick
  pub refused : p.swept ≡ refused_row start.reader Argument
  pub seen : SeenFrom cards₀ (suc p.at) p.seen

-- how far the sweep is where the cards cs have not taken the frame yet
abbrev pub reached_at : Progress → List Card → Reached
reached_at p cs =
    record {
      turn = record { reader = p.swept.reader; answer = p.swept.answer };
      cards = padded p.cards cs;
      logged = p.swept.logged;
      frames = p.swept.frames;
      found = p.swept.found;
    }

-- the reader's turn and path
abbrev pub recall_at : Progress → Recall
recall_at p = recall (record { reader = p.swept.reader; answer = p.swept.answer }) (path_of p.path)

-- the cards behind the place have taken the frame that is out; cs are the cards before it, heard₀ is what stood in the row that is heard
pub record Taking (b : Bool) (start : Start) (cards₀ : List Card) (log₀ list₀ : List ℕ) (p : Progress) (cards : List Card) (log list : List ℕ) : Type 0 where
  pub begun : Begun start cards₀ log₀ list₀
  pub field : within cards₀ ≡ true
  pub typed : All Typed cards₀
  pub cs : List Card
  pub heard₀ : List ℕ
  pub size : length cs ≡ length cards₀
  pub count : p.cards ≡ length cards₀
  pub at : p.at < length cards₀
  pub goes : goes_on p.swept ≡ true
  pub tick : p.tick ≡ start.tick
  pub sweep_at : run-laws.Under (sweeper b) start.tick (swept_if b cards₀) (padded (length cards₀) cards₀) (length cards₀) log₀ list₀ (recall_at p) (reached_at p cs) log list
  pub take_at : take-laws.Under heard₀ cs (length cs) (frame p.swept.reader) p.air.heard cards p.air.bits (suc p.at)

-- the sweep's call gave s, log and list: it is the call of the definition, and its terms are met by cards that are typed only
abbrev pub Called : Bool → Start → List Card → ℕ → List ℕ → List ℕ → Swept → List ℕ → List ℕ → Type 0
Called b start cards₀ n log₀ list₀ s log list =
    (call s log list ≡ call_of (swept_if b) start cards₀ n log₀ list₀) × (Terms start cards₀ n log₀ list₀ → All Typed (take n cards₀))

-- going and looking say which
abbrev pub UnderIf : Bool → Bool → Bool → Start → List Card → List ℕ → List ℕ → Progress → List Card → List ℕ → List ℕ → Type 0
UnderIf b false l start cards₀ log₀ list₀ p cards log list = Called b start cards₀ (length cards₀) log₀ list₀ (swept_row p.swept cards) log list
UnderIf b true true start cards₀ log₀ list₀ p cards log list = Looking b start cards₀ log₀ list₀ p cards log list
UnderIf b true false start cards₀ log₀ list₀ p cards log list = Taking b start cards₀ log₀ list₀ p cards log list

abbrev pub Under : Bool → Start → List Card → List ℕ → List ℕ → Progress → List Card → List ℕ → List ℕ → Type 0
Under b start cards₀ log₀ list₀ p cards log list = UnderIf b p.going p.looking start cards₀ log₀ list₀ p cards log list

-- more turns than a pass over a row has
abbrev pub pass_turns : ℕ
pass_turns = 1 + most_cards

-- the turns to come are fewer after each: in a pass the place, and the passes
abbrev pub measure : Progress → ℕ
measure p = cond p.looking (pass_turns * (1 + most_frames) + p.at) (pass_turns * (most_frames - p.swept.frames) + p.at)

-- a sweep over any row of n cards begins
pub record Opened (b : Bool) (start : Start) (n : ℕ) (log₀ list₀ : List ℕ) (p : Progress) (log list : List ℕ) : Type 0 where
  pub begins : (cards : List Card) → length cards ≡ n → Under b start cards log₀ list₀ p cards log list
