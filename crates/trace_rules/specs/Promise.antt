-- What the check promises of logs and sweeps. T-12: "A log that the plain sweep wrote must come out clean with that sweep's list; a log called clean must be,
-- ticks apart, the one that the plain sweep writes over the printed cards, idle, valid and within the limit." Stated over the rules of the sweep, crate
-- sweep_rules, and not over its code.
use Rattle.std.specs.Prelude.{◌≡◌, ℕ, ◌≤◌, true, List, [], ◌∷◌, ◌++◌, map, length, Ok}
use Rattle.rows.specs.Rows.{All}
use Rattle.uid.specs.Uid.{uid_bytes}
use Rattle.air_log.specs.Log.{Exchange, sent_record, heard_record}
use Rattle.sweep_rules.specs.Demand.{Typed}
use Rattle.sweep_rules.specs.Run.{sweep}
use Rattle.sweep_rules.specs.Terms.{is_idle, within}
use Rattle.card.specs.declared.Card.{Card}
use Rattle.trace_rules.specs.Check.{cards_of}
use Rattle.trace_rules.specs.Trace.{stamp_size}
use Rattle.trace_rules.specs.declared.Checked.{Checked}

-- ---- the log of some exchanges, "ticks apart"

-- its first two records are those of an exchange, each with some stamp of w bytes, and what is behind them has F
pub record Begins (w : ℕ) (F : List ℕ → Type 0) (e : Exchange) (l : List ℕ) : Type 0 where
  pub sent_stamp : List ℕ
  pub heard_stamp : List ℕ
  pub rest : List ℕ
  pub sent_wide : length sent_stamp ≡ w
  pub heard_wide : length heard_stamp ≡ w
  pub bytes : l ≡ sent_record sent_stamp e.sent ++ (heard_record heard_stamp e.heard ++ rest)
  pub behind : F rest

abbrev pub LogOf : ℕ → List Exchange → List ℕ → Type 0
LogOf w [] l = l ≡ []
LogOf w (e ∷ es) l = Begins w (LogOf w es) e l

-- an input with such a log: the first byte says whether the stamps are ticks or empty
pub record InputOf (es : List Exchange) (s : List ℕ) : Type 0 where
  pub mode : ℕ
  pub log : List ℕ
  pub mode_ok : mode ≤ 1
  pub input : s ≡ mode ∷ log
  pub records : LogOf (stamp_size mode) es log

-- ---- a check of the input s that gave c

-- it comes out clean, with the list of the sweep over cs; a card listed speaks blocks if the idle one with its UID does
pub record ComesOut (cs : List Card) (c : Checked) : Type 0 where
  pub clean : c.verdict ≡ Ok tt
  pub list : map (λ d. uid_bytes d.uid) (cards_of c) ≡ (sweep cs).found
  pub saks : All (λ d. All (λ g. is_idle d.state ≡ true → uid_bytes d.uid ≡ uid_bytes g.uid → d.blocks ≡ g.blocks) (cards_of c)) cs

pub record Faithful (s : List ℕ) (c : Checked) : Type 0 where
  -- "A log that the plain sweep wrote must come out clean with that sweep's list": over any field within demand 3's terms, with whatever ticks, or without
  pub from_sweep : (cs : List Card) → All Typed cs → within cs ≡ true → InputOf (sweep cs).exchanges s → ComesOut cs c
  -- "a log called clean must be, ticks apart, the one that the plain sweep writes over the printed cards, idle, valid and within the limit": and
  -- different
  pub is_sweep : c.verdict ≡ Ok tt → InputOf (sweep (cards_of c)).exchanges s
  pub is_field : c.verdict ≡ Ok tt → within (cards_of c) ≡ true
  pub are_idle : c.verdict ≡ Ok tt → All (λ d. is_idle d.state ≡ true) (cards_of c)
