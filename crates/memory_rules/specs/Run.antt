-- Document 02, T-14, over document 01's state rules: a sweep that remembers is the run of any sweep (`run_of`, sweep_rules/specs/Run.antt) by the
-- reader that has a path.
use Rattle.std.specs.Prelude.{ℕ, true, List, []}
use Rattle.reader.specs.Reader.{blank, sends}
use Rattle.limits.specs.Limits.{most_frames}
use Rattle.sweep_rules.specs.Run.{Out, Runner, run_of}
use Rattle.memory.specs.Memory.{Recall, recall, hear}
use Rattle.card.specs.declared.Card.{Card}
use Rattle.reader.specs.declared.Phase.TheVariants.{ReqaSent}

-- the reader that has a path
abbrev pub remembering : Runner Recall
remembering = record { turn = λ m. m.turn; hears = λ m h. hear m.turn.reader m.path h }

unfoldable pub run : ℕ → Recall → List Card → Out
run fuel m cs = run_of remembering fuel m cs

-- a sweep that remembers: nothing is known at first
unfoldable pub recalled : List Card → Out
recalled cs = run most_frames (recall (sends (blank ReqaSent true)) []) cs
