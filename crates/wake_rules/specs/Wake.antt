-- T-03: "a sweep, without log or list, that sends WUPA once to a field, selects one given UID .. level by level without ANTICOLLISION". What a run of
-- the rules is stands in crate sweep_rules; this one begins with WUPA, and has a frame more than the UID has levels.
use Rattle.std.specs.Prelude.{suc, List, length}
use Rattle.uid.specs.Uid.{levels}
use Rattle.reader.specs.Reader.{wakes}
use Rattle.sweep_rules.specs.Run.{Out, run}
use Rattle.uid.specs.declared.Uid.{Uid}
use Rattle.card.specs.declared.Card.{Card}

unfoldable pub wake : Uid → List Card → Out
wake u cs = run (suc (length (levels u))) (wakes u) cs
