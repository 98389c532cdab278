use mathlib.Core.Path.{◌∙◌}
use mathlib.Core.Bool.{true}
use lib.ListN.{take}
use Rattle.memory_rules.specs.Run.{recalled}
use Rattle.sweep_steps.specs.Loop.{swept_if}
use Rattle.sweep.proofs.CallLaws.{same_run}
use Rattle.memory_sweep.proofs.Kept.{swept_recalled, loop_fits, promised}
use Rattle.memory_sweep.proofs.sweep.Goals as goal

pub call-requires : goal.call-requires
call-requires c = let a = c.args in loop_fits (take a.n a.cards)

pub returns : goal.returns
returns c = let a = c.args in
    let k = c.call in let both = promised a.start a.cards a.n a.log.now a.list.now k.result k.new.log k.new.list
    (k.ensures.list_after ∙ same_run (swept_if true) recalled a.start a.cards a.n a.log.now a.list.now (swept_recalled (take a.n a.cards)))
    k.ensures.all in record { list_after = both.0; recalls = both.1 }
