use Rattle.trace_rules.specs.Check.{check_log}
use Rattle.trace.specs.WalkLaws.{few_found}
use Rattle.trace.proofs.check_log.Goals as goal

pub judged-requires : goal.judged-requires
judged-requires c = rw c.walk-c.ensures (few_found _ _ _)

pub returns-in-Ok : goal.returns-in-Ok
unfolding check_log
returns-in-Ok c = rw (← c.walk-c.ensures, c.in-Ok.is) c.judged.ensures

pub returns-in-Err : goal.returns-in-Err
unfolding check_log
returns-in-Err c = rw (← c.walk-c.ensures, c.in-Err.is)
