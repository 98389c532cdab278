-- `reader::known::wake_turn` meets its contract: a UID is made, or 6. Assumes nothing.
use Rattle.std.proofs.Common.{sym, ap, ◌∙◌}
use Rattle.reader.specs.Calls.{wake_made, wake_turn}
use Rattle.reader.proofs.known.wake_turn.Goals as goal

pub returns-in-Ok : goal.returns-in-Ok
unfolding wake_turn
returns-in-Ok c = c.wakes.ensures ∙ ap (wake_made c.args.r) (sym c.in-Ok.is ∙ c.new_uid.ensures.value)

pub returns-in-Err : goal.returns-in-Err
unfolding wake_turn
returns-in-Err c = ap (wake_made c.args.r) (sym c.in-Err.is ∙ c.new_uid.ensures.value)
