-- `reader_link::whole::hear_selecting` meets its contract, by those of `hear_rules` and `select_turn`. Assumes nothing.
use mathlib.Core.Path.{ap}
use mathlib.Core.List.{[]}
use Rattle.reader_link.specs.ReaderCalls.{selecting}
use Rattle.reader_link.specs.WholeLaws.{two}
use Rattle.reader_link.proofs.whole.hear_selecting.Goals as goal

pub returns : goal.returns
returns c = let both = two c.args.out.now (ap (λ t. selecting t []) c.hear_rules.ensures) (c.select_turn.ensures.value, c.select_turn.ensures.out_after) in record { value = both.0; out_after = both.1 }
