-- `delay::difference` meets its contract. Assumes nothing.
use Rattle.std.proofs.Common.{arith}
use Rattle.delay.specs.CallLaws.{difference_fits, difference_is}
use Rattle.delay.proofs.difference.Goals as goal

pub overflow_sub-result : goal.overflow_sub-result
overflow_sub-result c = difference_fits c.args.delay c.args.due (omega arith) (omega arith)

pub returns : goal.returns
returns c = difference_is c.args.delay c.args.due (omega arith) (omega arith)
