use mathlib.Core.Path.{◌∙◌, ap}
use Rattle.rows.specs.ListLaws.{bytes_at_law}
use Rattle.trace_rules.specs.Check.{checked_says}
use Rattle.trace_rules.proofs.FaithLaws.{faithful, says}
use Rattle.trace.proofs.check.Goals as goal

pub returns : goal.returns
returns c = let s = c.args.input.now in
    let e = c.check_input.ensures in record { value = e; result_value = ap checked_says e ∙ says s; faithful = rw e (faithful s (bytes_at_law s c.shared_slice_known-1.given)) }
