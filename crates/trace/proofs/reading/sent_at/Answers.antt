use Rattle.trace.specs.ReadLaws.{sent_held, sent_else}
use mathlib.Core.Path.{◌∙◌, sym}
use Rattle.trace.proofs.reading.sent_at.Goals as goal

pub holds-requires : goal.holds-requires
holds-requires c = sent_held _ _ _ _ _ _ c.shared_slice_known-1.given (sym c.read_at.ensures ∙ c.in-Sent.is)

pub returns-then-holds : goal.returns-then-holds
returns-then-holds c = rw (← c.read_at.ensures, c.in-Sent.is, ← c.holds.ensures, c.if-holds.true)

pub returns-else-holds : goal.returns-else-holds
returns-else-holds c = rw (← c.read_at.ensures, c.in-Sent.is, ← c.holds.ensures, c.if-holds.false)

pub returns-in-End : goal.returns-in-End
returns-in-End c = rw (← c.read_at.ensures, c.in-End.is)

pub returns-in-Cut : goal.returns-in-Cut
returns-in-Cut c = rw (← c.read_at.ensures, c.in-Cut.is)

pub returns-in_default : goal.returns-in_default
returns-in_default c = let d = c.in_default in rw (← c.read_at.ensures) (sent_else c.args.log.now c.args.frame.now c.read_at.result d.not-Sent d.not-End d.not-Cut)
