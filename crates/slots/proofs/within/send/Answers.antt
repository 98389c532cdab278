-- `slots::within::send` meets its contract: the definition has the same test. Assumes nothing.
use mathlib.Core.Path.{ap, ◌∙◌}
use Rattle.reader_b.specs.ReaderB.{next}
use Rattle.slots.specs.Steps.{exchanged}
use Rattle.slots.specs.StepLaws.{out_request, out_marker}
use Rattle.slots.proofs.within.send.Goals as goal

pub returns-then-r-eq1 : goal.returns-then-r-eq1
returns-then-r-eq1 c = let a = c.args in
    c.exchange.ensures ∙ ap (exchanged a.r a.cards a.count) (c.request-request.ensures ∙ out_request a.q.wake a.q.afi a.r c.if-r-eq1.true)

pub returns-else-r-eq1 : goal.returns-else-r-eq1
unfolding next
returns-else-r-eq1 c = let a = c.args in
    c.exchange-else-r-eq1.ensures ∙ ap (exchanged a.r a.cards a.count) (c.marker-marker.ensures ∙ out_marker a.q.wake a.q.afi a.r c.if-r-eq1.false)
