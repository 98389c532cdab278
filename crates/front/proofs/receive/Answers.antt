-- `front::receive` meets its contract: off writes nothing. Assumes nothing.
use Rattle.rows.proofs.RowLaws.{overlay_nil}
use Rattle.front.proofs.receive.Goals as goal

pub returns-in-Off-clause-places_after : goal.returns-in-Off-clause-places_after
returns-in-Off-clause-places_after c = rw (c.in-Off.is, overlay_nil c.args.places.now 0)
