-- `reader::known::pick_next` meets its contract, level by level. Assumes nothing.
use mathlib.Core.Path.{sym, ap, ◌∙◌}
use Rattle.reader.specs.Reader.{pick_next}
use Rattle.reader.proofs.known.pick_next.Goals as goal

pub returns-in-One : goal.returns-in-One
returns-in-One c = c.picks.ensures ∙ ap (λ l. pick_next l c.args.u) (sym c.in-One.is)

pub returns-in-Two : goal.returns-in-Two
returns-in-Two c = c.picks-in-Two.ensures ∙ ap (λ l. pick_next l c.args.u) (sym c.in-Two.is)

pub returns-in-Three : goal.returns-in-Three
returns-in-Three c = c.stop.ensures ∙ ap (λ l. pick_next l c.args.u) (sym c.in-Three.is)
