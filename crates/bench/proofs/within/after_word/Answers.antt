-- `bench::within::after_word` meets its contract. Assumes nothing.
use mathlib.Core.Path.{ap, ◌∙◌}
use Rattle.bench.specs.Words.{after_run}
use Rattle.bench.proofs.within.after_word.Goals as goal

pub returns : goal.returns
returns c = record { upper_bound = c.stop.ensures.high; text_value = c.stop.ensures.rest ∙ ap after_run c.skip.ensures.rest }
