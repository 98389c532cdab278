use mathlib.Core.Path.{sym, ap, ◌∙◌}
use mathlib.Core.Bool.{true}
use Rattle.uid.specs.declared.Level.TheVariants.{Two, Three}
use Rattle.reader.specs.Reader.{opens, after_sak}
use Rattle.reader.proofs.within.more_levels.Goals as goal

pub returns-in-One : goal.returns-in-One
returns-in-One c = let a = c.args in c.opens.ensures ∙ ap (opens Two a.r.sweeps) c.longer.ensures ∙ ap (λ l. after_sak l a.r 0 true) (sym c.in-One.is)

pub returns-in-Two : goal.returns-in-Two
returns-in-Two c = let a = c.args in c.opens-in-Two.ensures ∙ ap (opens Three a.r.sweeps) c.longer-in-Two.ensures ∙ ap (λ l. after_sak l a.r 0 true) (sym c.in-Two.is)

pub returns-in-Three : goal.returns-in-Three
returns-in-Three c = let a = c.args in c.stop.ensures ∙ ap (λ l. after_sak l a.r 0 true) (sym c.in-Three.is)
