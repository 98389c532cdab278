use mathlib.Core.Path.{sym, ap, ◌∙◌}
use mathlib.Core.Bool.{false}
use Rattle.reader.specs.Reader.{completes, after_sak}
use Rattle.reader.proofs.within.last_level.Goals as goal

pub returns-in-One : goal.returns-in-One
returns-in-One c = let a = c.args in c.completes.ensures ∙ ap (λ u. completes a.r.sweeps u a.b) c.longer.ensures ∙ ap (λ l. after_sak l a.r a.b false) (sym c.in-One.is)

pub returns-in-Two : goal.returns-in-Two
returns-in-Two c = let a = c.args in c.completes-in-Two.ensures ∙ ap (λ u. completes a.r.sweeps u a.b) c.longer-in-Two.ensures ∙ ap (λ l. after_sak l a.r a.b false) (sym c.in-Two.is)

pub returns-in-Three : goal.returns-in-Three
returns-in-Three c = let a = c.args in c.completes-in-Three.ensures ∙ ap (λ u. completes a.r.sweeps u a.b) c.longer-in-Three.ensures ∙ ap (λ l. after_sak l a.r a.b false) (sym c.in-Three.is)
