use mathlib.Core.Path.{sym, ap, ◌∙◌}
use Rattle.sweep_rules.specs.Terms.{apart}
use Rattle.sweep_steps.specs.TermLaws.{apart_next, apart_not, apart_none}
use Rattle.sweep_steps.proofs.terms.is_apart.Goals as goal

pub returns-then-not-is_alone : goal.returns-then-not-is_alone
returns-then-not-is_alone c = let s = c.in-Some in
    sym (sym c.loop-c.invariant ∙ ap apart s.ensures.cases.0 ∙ apart_not s.c.now s.behind.now (sym c.is_alone.ensures ∙ c.if-not-is_alone.true))

pub loop-c-preserved : goal.loop-c-preserved
loop-c-preserved c = let s = c.in-Some in
    sym (apart_next s.c.now s.behind.now (sym c.is_alone.ensures ∙ c.if-not-is_alone.false)) ∙ sym (ap apart s.ensures.cases.0) ∙ c.loop-c.invariant

pub returns : goal.returns
returns c = sym (sym c.loop-c.invariant ∙ apart_none c.loop-c.rest.now c.in_default.ensures.cases)
