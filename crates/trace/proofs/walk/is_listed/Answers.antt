-- `trace::walk::is_listed` meets its contract. Assumes nothing.
use mathlib.Core.Path.{◌∙◌}
use borrow.Author.Rules.{rules}
use borrow.Author.Tests.{tests}
use Rattle.std.proofs.lemmas.Iterator.{YieldsList-from_slice}
use Rattle.std.proofs.lemmas.Iterator.Search.{any_from_yields_List}
use Rattle.rows.specs.Rows.{same}
use Rattle.uid.specs.Uid.{uid_bytes}
use Rattle.card.specs.declared.Card.{Card}
use Rattle.sweep_steps.specs.TermLaws.{any_is}
use Rattle.trace_rules.specs.Trace.{is_listed}
use Rattle.trace.proofs.walk.is_listed.Goals as goal

pub returns : goal.returns
unfolding is_listed
returns c = let a = c.args in
    any_from_yields_List (λ (k : Card). same (uid_bytes a.u) (uid_bytes k.uid)) _ _ _ c.any.ensures.ran (YieldsList-from_slice a.cards.now cc) (λ x b q k. search (rules, tests))
    ∙ any_is (λ (k : Card). same (uid_bytes a.u) (uid_bytes k.uid)) a.cards.now
