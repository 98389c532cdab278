-- `sweep_row::seen::is_alone` meets its contract. Assumes nothing.
use mathlib.Core.Path.{ap, ◌∙◌}
use mathlib.Core.Bool.{not}
use borrow.Author.Rules.{rules}
use borrow.Author.Tests.{tests}
use Rattle.std.proofs.lemmas.Iterator.{YieldsList-from_slice}
use Rattle.std.proofs.lemmas.Iterator.Search.{any_from_yields_List}
use Rattle.rows.specs.Rows.{same}
use Rattle.uid.specs.Uid.{uid_bytes}
use Rattle.uid.specs.declared.Uid.{Uid}
use Rattle.sweep_steps.specs.TermLaws.{any_is}
use Rattle.sweep_row.proofs.seen.is_alone.Goals as goal

pub returns : goal.returns
returns c = let a = c.args in
    ap not (any_from_yields_List (λ (v : Uid). same (uid_bytes a.u) (uid_bytes v)) _ _ _ c.any.ensures.ran (YieldsList-from_slice a.uids.now cc) (λ x b q k. search (rules, tests))
    ∙ any_is (λ (v : Uid). same (uid_bytes a.u) (uid_bytes v)) a.uids.now)
