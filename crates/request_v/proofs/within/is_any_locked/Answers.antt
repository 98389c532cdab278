-- `request_v::within::is_any_locked` meets its contract: the locks of the named blocks, and no others. Assumes nothing.
use Rattle.std.proofs.Common.{sym, ◌∙◌, rules, tests}
use Rattle.std.proofs.lemmas.Iterator.{YieldsList-from_slice, YieldsList-from_take}
use Rattle.std.proofs.lemmas.Iterator.Adapters.{YieldsList-from_skip}
use Rattle.std.proofs.lemmas.Iterator.Search.{any_from_yields_List}
use Rattle.request_v.specs.Request.{is_lock, any_locked}
use Rattle.request_v.proofs.RequestLaws.{any_is}
use Rattle.request_v.proofs.within.is_any_locked.Goals as goal

pub returns : goal.returns
unfolding any_locked
returns c =
    let y = YieldsList-from_take c.args.count (YieldsList-from_skip c.args.first (YieldsList-from_slice c.args.locks.now cc) (cc)) (cc) in
    any_from_yields_List is_lock _ _ _ c.any.ensures.ran y (λ x b q k. search (rules, tests)) ∙ sym (any_is is_lock _)
