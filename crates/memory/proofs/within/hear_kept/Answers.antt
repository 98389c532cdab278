-- `memory::within::hear_kept` meets its contract. Assumes nothing.
use mathlib.Core.Path.{ap, ap₂}
use Rattle.memory.specs.Memory.{branch, comes, stays}
use Rattle.memory.specs.Stored.{path_of}
use Rattle.memory.proofs.StoredLaws.{path_at, heard_at, else_heard, rest_heard}
use Rattle.uid.specs.declared.Level.TheVariants.{One}
use Rattle.memory.proofs.within.hear_kept.Goals as goal

pub returns-in-ReqaSent : goal.returns-in-ReqaSent
returns-in-ReqaSent c = let b = c.take_branch in
    let a = c.args in
    heard_at a.r (path_of a.p.path) a.row.now _ (comes One c.hear_rules-t.result (path_of b.result.path)) c.comes.result c.in-ReqaSent.is c.comes.ensures
    (ap₂ (comes One) c.hear_rules-t.ensures (path_at b.result.path (branch (path_of a.p.path)) b.ensures))

pub returns-in-AnticollisionSent : goal.returns-in-AnticollisionSent
returns-in-AnticollisionSent c = let a = c.args in
    rest_heard _ a.r (path_of a.p.path) a.row.now _ c.hear_rest.result c.hear_rest.ensures c.hear_rules-t.ensures c.in-AnticollisionSent.is

pub returns-in-SelectSent : goal.returns-in-SelectSent
returns-in-SelectSent c = let l = c.higher in
    let a = c.args in
    heard_at a.r (path_of a.p.path) a.row.now _ (comes l.result c.hear_rules-t.result (path_of a.p.path)) c.comes-in-SelectSent.result c.in-SelectSent.is c.comes-in-SelectSent.ensures
    (ap₂ (λ k u. comes k u (path_of a.p.path)) l.ensures c.hear_rules-t.ensures)

pub returns-in-HltaSent : goal.returns-in-HltaSent
returns-in-HltaSent c = let a = c.args in
    heard_at a.r (path_of a.p.path) a.row.now _ (stays c.hear_rules-t.result (path_of a.p.path)) c.stays.result c.in-HltaSent.is c.stays.ensures (ap (λ u. stays u (path_of a.p.path)) c.hear_rules-t.ensures)

pub returns-in_default : goal.returns-in_default
returns-in_default c = let a = c.args in
    let n = c.in_default in
    else_heard a.r (path_of a.p.path) a.row.now _ c.unchanged.result n.not-ReqaSent n.not-AnticollisionSent n.not-SelectSent n.not-HltaSent c.unchanged.ensures c.hear_rules-t.ensures
