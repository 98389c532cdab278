-- `wake_row::woken` meets its contract. Assumes nothing.
use mathlib.Core.Path.{◌≡◌, ap, subst, ◌∙◌}
use lib.ListN.{take}
use Rattle.uid.specs.Uid.{uid_bytes}
use Rattle.wake.specs.Promise.{Wakens}
use Rattle.wake.specs.Wake.{wake_of}
use Rattle.wake_row.proofs.woken.Goals as goal

pub returns : goal.returns
unfolding uid_bytes
returns c = let a = c.args in
    let e : take c.byte_count.result a.u.bytes ≡ uid_bytes a.u = ap (λ m. take m a.u.bytes) c.byte_count.ensures in
    record { value = c.wake.ensures.value ∙ ap (λ l. wake_of a.r l a.cards a.n) e; wakens = subst (λ l. Wakens a.r l a.cards a.n c.wake.result) e c.wake.ensures.wakens }
