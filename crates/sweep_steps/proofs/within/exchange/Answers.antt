use mathlib.Core.Path.{◌≡◌, ap, ◌∙◌}
use native.Mathlib.Omega.{arith}
use lib.ListN.{length, take, length-take}
use Rattle.reader.specs.Reader.{frame}
use Rattle.field.specs.Field.{heard_from}
use Rattle.memory.specs.Memory.{hear_if}
use Rattle.memory.specs.Stored.{path_of, memory_of}
use Rattle.sweep_steps.specs.ExchangeLaws.{Front, heard_aired}
use Rattle.sweep_steps.specs.Steps.{aired}
use Rattle.sweep_steps.specs.Loop.{exchanged}
use borrow.Author.Rules.{rules}
use Rattle.sweep_steps.proofs.within.exchange.Goals as goal

pub shared_ref_as_front-heard : goal.shared_ref_as_front-heard
shared_ref_as_front-heard g c = let a = c.args in
    let x = c.air-a in
    let n : length x.result.heard ≡ 45 = search rules in
    omega (arith, n, (heard_aired a.r a.cards a.n x.result x.ensures.value).fits)

pub slice_bounds-heard-end : goal.slice_bounds-heard-end
slice_bounds-heard-end g c = let a = c.args in
    let x = c.air-a in
    rw length-take (omega (arith, (heard_aired a.r a.cards a.n x.result x.ensures.value).fits))

pub returns : goal.returns
unfolding exchanged aired
returns g c = let a = c.args in
    let x = c.air-a in
    let v : Front (heard_from (frame a.r) (take a.n a.cards)) x.result.bits x.result.heard = heard_aired a.r a.cards a.n x.result x.ensures.value in
    let h = c.hear in
    let memory : h.result ≡ memory_of (hear_if g.H.Hears.remembers a.r (path_of a.path) (heard_from (frame a.r) (take a.n a.cards))) = h.ensures ∙ ap (λ y. memory_of (hear_if g.H.Hears.remembers a.r (path_of a.path) y)) v.bits in record { value = rw (memory, x.ensures.value); log_after = x.ensures.log_after }
