use mathlib.Core.Path.{sym, ap₂, ◌∙◌}
use Prim.Native.Nat.{◌+◌}
use native.Mathlib.Omega.{arith}
use Rattle.sweep_steps.specs.ExchangeLaws.{length_exchange, exchange_written}
use Rattle.sweep_steps.proofs.within.put_exchange.Goals as goal

pub put_sent-first-requires : goal.put_sent-first-requires
put_sent-first-requires c = let a = c.args in
    (c.requires.0, c.requires.1, omega (arith, c.requires.3, length_exchange a.tick a.frame.now a.heard.now))

pub overflow_add-at : goal.overflow_add-at
overflow_add-at c = let a = c.args in
    omega (arith, c.requires.3, c.put_sent-first.ensures.value, length_exchange a.tick a.frame.now a.heard.now)

pub put_heard-second-requires : goal.put_heard-second-requires
put_heard-second-requires c = let a = c.args in
    let s = c.put_sent-first in
    (c.requires.2, omega (arith, c.requires.3, s.ensures.value, s.auto.out, length_exchange a.tick a.frame.now a.heard.now))

pub overflow_add-result : goal.overflow_add-result
overflow_add-result c = let a = c.args in
    omega (arith, c.requires.3, c.put_sent-first.ensures.value, c.put_heard-second.ensures.value, length_exchange a.tick a.frame.now a.heard.now)

pub returns : goal.returns
returns c = let a = c.args in
    let s = c.put_sent-first in
    let h = c.put_heard-second in record { value = ap₂ ◌+◌ s.ensures.value h.ensures.value ∙ sym (length_exchange a.tick a.frame.now a.heard.now); log_after = exchange_written a.log.now a.at a.tick a.frame.now a.heard.now _ _ s.result c.requires.3 s.ensures.value s.ensures.out_after h.ensures.out_after }
