-- `card::ready::take_ready` meets its contract: the level is one of the UID's, or it is not. Assumes nothing.
use mathlib.Core.Path.{ap, ◌∙◌}
use mathlib.Core.List.{[]}
use native.Mathlib.Omega.{arith}
use Rattle.card.proofs.ReadyLaws.{level_step, level_none}
use Rattle.card.specs.TakenLaws.{handed, unmoved}
use Rattle.card.proofs.ready.take_ready.Goals as goal

pub returns-then-i-level_count : goal.returns-then-i-level_count
returns-then-i-level_count c = let a = c.args in
    let p = c.place-i in
    let n = c.level_count in let both = unmoved a.c a.out.now (ap (λ s. (s, [])) c.home.ensures ∙ level_none a.c a.woken a.l a.row.now p.result n.result p.ensures n.ensures (omega arith)) c.silent.ensures in record { value = both.0; out_after = both.1 }

pub returns : goal.returns
returns c = let a = c.args in
    let p = c.place-i in
    let n = c.level_count in
    let ls = c.levels in let both = handed a.c a.out.now (level_step a.c a.woken a.l a.row.now p.result n.result p.ensures n.ensures ls.result ls.ensures (omega arith)) (c.ready_at.ensures.value, c.ready_at.ensures.out_after) in record { value = both.0; out_after = both.1 }
