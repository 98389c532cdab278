use mathlib.Core.Path.{sym, subst}
use native.Mathlib.Omega.{arith}
use Rattle.sweep_row.specs.Row.{Roomy}
use Rattle.sweep_row.specs.TurnLaws.{turns_look, turns_end, turns_on}
use Rattle.sweep_row.proofs.within.turn.Goals as goal

pub returns-then-p : goal.returns-then-p
returns-then-p g c = let a = c.args in
    turns_look g.H.Hears.remembers a.p a.c a.log.now a.list.now c.look.result c.if-p.true c.look.ensures.value c.look.ensures.typed

pub finish-f-requires : goal.finish-f-requires
finish-f-requires g c = let a = c.args in
    subst (λ h. Roomy g.H.Hears.remembers a.p h.air a.log.now a.list.now) (sym c.hear_card-h.ensures) (c.requires.room c.if-p.false c.if-p-eq0.true)

pub again-requires : goal.again-requires
again-requires g c = omega (arith, c.requires.at)

pub returns-then-p-eq0 : goal.returns-then-p-eq0
returns-then-p-eq0 g c = let a = c.args in
    let h = c.hear_card-h in
    let e = c.finish-f in
    turns_end g.H.Hears.remembers a.p a.c a.log.now a.list.now c.if-p.false h.result h.ensures c.if-p-eq0.true e.result e.ensures.value c.again.result c.again.ensures _ _ e.ensures.log_after e.ensures.list_after

pub returns : goal.returns
returns g c = let a = c.args in
    let h = c.hear_card-h in
    turns_on g.H.Hears.remembers a.p a.c a.log.now a.list.now c.if-p.false h.result h.ensures c.if-p-eq0.false c.onward.result c.onward.ensures
