use Rattle.std.proofs.Common.{refl, ◌∙◌}
use Rattle.std.proofs.Math.ListN.{length-set}
use Rattle.sweep_row.proofs.Turning as law
use Rattle.sweep_row.proofs.RowTurn as row
use Rattle.sweep_row.proofs.within.over.Goals as goal

pub loop-p-init : goal.loop-p-init
loop-p-init g c =
    let a = c.args in
    let o = c.opening-p in
    record { under = law.opened g.H.Hears.remembers a.start a.cards.now a.log.now a.list.now o.result o.new.log o.new.list o.ensures; rows = refl }

pub turn-t-requires : goal.turn-t-requires
turn-t-requires g c =
    let a = c.args in
    let l = c.loop-p in
    row.ready g.H.Hears.remembers a.start a.cards.now a.log.now a.list.now l.p l.cards l.log l.list l.invariant.under l.invariant.rows c.loop-p-test.true

pub loop-p-smaller : goal.loop-p-smaller
loop-p-smaller g c =
    let a = c.args in
    let l = c.loop-p in
    let t = c.turn-t in
    row.fewer g.H.Hears.remembers a.start a.cards.now a.log.now a.list.now l.p l.cards l.log l.list l.invariant.under l.invariant.rows c.loop-p-test.true t.result t.new.log t.new.list t.ensures

pub loop-p-preserved : goal.loop-p-preserved
loop-p-preserved g c =
    let a = c.args in
    let l = c.loop-p in
    let t = c.turn-t in
    record {
      under = row.after g.H.Hears.remembers a.start a.cards.now a.log.now a.list.now l.p l.cards l.log l.list l.invariant.under l.invariant.rows c.loop-p-test.true t.result t.new.log t.new.list t.ensures;
      rows = length-set l.cards l.p.at t.result.card ∙ l.invariant.rows;
    }

pub returns : goal.returns
returns g c =
    let a = c.args in
    let l = c.loop-p in
    law.ended g.H.Hears.remembers a.start a.cards.now a.log.now a.list.now l.p l.cards l.log l.list l.invariant.under c.loop-p-test.false
