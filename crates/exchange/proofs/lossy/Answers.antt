use mathlib.Core.Path.{◌≡◌, sym, ◌∙◌}
use mathlib.Core.Bool.{true}
use native.Mathlib.Omega.{arith}
use borrow.Author.Rules.{rules}
use Rattle.exchange.specs.Lossy.{round_by}
use Rattle.exchange.specs.Steps.{goes_on, done_by}
use Rattle.exchange.proofs.RunLaws.{under_none, rest_first, goes_left, fewer, under_turn, under_done}
use Rattle.exchange.proofs.lossy.Goals as goal

pub loop-row-init : goal.loop-row-init
loop-row-init c = let a = c.args in
    let s = c.send-turn.ensures in
    under_none (record { noise = a.noise.now; downs = a.downs.now; hosts = a.hosts.now; ups = a.ups.now }) a.reader a.card a.message.now a.before.now a.answer.now a.rounds a.down.now a.up.now _ _ c.send-turn.result c.begin-p.result (search rules) c.send-turn.auto.out (s.value, s.out_after) c.begin-p.ensures

pub round-p-requires : goal.round-p-requires
round-p-requires c = let l = c.loop-row in
    let n = c.args.rounds in
    let g : goes_on l.p n ≡ true = sym c.goes_on.ensures ∙ c.loop-row-test.true in
    (l.invariant.fit, omega (arith, (goes_left l.p n g).0, c.ranges.rounds), l.invariant.row_size)

pub loop-row-smaller : goal.loop-row-smaller
loop-row-smaller c = let l = c.loop-row in
    let a = c.args in
    fewer (round_by a.noise.now c.fates_at-x.result) l.p c.round-p.result _ _ _ _ _ _ _ _ _ a.rounds (sym c.goes_on.ensures ∙ c.loop-row-test.true) c.round-p.ensures.row_after

pub loop-row-preserved : goal.loop-row-preserved
loop-row-preserved c = let l = c.loop-row in
    let a = c.args in
    let r = c.round-p in
    under_turn (record { noise = a.noise.now; downs = a.downs.now; hosts = a.hosts.now; ups = a.ups.now }) a.message.now a.before.now a.answer.now a.rounds a.down.now a.up.now _ l.p l.down l.up l.row l.invariant c.fates_at-x.result r.result _ _ _ (sym c.goes_on.ensures ∙ c.loop-row-test.true) c.fates_at-x.ensures r.ensures.row_after r.ensures.fit r.auto.down r.auto.up r.auto.row

pub shape_of-down : goal.shape_of-down
shape_of-down c = c.loop-row.invariant.down_size

pub shape_of-up : goal.shape_of-up
shape_of-up c = c.loop-row.invariant.up_size

pub returns : goal.returns
unfolding done_by
returns c = let l = c.loop-row in
    let a = c.args in
    let s = c.send-turn.ensures in
    under_done (record { noise = a.noise.now; downs = a.downs.now; hosts = a.hosts.now; ups = a.ups.now }) a.message.now a.before.now a.answer.now a.rounds a.down.now a.up.now _ l.p l.down l.up l.row l.invariant (sym c.goes_on.ensures ∙ c.loop-row-test.false)
    ∙ rest_first (record { noise = a.noise.now; downs = a.downs.now; hosts = a.hosts.now; ups = a.ups.now }) a.reader a.card a.message.now a.before.now a.answer.now a.rounds a.down.now a.up.now _ _ c.send-turn.result c.begin-p.result (search rules) c.send-turn.auto.out (s.value, s.out_after) c.begin-p.ensures
