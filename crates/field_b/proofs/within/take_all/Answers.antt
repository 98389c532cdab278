use Rattle.std.proofs.Common.{length, take, drop, refl, sym, ap, ap₂, ◌++◌, ◌∙◌, arith}
use Rattle.field.specs.TakeLaws.{front_fits}
use Rattle.field_b.specs.CallsB.{cards_after}
use Rattle.field_b.specs.TakeBLaws.{under_none, under_turn, under_done}
use Rattle.field_b.proofs.within.take_all.Goals as goal

pub loop-d-init : goal.loop-d-init
loop-d-init c = record { size = refl; under = under_none _ _ _ }

pub take_one-o-requires : goal.take_one-o-requires
take_one-o-requires c =
    let l = c.loop-d in
    let u = l.invariant.under in
    (omega (arith, l.invariant.size, u.count, front_fits c.args.heard.now _ _ (sym (ap length u.row) ∙ l.invariant.size)), omega (arith, l.invariant.size))

pub loop-d-preserved : goal.loop-d-preserved
loop-d-preserved c =
    let l = c.loop-d in
    let a = c.args in
    let t = c.take_one-o in
    record {
      size = t.auto.heard ∙ l.invariant.size;
      under = under_turn a.frame.now (take a.n a.start) l.d-index _ c.loop-d-test.true a.heard.now l.heard l.d-items l.bits l.invariant.under t.result t.ensures.value t.new.heard t.ensures.heard_after;
    }

pub returns : goal.returns
unfolding cards_after
returns c =
    let l = c.loop-d in
    let a = c.args in
    let d = under_done a.heard.now (take a.n a.start) a.frame.now l.heard l.d-items l.bits l.d-index l.invariant.under c.loop-d-test.false in
    record { value = ap₂ (λ x m. record { cards = x ++ drop a.n a.start; bits = m }) d.0 d.1; heard_after = d.2 }
