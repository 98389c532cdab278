use mathlib.Core.Path.{◌≡◌, refl, sym, ap, ap₂, ◌∙◌}
use native.Mathlib.Omega.{arith}
use borrow.Author.Rules.{rules}
use lib.ListN.{length, length-set}
use Rattle.field.specs.TakeLaws.{under_turn, from_none, from_done, heard_none, front_fits}
use Rattle.rows.proofs.RowLaws.{overlay_nil}
use Rattle.field.proofs.within.take_all.Goals as goal

pub loop-i-init : goal.loop-i-init
loop-i-init c = let a = c.args in (
  omega arith,
  search rules,
  search rules,
  refl,
  record {
    count = rw (heard_none a.frame.now a.n a.start) refl;
    row = rw (heard_none a.frame.now a.n a.start) (sym (overlay_nil _ 0));
    cards = from_none _ a.n a.start;
  },
)

pub take_one-one-requires : goal.take_one-one-requires
take_one-one-requires c = let l = c.loop-i in
    let a = c.args in
    let u = l.invariant.4 in
    (omega (arith, l.invariant.3, u.count, front_fits a.heard.now _ _ (sym (ap length u.row) ∙ l.invariant.3)), omega (arith, l.invariant.3))

pub loop-i-preserved : goal.loop-i-preserved
loop-i-preserved c = let l = c.loop-i in
    let a = c.args in
    let t = c.take_one-one in (
      omega arith,
      simp length-set (omega arith),
      omega arith,
      t.auto.heard ∙ l.invariant.3,
      under_turn a.heard.now a.start a.n a.frame.now l.heard l.cards l.bits l.i l.invariant.4 (omega arith) (omega arith) (omega arith)
          _ t.result t.ensures.value t.new.heard t.ensures.heard_after,
    )

pub returns : goal.returns
returns c = let l = c.loop-i in
    let a = c.args in
    let u = l.invariant.4 in
    let e : l.i ≡ 0 = omega arith in record { value = ap₂ (λ x m. record { cards = x; bits = m }) (rw e at u.cards ∙ from_done a.frame.now a.n a.start) (rw e at u.count); heard_after = rw e at u.row }
