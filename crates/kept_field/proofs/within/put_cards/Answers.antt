use mathlib.Core.Path.{◌≡◌, refl, ◌∙◌}
use native.Mathlib.Omega.{arith}
use borrow.Author.Rules.{rules}
use lib.ListN.{length}
use Rattle.kept.specs.States.{states_left}
use Rattle.kept_field.specs.KeptField.{cards_left}
use Rattle.kept_field.specs.FieldLaws.{put_turn, put_done}
use Rattle.kept_field.proofs.within.put_cards.Goals as goal

pub loop-i-init : goal.loop-i-init
unfolding cards_left states_left
loop-i-init c = (omega arith, omega arith, omega arith, search rules, refl, refl, tt)

pub put-requires : goal.put-requires
put-requires c = let k : length c.card_bytes.result ≡ 20 = search rules in
    let l = c.loop-i in
    omega (arith, l.invariant.4)

pub loop-i-preserved : goal.loop-i-preserved
loop-i-preserved c = let l = c.loop-i in
    let a = c.args in
    let p = c.put in
    let k = c.card_bytes in
    let t = put_turn l.b a.b.now _ a.cards l.i _ _ _ (omega arith) (omega arith) l.invariant.5 l.invariant.6 refl k.ensures.bytes_len k.ensures.value p.ensures in
    (omega arith, omega arith, omega arith, l.invariant.3, p.auto.out ∙ l.invariant.4, t.0, t.1)

pub returns : goal.returns
returns c = let l = c.loop-i in
    let a = c.args in
    let e : l.i ≡ c.few-i-end.result = omega arith in
    let d = put_done a.n l.i _ a.b.now a.cards (omega arith) l.invariant.3 (e ∙ c.few-i-end.ensures) l.invariant.5 l.invariant.6 in record { b_after = d.0; b_after_2 = d.1; cards_len = l.invariant.3 }
