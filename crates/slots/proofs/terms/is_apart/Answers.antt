use Rattle.std.proofs.Common.{sym, ◌∙◌, ◌+◌, arith}
use Rattle.slots.specs.TermLaws.{rest_is, apart_next, apart_not, apart_done}
use Rattle.slots.proofs.terms.is_apart.Goals as goal

pub returns-then-not-is_alone : goal.returns-then-not-is_alone
returns-then-not-is_alone c =
    let a = c.args in
    let l = c.loop-i in
    let r = rw (rest_is a.cards.now (l.i + 1)) at c.is_alone.ensures in
    sym (sym l.invariant ∙ apart_not a.cards.now l.i _ (omega arith) (sym r ∙ c.if-not-is_alone.true))

pub loop-i-preserved : goal.loop-i-preserved
loop-i-preserved c =
    let a = c.args in
    let l = c.loop-i in
    let r = rw (rest_is a.cards.now (l.i + 1)) at c.is_alone.ensures in
    sym (apart_next a.cards.now l.i _ (omega arith) (sym r ∙ c.if-not-is_alone.false)) ∙ l.invariant

pub returns : goal.returns
returns c =
    let a = c.args in
    let l = c.loop-i in
    sym (sym l.invariant ∙ apart_done a.cards.now l.i (omega arith))
