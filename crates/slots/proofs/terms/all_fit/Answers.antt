use Rattle.std.proofs.Common.{sym, ◌∙◌, arith}
use Rattle.slots.specs.TermLaws.{all_next, fit_next, fit_not, fit_done}
use Rattle.slots.proofs.terms.all_fit.Goals as goal

pub returns-then-not-card_fits-clause-value : goal.returns-then-not-card_fits-clause-value
returns-then-not-card_fits-clause-value c =
    let a = c.args in
    let l = c.loop-d in
    sym (sym l.invariant.0 ∙ fit_not a.cards.now l.d-index _ (omega arith) a.n (sym c.card_fits.ensures.value ∙ c.if-not-card_fits.true))

pub loop-d-preserved : goal.loop-d-preserved
loop-d-preserved c =
    let a = c.args in
    let l = c.loop-d in
    (sym (fit_next a.cards.now l.d-index _ (omega arith) a.n (sym c.card_fits.ensures.value ∙ c.if-not-card_fits.false)) ∙ l.invariant.0, all_next a.cards.now l.d-index _ (omega arith) l.invariant.1 c.card_fits.ensures.typed)

pub returns-clause-value : goal.returns-clause-value
returns-clause-value c =
    let a = c.args in
    let l = c.loop-d in
    sym (sym l.invariant.0 ∙ fit_done a.cards.now l.d-index (omega arith) a.n)
