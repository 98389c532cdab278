-- `kept_field::within::settle` meets its contract, by the laws `settled_refused` and `settled_swept`. Assumes nothing.
use mathlib.Core.Path.{sym, ◌∙◌}
use Rattle.kept_field.specs.SweptLaws.{settled_refused, settled_swept}
use Rattle.kept_field.proofs.within.settle.Goals as goal

pub returns-then-selection_refuses : goal.returns-then-selection_refuses
returns-then-selection_refuses c = let a = c.args in let both = settled_refused a.s a.n a.state.now a.cards.now _ (sym c.selection_refuses.ensures ∙ c.if-selection_refuses.true) c.selection_number.ensures in record { value = both.0; state_after = both.1.0; cards_after = both.1.1.0; says = both.1.1.1 }

pub returns : goal.returns
returns c = let a = c.args in
    let no = sym c.selection_refuses.ensures ∙ c.if-selection_refuses.false in
    let k = c.keep.ensures in
    let p = c.put_cards.ensures in let both = settled_swept a.s a.n a.state.now a.cards.now _ _ _ no c.link_of-k.ensures k.state_after k.state_after_2 p.b_after p.b_after_2 p.cards_len in record { value = both.0; state_after = both.1.0; cards_after = both.1.1.0; says = both.1.1.1 }
