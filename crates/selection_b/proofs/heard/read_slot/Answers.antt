-- `selection_b::heard::read_slot` meets its contract: the definition has the same tests, in the same order. Assumes nothing.
use mathlib.Core.Path.{sym, ◌∙◌}
use Rattle.selection_b.specs.HeardBLaws.{slot_none, slot_length, slot_more, slot_clean, says_too}
use Rattle.selection_b.specs.SaysB.{slot_says}
use Rattle.selection_b.proofs.heard.read_slot.Goals as goal

pub returns-then-is_empty : goal.returns-then-is_empty
returns-then-is_empty c =
    let t = says_too slot_says (c.nobody.ensures ∙ slot_none _ (sym c.is_empty.ensures ∙ c.if-is_empty.true)) in
    record { value = t.0; result_value = t.1 }

pub returns-then-row-ne112 : goal.returns-then-row-ne112
returns-then-row-ne112 c =
    let t = says_too slot_says (c.nobody-then-row-ne112.ensures ∙ slot_length _ (sym c.is_empty.ensures ∙ c.if-is_empty.false) c.if-row-ne112.true) in
    record { value = t.0; result_value = t.1 }

pub returns-then-not-is_clean : goal.returns-then-not-is_clean
returns-then-not-is_clean c =
    let t = says_too slot_says (c.nobody-then-not-is_clean.ensures ∙ slot_more _ (sym c.is_empty.ensures ∙ c.if-is_empty.false) c.if-row-ne112.false (sym c.is_clean.ensures ∙ c.if-not-is_clean.true)) in
    record { value = t.0; result_value = t.1 }

pub slot_in-requires : goal.slot_in-requires
slot_in-requires c = (c.if-row-ne112.false, sym c.is_clean.ensures ∙ c.if-not-is_clean.false)

pub returns : goal.returns
returns c =
    let t = says_too slot_says (c.slot_in.ensures ∙ slot_clean _ (sym c.is_empty.ensures ∙ c.if-is_empty.false) c.if-row-ne112.false (sym c.is_clean.ensures ∙ c.if-not-is_clean.false)) in
    record { value = t.0; result_value = t.1 }
