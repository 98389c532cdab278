-- `selection::heard::awaited` meets its contract. Assumes nothing.
use borrow.Author.Tests.{eq-eqb, ne_eqb}
use Rattle.selection.specs.RestLaws.{nil_yes, nil_no}
use Rattle.selection.proofs.heard.awaited.Goals as goal

pub returns-then-row-eq0 : goal.returns-then-row-eq0
returns-then-row-eq0 c = rw (nil_yes _ c.if-row-eq0.true)

pub returns-then-row-n : goal.returns-then-row-n
returns-then-row-n c = rw (nil_no _ c.if-row-eq0.false, ne_eqb _ _ c.if-row-n.true)

pub returns : goal.returns
returns c = rw (nil_no _ c.if-row-eq0.false, eq-eqb _ _ c.if-row-n.false)
