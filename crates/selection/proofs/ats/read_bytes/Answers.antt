use Rattle.std.specs.Prelude.{Ok}
use mathlib.Core.Path.{sym, ap, ◌∙◌}
use borrow.Author.Tests.{eq-eqb, ne_eqb, lt-ltb, le-ltb, le-leb, lt-leb}
use Rattle.selection.specs.AtsLaws.{ats_none, ats_short, ats_is}
use Rattle.selection.proofs.ats.read_bytes.Goals as goal

pub returns-then-l-eq0 : goal.returns-then-l-eq0
returns-then-l-eq0 c = sym (ats_none c.args.l.now c.if-l-eq0.true)

pub returns-then-tl-eq1 : goal.returns-then-tl-eq1
returns-then-tl-eq1 c = sym (ats_short c.args.l.now c.if-l-eq1.true ∙ rw (eq-eqb _ _ c.if-tl-eq1.true))

pub returns-then-l-eq1 : goal.returns-then-l-eq1
returns-then-l-eq1 c = sym (ats_short c.args.l.now c.if-l-eq1.true ∙ rw (ne_eqb _ _ c.if-tl-eq1.false))

pub returns-then-tl-l : goal.returns-then-tl-l
returns-then-tl-l c = sym (ats_is c.args.l.now c.if-l-eq0.false c.if-l-eq1.false ∙ rw (ne_eqb _ _ c.if-tl-l.true))

pub returns-then-t0-ge128 : goal.returns-then-t0-ge128
returns-then-t0-ge128 c = sym (ats_is c.args.l.now c.if-l-eq0.false c.if-l-eq1.false ∙ rw (eq-eqb _ _ c.if-tl-l.false, le-ltb _ _ c.if-t0-ge128.true))

pub returns-then-l-announced : goal.returns-then-l-announced
returns-then-l-announced c = sym (ats_is c.args.l.now c.if-l-eq0.false c.if-l-eq1.false ∙ rw (eq-eqb _ _ c.if-tl-l.false, lt-ltb _ _ c.if-t0-ge128.false, ← c.announced.ensures, lt-leb _ _ c.if-l-announced.true))

pub returns : goal.returns
returns c = sym (ats_is c.args.l.now c.if-l-eq0.false c.if-l-eq1.false ∙ rw (eq-eqb _ _ c.if-tl-l.false, lt-ltb _ _ c.if-t0-ge128.false, ← c.announced.ensures, le-leb _ _ c.if-l-announced.false) (ap Ok (sym c.at_most_8.ensures)))
