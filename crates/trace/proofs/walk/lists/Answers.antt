use mathlib.Core.Path.{ap, ◌∙◌}
use borrow.Author.Tests.{le-leb, lt-leb}
use Rattle.trace_rules.specs.Trace.{goes, lists}
use Rattle.trace.proofs.walk.lists.Goals as goal

pub returns-then-p-ge-MOST_CARDS : goal.returns-then-p-ge-MOST_CARDS
unfolding lists
returns-then-p-ge-MOST_CARDS c = rw (le-leb _ _ c.if-p-ge-MOST_CARDS.true) c.faults.ensures

pub returns-then-is_listed : goal.returns-then-is_listed
unfolding lists
returns-then-is_listed c = rw (lt-leb _ _ c.if-p-ge-MOST_CARDS.false, ← c.is_listed.ensures, c.if-is_listed.true) c.faults-then-is_listed.ensures

pub returns : goal.returns
unfolding lists
returns c = rw (lt-leb _ _ c.if-p-ge-MOST_CARDS.false, ← c.is_listed.ensures, c.if-is_listed.false) (c.goes.ensures ∙ ap goes c.with_card.ensures)
