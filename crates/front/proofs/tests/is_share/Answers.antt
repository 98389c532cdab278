-- `front::tests::is_share` meets its contract: the definition has the same tests. Assumes nothing.
use mathlib.Core.Path.{sym, ◌∙◌}
use Rattle.std.proofs.lemmas.Bool.{false≢true}
use Rattle.front.specs.Front.{share_taken}
use Rattle.front.proofs.tests.is_share.Goals as goal
use Rattle.front.proofs.tests.is_share.Goals.{then-share, else-share}

pub returns-then-share-2 : goal.returns-then-share-2
unfolding share_taken
returns-then-share-2 c = elim c.if-share.branch [
  | then-share w ↦ rw (w.if-share.true, sym w.value-is ∙ c.if-share-2.true)
  | else-share w ↦ absurd (false≢true (sym w.if-share.false ∙ sym w.value-is ∙ c.if-share-2.true))
]

pub returns-else-share-2 : goal.returns-else-share-2
unfolding share_taken
returns-else-share-2 c = elim c.if-share.branch [
  | then-share w ↦ rw (w.if-share.true, sym w.value-is ∙ c.if-share-2.false, c.if-share-2.false)
  | else-share w ↦ rw (w.if-share.false, c.if-share-2.false)
]
