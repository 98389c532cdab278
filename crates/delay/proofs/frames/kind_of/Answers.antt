-- `delay::frames::kind_of` meets its contract: the tests in their order. Assumes nothing.
use Rattle.std.proofs.Common.{sym, ◌∙◌}
use Rattle.card.specs.TakenLaws.{told}
use Rattle.delay.specs.Kind.{kind_of}
use Rattle.delay.specs.KindLaws.{collided_other}
use Rattle.delay.proofs.frames.kind_of.Goals as goal

pub returns-then-is_same : goal.returns-then-is_same
unfolding kind_of
returns-then-is_same c = rw (told _ c.is_same.ensures c.reqa.ensures c.if-is_same.true)

pub returns-then-is_same-2 : goal.returns-then-is_same-2
unfolding kind_of
returns-then-is_same-2 c = rw (
  told _ c.is_same.ensures c.reqa.ensures c.if-is_same.false,
  told _ c.is_same-else-is_same.ensures c.wupa.ensures c.if-is_same-2.true,
)

pub level_kind-requires : goal.level_kind-requires
level_kind-requires c = sym c.is_clean.ensures ∙ c.if-is_clean.true

pub returns-then-is_clean : goal.returns-then-is_clean
unfolding kind_of
returns-then-is_clean c = rw (
  told _ c.is_same.ensures c.reqa.ensures c.if-is_same.false,
  told _ c.is_same-else-is_same.ensures c.wupa.ensures c.if-is_same-2.false,
  c.level_kind.ensures,
)

pub returns-else-is_clean : goal.returns-else-is_clean
unfolding kind_of
returns-else-is_clean c = rw (
  told _ c.is_same.ensures c.reqa.ensures c.if-is_same.false,
  told _ c.is_same-else-is_same.ensures c.wupa.ensures c.if-is_same-2.false,
  collided_other _ (sym c.is_clean.ensures ∙ c.if-is_clean.false),
)
