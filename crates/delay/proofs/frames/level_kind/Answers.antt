-- `delay::frames::level_kind` meets its contract. Assumes nothing.
use Rattle.std.proofs.Common.{sym, refl, ◌∙◌}
use Rattle.delay.specs.KindLaws.{level_kind_law}
use Rattle.delay.proofs.frames.level_kind.Goals as goal

pub returns-then-is_anticollision : goal.returns-then-is_anticollision
returns-then-is_anticollision c = sym (level_kind_law _ _ c.five_of-five.ensures (sym c.is_anticollision.ensures ∙ c.if-is_anticollision.true) refl)

pub returns-then-is_select : goal.returns-then-is_select
returns-then-is_select c = sym (level_kind_law _ _ c.five_of-five.ensures (sym c.is_anticollision.ensures ∙ c.if-is_anticollision.false) (sym c.is_select.ensures ∙ c.if-is_select.true))

pub returns-else-is_select : goal.returns-else-is_select
returns-else-is_select c = sym (level_kind_law _ _ c.five_of-five.ensures (sym c.is_anticollision.ensures ∙ c.if-is_anticollision.false) (sym c.is_select.ensures ∙ c.if-is_select.false))
