-- `selection_b::heard::read_byte` meets its contract: the definition has the same tests, in the same order. Assumes nothing.
use mathlib.Core.Path.{sym, ◌∙◌}
use Rattle.selection_b.specs.HeardBLaws.{byte_silence, byte_length, byte_collided, byte_clean}
use Rattle.selection_b.proofs.heard.read_byte.Goals as goal

pub returns-then-is_empty : goal.returns-then-is_empty
returns-then-is_empty c = byte_silence _ (sym c.is_empty.ensures ∙ c.if-is_empty.true)

pub returns-then-row-ne24 : goal.returns-then-row-ne24
returns-then-row-ne24 c = byte_length _ (sym c.is_empty.ensures ∙ c.if-is_empty.false) c.if-row-ne24.true

pub returns-then-not-is_clean : goal.returns-then-not-is_clean
returns-then-not-is_clean c = byte_collided _ (sym c.is_empty.ensures ∙ c.if-is_empty.false) c.if-row-ne24.false (sym c.is_clean.ensures ∙ c.if-not-is_clean.true)

pub byte_in-requires : goal.byte_in-requires
byte_in-requires c = (c.if-row-ne24.false, sym c.is_clean.ensures ∙ c.if-not-is_clean.false)

pub returns : goal.returns
returns c = c.byte_in.ensures ∙ byte_clean _ (sym c.is_empty.ensures ∙ c.if-is_empty.false) c.if-row-ne24.false (sym c.is_clean.ensures ∙ c.if-not-is_clean.false)
