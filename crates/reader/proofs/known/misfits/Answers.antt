-- `reader::known::misfits` meets its contract, by those of the tests that it calls. Assumes nothing.
use mathlib.Core.Path.{sym, ◌∙◌}
use mathlib.Core.Bool.{true, false}
use borrow.Author.Tests.{lt-ltb, le-ltb}
use Rattle.reader.specs.Reader.{misfits}
use Rattle.reader.specs.KnownLaws.{misfits_told}
use Rattle.reader.proofs.known.misfits.Goals as goal

pub returns-then-not-is_valid : goal.returns-then-not-is_valid
unfolding misfits
returns-then-not-is_valid c = rw (sym c.is_valid.ensures ∙ c.if-not-is_valid.true)

pub returns-then-place-level_count : goal.returns-then-place-level_count
returns-then-place-level_count c = let a = c.args in
    misfits_told a.l a.u a.more true true _ _ (sym c.is_valid.ensures ∙ c.if-not-is_valid.false) c.place.ensures c.level_count.ensures (lt-ltb _ _ c.if-place-level_count.true)

pub returns : goal.returns
returns c = let a = c.args in
    misfits_told a.l a.u a.more true false _ _ (sym c.is_valid.ensures ∙ c.if-not-is_valid.false) c.place.ensures c.level_count.ensures (le-ltb _ _ c.if-place-level_count.false)
