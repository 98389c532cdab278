use borrow.Author.Tests.{lt-ltb, le-ltb}
use Rattle.reader.specs.Reader.{contradicts}
use Rattle.reader.proofs.within.contradicts.Goals as goal

-- src/within.rt:310:9
pub returns-then-more : goal.returns-then-more
unfolding contradicts
returns-then-more c = rw c.if-more.true

-- src/within.rt:313:9
pub returns-then-place-lt2 : goal.returns-then-place-lt2
unfolding contradicts
returns-then-place-lt2 c = rw (c.if-more.false, ← c.place.ensures, lt-ltb _ 2 c.if-place-lt2.true)

-- src/within.rt:306:1
pub returns : goal.returns
unfolding contradicts
returns c = rw (c.if-more.false, ← c.place.ensures, le-ltb _ 2 c.if-place-lt2.false)
