-- `bench_text::within::hex_char` meets its contract. Assumes nothing.
use borrow.Author.Tests.{lt-ltb, le-ltb}
use Rattle.bench_text.specs.Text.{hex_char}
use Rattle.bench_text.proofs.within.hex_char.Goals as goal

pub returns-then-d-lt10 : goal.returns-then-d-lt10
unfolding hex_char
returns-then-d-lt10 c = simp (lt-ltb _ _ c.if-d-lt10.true)

pub returns-else-d-lt10 : goal.returns-else-d-lt10
unfolding hex_char
returns-else-d-lt10 c = simp (le-ltb _ _ c.if-d-lt10.false)
