-- `lacrivosum::type_b::halt` meets its contract, by the laws `halt_unfit` and `halt_fit`. Assumes nothing.
use Rattle.lacrivosum.specs.LibraryBLaws.{halt_unfit, halt_fit}
use Rattle.lacrivosum.proofs.type_b.halt.Goals as goal

pub returns-then-pupi-ne4 : goal.returns-then-pupi-ne4
returns-then-pupi-ne4 c = let a = c.args in let both = halt_unfit a.x a.pupi.now a.out.now _ c.if-pupi-ne4.true c.refuse.ensures in record { value = both.0; out_after = both.1 }

pub returns : goal.returns
returns c = let a = c.args in let both = halt_fit a.x a.pupi.now _ a.out.now _ _ c.if-pupi-ne4.false c.bytes_at.ensures c.halt.ensures.value c.halt.ensures.out_after in record { value = both.0; out_after = both.1 }
