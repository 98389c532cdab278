-- `bench_text::within::put_byte` meets its contract. Assumes nothing.
use mathlib.Core.Path.{refl}
use native.Mathlib.Omega.{arith}
use Rattle.bench_text.proofs.within.put_byte.Goals as goal

pub hex_char-requires : goal.hex_char-requires
hex_char-requires c = omega (arith, c.ranges.b)

pub slice_bounds-put-end : goal.slice_bounds-put-end
slice_bounds-put-end c = refl

pub returns : goal.returns
returns c = rw (c.hex_char.ensures, c.hex_char-2.ensures) at c.put.ensures
