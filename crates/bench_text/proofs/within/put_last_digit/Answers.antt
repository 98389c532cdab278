-- `bench_text::within::put_last_digit` meets its contract. Assumes nothing.
use mathlib.Core.Path.{refl}
use Rattle.bench_text.proofs.within.put_last_digit.Goals as goal

pub slice_bounds-put-end : goal.slice_bounds-put-end
slice_bounds-put-end c = refl

pub returns : goal.returns
returns c = c.put.ensures
