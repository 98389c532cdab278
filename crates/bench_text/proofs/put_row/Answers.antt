-- `bench_text::put_row` meets its contract. Assumes nothing.
use native.Mathlib.Omega.{arith}
use Rattle.std.proofs.lemmas.Grind.{common_steps}
use Rattle.bench_text.specs.TextLaws.{row_some, row_none}
use Rattle.bench_text.proofs.put_row.Goals as goal

pub returns-then-is_empty : goal.returns-then-is_empty
returns-then-is_empty c = let a = c.args in
    rw (row_none a.row.now (grind (arith, common_steps))) c.put.ensures

pub returns : goal.returns
returns c = let a = c.args in
    rw (row_some a.row.now (λ z. grind (arith, common_steps))) c.put_bits.ensures
