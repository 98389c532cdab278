-- `bench_text::put_decimal` meets its contract. The measure is the number: each call has one digit less. Assumes nothing.
use Rattle.bench_text.proofs.+put_decimal.Given as goal

abbrev pub decreases-put_decimal : goal.decreases-put_decimal
decreases-put_decimal l = l.n
