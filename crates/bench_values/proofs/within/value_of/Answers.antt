-- `bench_values::within::value_of` meets its contract. Assumes nothing.
use Rattle.bench_values.proofs.within.value_of.Goals as goal

pub returns-in-Hex : goal.returns-in-Hex
returns-in-Hex c = rw c.in-Hex.is c.hex_value.ensures

pub returns-in-Bits : goal.returns-in-Bits
returns-in-Bits c = rw c.in-Bits.is c.bit_value.ensures

pub returns-in-Decimal : goal.returns-in-Decimal
returns-in-Decimal c = rw c.in-Decimal.is c.decimal_value.ensures
