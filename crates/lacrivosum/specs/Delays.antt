-- The judge of delay for C: the difference, which may be below zero, or one number that no difference is (law `told_apart`).
use Rattle.std.specs.Prelude.{cond, eqb, ℤ, negsuc}
use Rattle.delay.specs.Calls.{OffSaid}

-- minus 2^63
abbrev pub no_delay : ℤ
no_delay = negsuc 9223372036854775807

abbrev pub delay_number : OffSaid → ℤ
delay_number s = cond (eqb s.number 0) s.off no_delay
