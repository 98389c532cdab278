-- What a function of the trace checker gives of a record (T-12). What a record is due for is told in crate trace_rules.
use Rattle.std.specs.Prelude.{List, ℕ, length, Result, Ok, Err}
use Rattle.air_log.specs.declared.Record.{Record}
use Rattle.trace_rules.specs.Trace.{heard_row, heard_passed}
use Rattle.trace.specs.declared.reading.Heard.{Heard}
use Rattle.refusal.specs.declared.Refusal.{Refusal}

-- n bits, and the place behind them where the record is due
abbrev pub heard_bits : ℕ → Result ℕ Refusal → Result Heard Refusal
heard_bits n (Ok at) = Ok (record { bits = n; next = at })
heard_bits n (Err e) = Err e

-- of what was heard, in the log l: how many bits, and the place behind
abbrev pub heard_of : List ℕ → Record → Result Heard Refusal
heard_of l x = heard_bits (length (heard_row l x)) (heard_passed x)
