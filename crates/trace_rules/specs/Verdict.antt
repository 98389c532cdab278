-- What a check says, by the library's words.
use Rattle.std.specs.Prelude.{ℕ, Result, Err}
use Rattle.refusal.specs.declared.Refusal.{Refusal}
use Rattle.trace_rules.specs.declared.Fault.{Fault}
use Rattle.trace_rules.specs.declared.Differs.{Differs}

-- Ok of a clean log, else the fault
abbrev pub Verdict : Type 0
Verdict = Result Unit Fault

-- the record i is at fault
abbrev pub fault : ℕ → Refusal → Verdict
fault i e = Err (record { index = i; refusal = e })

-- the place behind two records that are both as they should be, or which of them is not
abbrev pub Compared : Type 0
Compared = Result ℕ Differs
