-- Frames for C: what a call of crate frame gives and leaves, by what its answer says.
use Rattle.std.specs.Prelude.{ℕ, cond, List, get_or, eqb}
use Rattle.refusal.specs.Refusal.{Said}
use Rattle.rows.specs.Rows.{overlay}
use Rattle.lacrivosum.specs.Library.{coded}

-- an answer to C: its value, or minus the refusal's number
abbrev pub said_number : Said → ℕ
said_number s = coded s.number (get_or s.values 0 0)

-- the lent row d afterwards: the row w at its front, or unchanged where the answer is a refusal
abbrev pub said_left : Said → List ℕ → List ℕ → List ℕ
said_left s w d = cond (eqb s.number 0) (overlay d 0 w) d
