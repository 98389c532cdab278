use native.Mathlib.Omega.{arith}
use Rattle.sweep_row.proofs.begin.empty.Goals as goal

pub run-p-requires : goal.run-p-requires
run-p-requires g c = let p = c.requires in
    (omega arith, p.0, p.1)
