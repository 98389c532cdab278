use mathlib.Core.Path.{ap}
use Prim.Native.Nat.{◌+◌, ◌-◌, ◌*◌, ◌/◌}
use lib.ListN.{drop}
use native.Mathlib.Omega.{arith}
use Rattle.frame.proofs.WrongLaws.{first_most}
use Rattle.selection.specs.Heard.{rest_place}
use Rattle.selection.proofs.heard.first_wrong.Goals as goal

pub overflow_add-result : goal.overflow_add-result
overflow_add-result c = let a = c.args in
    record { fits = omega (arith, c.first_wrong.ensures, first_most (5 - (a.k + 7) / 8) (drop (9 * ((a.k + 7) / 8)) a.w)) }

pub returns : goal.returns
unfolding rest_place
returns c = ap (λ n. (c.args.k + 7) / 8 + n) c.first_wrong.ensures
