-- `tag::within::room_for` meets its contract: the larger of the two. Assumes nothing.
use Prim.Native.Nat.{◌+◌}
use Rattle.tag.specs.CallLaws.{small_room}
use borrow.Author.Rules.{rules}
use native.Mathlib.Omega.{arith}
use Rattle.tag.proofs.within.room_for.Goals as goal

pub overflow_mul-n : goal.overflow_mul-n
overflow_mul-n c = record { fits = omega (arith, small_room c.args.t.blocks (c.args.t.size + 1) (search rules) (search rules)) }

pub overflow_add-n-2 : goal.overflow_add-n-2
overflow_add-n-2 c = record { fits = omega (arith, small_room c.args.t.blocks (c.args.t.size + 1) (search rules) (search rules)) }

pub overflow_mul-n-2 : goal.overflow_mul-n-2
overflow_mul-n-2 c = record { fits = omega (arith, small_room c.args.t.blocks (c.args.t.size + 1) (search rules) (search rules)) }
