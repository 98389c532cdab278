-- `memory::paths::learns` meets its contract. Assumes nothing.
use Prim.Native.Nat.{◌+◌, ◌*◌}
use native.Mathlib.Omega.{arith}
use lib.ListN.{length-take, length-drop}
use Rattle.reader.specs.StepLaws.{place_most}
use Rattle.memory.proofs.LearnLaws.{made_learns}
use Rattle.memory.proofs.paths.learns.Goals as goal

pub overflow_mul-n : goal.overflow_mul-n
overflow_mul-n c = omega (arith, c.place.ensures, place_most c.args.l)

pub overflow_add-n : goal.overflow_add-n
overflow_add-n c = omega (arith, c.place.ensures, place_most c.args.l)

pub joined-requires : goal.joined-requires
joined-requires c = let a = c.args in
    rw (length-take, length-drop) (omega (arith, a.t.kept.fits, c.marked_bits-d.ensures.long, c.place.ensures, place_most a.l, c.min-top.ensures, c.min.ensures))

pub returns : goal.returns
returns c = let a = c.args in
    made_learns a.l a.r a.x a.t.path _ (40 * c.place.result + a.r.known) c.min-top.result c.marked_bits-d.result (omega (arith, c.place.ensures)) c.min-top.ensures
    c.marked_bits-d.ensures c.min.result c.min.ensures c.joined.ensures
