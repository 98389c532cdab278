-- `memory::level::enters` meets its contract. Assumes nothing.
use Prim.Native.Nat.{◌*◌}
use mathlib.Core.Path.{ap, ◌∙◌}
use native.Mathlib.Omega.{arith}
use Rattle.reader.specs.StepLaws.{place_most}
use Rattle.frame.specs.Frame.{bytes_of}
use Rattle.memory.specs.Stored.{path_of}
use Rattle.memory.specs.EnterLaws.{level_clean, made_enters}
use Rattle.memory.proofs.level.enters.Goals as goal

pub overflow_mul-at : goal.overflow_mul-at
overflow_mul-at c = omega (arith, c.place-at.ensures, place_most c.args.l)

pub five_bytes-requires : goal.five_bytes-requires
five_bytes-requires c = rw c.level_bits.ensures.value (level_clean (path_of c.args.t.path) (40 * c.place-at.result))

pub returns : goal.returns
returns c = let a = c.args in
    c.sends.ensures
    ∙ made_enters a.l a.r a.t.path (40 * c.place-at.result) c.level_known-m.result c.five_bytes.result c.first_phase.result c.level_bits.ensures.row_len a.t.kept.fits (omega (arith, c.place-at.ensures)) c.level_known-m.ensures
    (c.five_bytes.ensures ∙ ap (bytes_of 5) c.level_bits.ensures.value) c.first_phase.ensures
