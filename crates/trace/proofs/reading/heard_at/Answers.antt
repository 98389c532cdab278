use Rattle.std.specs.Prelude.{Ok}
use mathlib.Core.Path.{sym, ap, ◌∙◌}
use native.Mathlib.Omega.{arith}
use Rattle.rows.proofs.RowLaws.{overlay_nil}
use Rattle.air_log.specs.Reading.{row_at}
use Rattle.trace.specs.Reads.{heard_bits}
use Rattle.trace.specs.ReadLaws.{clean_held, collided_held, heard_else, length_row, length_marked}
use Rattle.trace.proofs.reading.heard_at.Goals as goal

pub put_bits-requires : goal.put_bits-requires
put_bits-requires c = let h = clean_held _ _ _ _ _ _ c.shared_slice_known-1.given (sym c.read_at.ensures ∙ c.in-Clean.is) in
    (h.0, omega (arith, h.1))

pub put_marked-requires : goal.put_marked-requires
put_marked-requires c = let h = collided_held _ _ _ _ _ _ c.shared_slice_known-1.given _ (sym c.read_at.ensures ∙ c.in-Collided.is) in
    (h.0.0, h.1.0, omega (arith, h.0.1))

pub returns-in-Clean : goal.returns-in-Clean
returns-in-Clean c =
    let x = c.in-Clean in
    let h = clean_held _ _ _ _ _ _ c.shared_slice_known-1.given (sym c.read_at.ensures ∙ x.is) in
    record {
      value = rw (← c.read_at.ensures, x.is) (ap (λ n. heard_bits n (Ok x.next)) (sym (length_row c.args.log.now x.start x.bits h.0)));
      row_after = rw (← c.read_at.ensures, x.is) c.put_bits.ensures;
    }

pub returns-in-Collided : goal.returns-in-Collided
returns-in-Collided c =
    let x = c.in-Collided in
    let h = collided_held _ _ _ _ _ _ c.shared_slice_known-1.given _ (sym c.read_at.ensures ∙ x.is) in
    record {
      value = rw (← c.read_at.ensures, x.is) (ap (λ n. heard_bits n (Ok x.next)) (sym (length_marked (row_at c.args.log.now x.start x.bits) _ ∙ length_row c.args.log.now x.start x.bits h.0.0)));
      row_after = rw (← c.read_at.ensures, x.is) c.put_marked.ensures;
    }

pub returns-in-Silence : goal.returns-in-Silence
returns-in-Silence c = record { value = rw (← c.read_at.ensures, c.in-Silence.is); row_after = rw (← c.read_at.ensures, c.in-Silence.is) (sym (overlay_nil _ _)) }

pub returns-in-End : goal.returns-in-End
returns-in-End c = record { value = rw (← c.read_at.ensures, c.in-End.is); row_after = rw (← c.read_at.ensures, c.in-End.is) (sym (overlay_nil _ _)) }

pub returns-in-Cut : goal.returns-in-Cut
returns-in-Cut c = record { value = rw (← c.read_at.ensures, c.in-Cut.is); row_after = rw (← c.read_at.ensures, c.in-Cut.is) (sym (overlay_nil _ _)) }

pub returns-in_default : goal.returns-in_default
returns-in_default c = let d = c.in_default in
    let e = heard_else c.args.log.now c.read_at.result d.not-Clean d.not-Collided d.not-Silence d.not-End d.not-Cut in
    record { value = rw (← c.read_at.ensures) e.0; row_after = rw (← c.read_at.ensures, e.1) (sym (overlay_nil _ _)) }
