use lib.ListN.{length-take}
use Rattle.rows.specs.Rows.{same}
use Rattle.air_log.specs.Reading.{row_at}
use Rattle.sweep_steps.specs.ExchangeLaws.{front_of_law}
use Rattle.trace.specs.ReadLaws.{length_row}
use mathlib.Core.Path.{◌∙◌, sym, ap}
use native.Mathlib.Omega.{arith}
use Rattle.trace.proofs.reading.holds.Goals as goal

pub slice_bounds-is_same-end : goal.slice_bounds-is_same-end
slice_bounds-is_same-end c = rw length-take (omega arith)

pub returns : goal.returns
returns c = let a = c.args in
    let p = c.put_bits in
    let u = front_of_law _ (row_at a.log.now a.start a.n) a.n _ (sym (length_row a.log.now a.start a.n c.requires.0)) p.ensures in
    c.is_same.ensures ∙ ap (λ s. same s a.row.now) u.bits
