use mathlib.Core.Path.{◌≡◌, sym, ap, ◌∙◌}
use native.Mathlib.Omega.{arith}
use lib.ListN.{length, take, get_or, length-set}
use lib.Seq.{take_all, length-take-le}
use Rattle.rows.specs.Rows.{overlay}
use Rattle.rows.proofs.RowLaws.{overlay_nil, front_filled}
use Rattle.air_log.specs.Reading.{row_at}
use Rattle.trace_rules.specs.Trace.{marked}
use Rattle.trace.specs.ReadLaws.{row_turn, marked_bit, length_marked, length_row}
use Rattle.trace.proofs.reading.put_marked.Goals as goal

pub loop-i-init : goal.loop-i-init
loop-i-init c = (omega arith, omega arith, sym (overlay_nil _ _))

pub loop-i-preserved : goal.loop-i-preserved
loop-i-preserved c = let l = c.loop-i in
    let a = c.args in
    let long = length-take-le a.n a.out.now (omega arith) in
    let same = length-set l.bit-items l.i c.heard_bit.result in
    let r = marked (row_at a.log.now a.start a.n) (row_at a.log.now a.marks a.n) in
    let k : length r ≡ a.n = length_marked _ _ ∙ length_row a.log.now a.start a.n c.requires.0 in
    let e : c.heard_bit.result ≡ get_or r l.i 0 = c.heard_bit.ensures ∙ rw (c.bit_at-in-loop-i.ensures, c.bit_at.ensures) (sym (marked_bit a.log.now a.start a.marks a.n l.i c.requires.0 c.requires.1 (omega arith))) in
    (omega arith, omega arith, rw l.invariant.2 (row_turn (take a.n a.out.now) r l.i _ e (omega arith) (omega arith)))

pub returns : goal.returns
returns c = let l = c.loop-i in
    let a = c.args in
    let long = length-take-le a.n a.out.now (omega arith) in
    let r = marked (row_at a.log.now a.start a.n) (row_at a.log.now a.marks a.n) in
    let k : length r ≡ a.n = length_marked (row_at a.log.now a.start a.n) (row_at a.log.now a.marks a.n) ∙ length_row a.log.now a.start a.n c.requires.0 in
    front_filled a.out.now r l.bit-items a.n (omega arith) (omega arith) (l.invariant.2 ∙ ap (overlay (take a.n a.out.now) 0) (take_all l.i r (omega arith)))
