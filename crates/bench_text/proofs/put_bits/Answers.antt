use mathlib.Core.Path.{refl, ◌∙◌}
use native.Mathlib.Omega.{arith}
use lib.ListN.{take}
use lib.Seq.{take_all}
use Rattle.bench_text.specs.Text.{bits_text}
use Rattle.bench_text.specs.TextLaws.{wrote_nil, wrote_more, bits_next}
use Rattle.bench_text.proofs.put_bits.Goals as goal

pub loop-bit-init : goal.loop-bit-init
unfolding bits_text
loop-bit-init c = (refl, wrote_nil _ _)

pub loop-bit-preserved : goal.loop-bit-preserved
loop-bit-preserved c = let p = c.put-p in
    let l = c.loop-bit in
    let a = c.args in
    let o = a.out.now in
    let r = a.row.now in
    let e = rw c.bit_char.ensures at p.ensures in
    (p.auto.out ∙ l.invariant.0, wrote_more o a.at (bits_text (take l.bit-index r)) l.p l.out _ p.result p.new.out _ l.invariant.1 e (bits_next r l.bit-index (omega arith)))

pub returns : goal.returns
returns c = let l = c.loop-bit in
    let a = c.args in
    rw (take_all l.bit-index a.row.now (omega arith)) at l.invariant.1
