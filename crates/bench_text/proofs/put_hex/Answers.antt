use mathlib.Core.Path.{refl, ◌∙◌}
use native.Mathlib.Omega.{arith}
use Rattle.std.proofs.lemmas.Grind.{common_steps}
use lib.ListN.{take}
use lib.Seq.{take_all}
use Rattle.bench_text.specs.Text.{hex_digits}
use Rattle.bench_text.specs.TextLaws.{wrote_nil, wrote_more, hex_next, hex_some, hex_none}
use Rattle.bench_text.proofs.put_hex.Goals as goal

pub returns-then-is_empty : goal.returns-then-is_empty
returns-then-is_empty c = let a = c.args in
    rw (hex_none a.bytes.now (grind (arith, common_steps))) c.put.ensures

pub loop-byte-init : goal.loop-byte-init
unfolding hex_digits
loop-byte-init c = (refl, wrote_nil _ _)

pub loop-byte-preserved : goal.loop-byte-preserved
loop-byte-preserved c = let p = c.put_byte-p in
    let l = c.loop-byte in
    let a = c.args in
    let o = a.out.now in
    let r = a.bytes.now in
    (p.auto.out ∙ l.invariant.0, wrote_more o a.at (hex_digits (take l.byte-index r)) l.p l.out _ p.result p.new.out _ l.invariant.1 p.ensures (hex_next r l.byte-index (omega arith)))

pub returns : goal.returns
returns c = let l = c.loop-byte in
    let a = c.args in
    rw (hex_some a.bytes.now (λ z. grind (arith, common_steps))) (rw (take_all l.byte-index a.bytes.now (omega arith)) at l.invariant.1)
