use Rattle.std.proofs.Common.{◌≡◌, refl, arith, length, length-set, take_all}
use Rattle.bench_text.specs.Text.{hex_digits}
use Rattle.bench_text.specs.TextLaws.{hex_set, hex_ascii}
use Rattle.bench_text.proofs.write_hex.Goals as goal

pub loop-i-init : goal.loop-i-init
unfolding hex_digits
loop-i-init g c = (refl, refl)

pub loop-i-preserved : goal.loop-i-preserved
loop-i-preserved g c = let l = c.loop-i in
    let high = c.hex_char in
    let low = c.hex_char-in-loop-i in (
      simp length-set l.invariant.0,
      hex_set l.text _ l.i high.result low.result l.invariant.1 (omega arith) (omega arith) high.ensures low.ensures,
    )

pub ascii-requires : goal.ascii-requires
ascii-requires g c = let b = c.args.bytes.now in
    let all : c.loop-i.i ≡ length b = omega arith in
    let text = rw (all, take_all (length b) b (omega arith)) at c.loop-i.invariant.1 in
    rw text (hex_ascii b (λ i. omega (arith, c.type_inv.bytes i)))

pub returns : goal.returns
returns g c = let b = c.args.bytes.now in
    let all : c.loop-i.i ≡ length b = omega arith in
    let text = rw (all, take_all (length b) b (omega arith)) at c.loop-i.invariant.1 in
    rw (c.ascii.ensures, text) at c.write_str.ensures.writes
