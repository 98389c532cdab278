use Rattle.std.proofs.Common.{◌≡◌, refl, arith, length, length-set, take_all}
use Rattle.bench_text.specs.Text.{bits_text}
use Rattle.bench_text.specs.TextLaws.{bits_set, bits_ascii}
use Rattle.bench_text.proofs.write_bits.Goals as goal

pub loop-i-init : goal.loop-i-init
unfolding bits_text
loop-i-init g c = (refl, refl)

pub loop-i-preserved : goal.loop-i-preserved
loop-i-preserved g c = let l = c.loop-i in (
  simp length-set l.invariant.0,
  bits_set l.text _ l.i c.bit_char.result l.invariant.1 (omega arith) (omega arith) c.bit_char.ensures,
)

pub ascii-requires : goal.ascii-requires
ascii-requires g c = let r = c.args.row.now in
    let all : c.loop-i.i ≡ length r = omega arith in
    let text = rw (all, take_all (length r) r (omega arith)) at c.loop-i.invariant.1 in
    rw text (bits_ascii r)

pub returns : goal.returns
returns g c = let r = c.args.row.now in
    let all : c.loop-i.i ≡ length r = omega arith in
    let text = rw (all, take_all (length r) r (omega arith)) at c.loop-i.invariant.1 in
    rw (c.ascii.ensures, text) at c.write_str.ensures.writes
