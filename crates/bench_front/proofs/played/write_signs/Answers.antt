use Rattle.std.proofs.Common.{refl, arith, ◌<◌, replicate, length-set}
use Rattle.std.proofs.lemmas.Str.{IsAscii-take}
use Rattle.std.proofs.lemmas.Str.Ascii.{IsAscii-set, IsAscii-from_all}
use Rattle.std.proofs.lemmas.List.Elements.{All-replicate}
use Rattle.bench_front.proofs.played.write_signs.Goals as goal

pub loop-i-init : goal.loop-i-init
loop-i-init g c = (refl, IsAscii-from_all (replicate 64 0) (All-replicate (λ b. b < 128) 64 0 (omega arith)))

pub loop-i-preserved : goal.loop-i-preserved
loop-i-preserved g c = let l = c.loop-i in (
  simp length-set l.invariant.0,
  IsAscii-set l.signs l.i _ l.invariant.1 c.sign.ensures,
)

pub ascii-requires : goal.ascii-requires
ascii-requires g c = IsAscii-take _ _ c.loop-i.invariant.1
