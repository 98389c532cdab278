use mathlib.Core.Path.{sym, ◌∙◌}
use native.Mathlib.Omega.{arith}
use Rattle.crc.specs.CrcLaws.{crc_next, crc_done}
use Rattle.crc.proofs.ByBytes.crc.Goals as goal

pub loop-b-preserved : goal.loop-b-preserved
loop-b-preserved c = let l = c.loop-b in
    (omega arith, rw c.crc_byte-c.ensures (sym (crc_next c.args.bytes.now l.b-index l.c (omega arith)) ∙ l.invariant.1))

pub returns : goal.returns
returns c = let l = c.loop-b in
    sym (crc_done c.args.bytes.now l.b-index l.c (omega arith)) ∙ l.invariant.1
