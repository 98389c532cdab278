use Rattle.kept.proofs.ByteLaws.{number_le}
use Rattle.kept.proofs.number_at.Goals as goal

pub returns : goal.returns
returns c = rw (c.from_le_bytes.ensures, c.bytes_at.ensures, c.from.ensures) (number_le c.args.b.now c.args.p)
