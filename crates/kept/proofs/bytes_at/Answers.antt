use mathlib.Core.Path.{refl}
use Rattle.kept.proofs.ByteLaws.{bytes_put}
use Rattle.kept.proofs.bytes_at.Goals as goal

pub returns : goal.returns
returns g c = rw (c.put.ensures, c.min-2.ensures) (bytes_put g.row.N c.args.p c.min.result c.args.b.now _ c.min.ensures refl)
