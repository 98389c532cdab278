-- `card::ready::remains` meets its contract, by those of `place` and `level_count`. Assumes nothing.
use Rattle.card.proofs.ReadyLaws.{remain_is}
use Rattle.card.proofs.ready.remains.Goals as goal

pub returns : goal.returns
returns c = remain_is c.args.c c.args.l _ _ c.place.ensures c.level_count.ensures
