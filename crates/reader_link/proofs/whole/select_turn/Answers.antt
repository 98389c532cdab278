use mathlib.Core.Path.{refl}
use Rattle.reader_link.specs.ReaderCalls.{selecting}
use Rattle.reader_link.proofs.whole.select_turn.Goals as goal

pub returns : goal.returns
unfolding selecting
returns c = record { value = refl; out_after = c.put_sent.ensures }
