-- `reader_v::calls::inventory` meets its contract: a good round has a mask that a request can hold. Assumes nothing.
use Rattle.std.proofs.Common.{sym, ◌∙◌}
use Rattle.reader_v.specs.CallLaws.{round_fits}
use Rattle.reader_v.proofs.calls.inventory.Goals as goal

pub send_round-requires : goal.send_round-requires
send_round-requires c = λ g. rw c.round_for-k.ensures (round_fits c.args.slots c.args.len (sym c.is_round-good.ensures ∙ g))
