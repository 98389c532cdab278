-- `air_log::entry` meets its contract: the length, and then the UID's own bytes over ten zeros. Assumes nothing.
use borrow.Author.Rules.{rules}
use native.Mathlib.Omega.{arith}
use Rattle.uid.specs.BytesAtLaws.{bytes_most}
use Rattle.air_log.specs.EntryLaws.{entry_made}
use Rattle.air_log.proofs.entry.Goals as goal

pub returns : goal.returns
returns c = let u = c.args.u in
    let n = c.byte_count-n in
    entry_made u n.result _ (search rules) (omega (arith, bytes_most u.size, n.ensures)) n.ensures c.put.ensures
