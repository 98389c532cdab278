-- `selection_b::sent::atqb_bytes` meets its contract: the parts are written one behind the other. Assumes nothing.
use Rattle.std.proofs.Common.{◌≡◌, length, rules}
use Rattle.selection_b.specs.TypeB.{atqb_bytes}
use Rattle.selection_b.proofs.SentBLaws.{joined_three}
use Rattle.selection_b.proofs.sent.atqb_bytes.Goals as goal

pub returns : goal.returns
unfolding atqb_bytes
returns c = let a = c.args in
    let n : length a.pupi ≡ 4 = search rules in
    let m : length a.application ≡ 4 = search rules in
    let k : length a.protocol ≡ 3 = search rules in
    joined_three 0x50 a.pupi n a.application m a.protocol k _ _ _ c.put.ensures c.put-2.ensures c.put-3.ensures
