-- `kept::within::put_uid` meets its contract: the bytes lent on are the UID's own. Assumes nothing.
use mathlib.Core.Path.{◌≡◌, sym}
use Prim.Native.Nat.{◌≤◌}
use borrow.Author.Rules.{rules}
use native.Mathlib.Omega.{arith}
use lib.ListN.{length}
use lib.Seq.{length-take-le}
use Rattle.uid.specs.Uid.{uid_bytes}
use Rattle.uid.specs.BytesAtLaws.{bytes_most}
use Rattle.kept.proofs.within.put_uid.Goals as goal

pub slice_bounds-put-end : goal.slice_bounds-put-end
slice_bounds-put-end c = let u = c.args.u in
    let e : length u.bytes ≡ 10 = search rules in
    sym (length-take-le _ u.bytes (omega (arith, bytes_most u.size, c.byte_count-n.ensures)))

pub put-requires : goal.put-requires
put-requires c = let a = c.args in
    let e : length a.u.bytes ≡ 10 = search rules in
    let h : 10 ≤ length a.out.now = search rules in
    let n = c.byte_count-n in
    omega (arith, bytes_most a.u.size, n.ensures, length-take-le n.result a.u.bytes (omega (arith, bytes_most a.u.size, n.ensures)))

pub returns : goal.returns
unfolding uid_bytes
returns c = let n = c.byte_count-n.ensures in record { value = n; out_after = rw (← n) c.put.ensures }
