-- `block::within::put_block` meets its contract: bytes, and behind them their CRC_A. Assumes nothing.
use mathlib.Core.Path.{◌≡◌, sym}
use native.Mathlib.Omega.{arith}
use lib.ListN.{length, take}
use Rattle.block.specs.AirLaws.{row_put_none, count_is, row_put}
use borrow.Author.Rules.{rules}
use Rattle.block.proofs.within.put_block.Goals as goal

pub returns-then-n-eq0 : goal.returns-then-n-eq0
returns-then-n-eq0 c = let e = row_put_none c.args.b.count c.args.b.bytes c.args.out.now c.if-n-eq0.true in record { value = e.0; out_after = e.1 }

pub returns : goal.returns
returns c = let a = c.args in
    let l : length a.b.bytes ≡ 256 = search rules in
    let e = row_put (take a.b.count a.b.bytes) _ a.out.now _ _ a.b.count (omega (arith, c.if-n-eq0.false)) c.requires.0 c.requires.1 (sym (count_is a.b.count a.b.bytes c.requires.0 l)) c.crc_bytes.ensures c.put_bytes.ensures c.put_bytes-2.ensures in
    record { value = e.0; out_after = e.1 }
