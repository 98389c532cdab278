use Prim.Native.Nat.{◌+◌, ◌*◌}
use mathlib.Core.Path.{◌≡◌, sym}
use native.Mathlib.Nat.{sub-zero, zero-add}
use native.Mathlib.Omega.{arith}
use lib.ListN.{length, take, drop, set, length-set}
use lib.Seq.{length-take-le}
use Rattle.std.proofs.lemmas.List.{set-get_or}
use Rattle.rows.proofs.RowLaws.{overlay_nil, front_filled}
use Rattle.rows.specs.HeardLaws.{clean_take, clean_drop}
use Rattle.frame.specs.Frame.{data_of, bytes_of, first_wrong}
use Rattle.frame.specs.ByteLaws.{length_bytes}
use Rattle.frame.proofs.LoopLaws.{first_next, first_here, first_done, wrong_here, right_here, bytes_turn}
use Rattle.frame.proofs.within.sound_bytes.Goals as goal

pub loop-k-init : goal.loop-k-init
unfolding bytes_of
loop-k-init c = (omega arith, omega arith, rw (sub-zero, zero-add), sym (overlay_nil _ _))

pub byte_at-b-requires : goal.byte_at-b-requires
byte_at-b-requires c = let long = length-take-le c.args.n c.args.out.now (omega arith) in
    (omega arith, clean_take 8 _ (clean_drop (9 * c.loop-k.k) c.args.row.now c.requires.2))

pub returns-then-row-k : goal.returns-then-row-k
returns-then-row-k c = let l = c.loop-k in
    let a = c.args in
    let long = length-take-le a.n a.out.now (omega arith) in
    let w = wrong_here a.row.now l.k _ _ (omega arith) c.requires.2 c.byte_at-b.ensures c.odd_parity.ensures c.if-row-k.true in
    let v : l.k ≡ first_wrong a.n a.row.now = omega (arith, first_here a.n l.k (drop (0 + 9 * l.k) a.row.now) (omega arith) w, l.invariant.2) in
    record {
      value = v;
      out_after = rw (set-get_or l.byte-items l.k 0) (front_filled a.out.now (bytes_of l.k (data_of l.k a.row.now)) l.byte-items a.n (omega arith) (omega (arith, length_bytes l.k (data_of l.k a.row.now))) l.invariant.3);
    }

pub loop-k-preserved : goal.loop-k-preserved
loop-k-preserved c = let l = c.loop-k in
    let a = c.args in
    let long = length-take-le a.n a.out.now (omega arith) in
    let s : length (set l.byte-items l.k c.byte_at-b.result) ≡ length l.byte-items = length-set l.byte-items l.k c.byte_at-b.result in
    let w = right_here a.row.now l.k _ _ (omega arith) c.requires.2 c.byte_at-b.ensures c.odd_parity.ensures c.if-row-k.false in (
      omega arith,
      omega arith,
      omega (arith, first_next a.n l.k a.row.now 0 (omega arith) w, l.invariant.2),
      rw (l.invariant.3, c.byte_at-b.ensures) (bytes_turn (take a.n a.out.now) a.row.now l.k (omega arith) (omega arith)),
    )

pub returns : goal.returns
returns c = let l = c.loop-k in
    let a = c.args in
    let long = length-take-le a.n a.out.now (omega arith) in
    let e : l.k ≡ a.n = omega arith in
    record {
      value = omega (arith, first_done a.n l.k (drop (0 + 9 * l.k) a.row.now) (omega arith), l.invariant.2);
      out_after = front_filled a.out.now (bytes_of a.n (data_of a.n a.row.now)) l.byte-items a.n (omega arith) (omega (arith, length_bytes a.n (data_of a.n a.row.now))) (rw e at l.invariant.3);
    }
