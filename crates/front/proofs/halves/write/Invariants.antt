-- `front::halves::write` meets its contract. The loop's invariant: the row of the halves that are left, written behind the bits that are written,
-- leaves what the whole row written at the front leaves. Assumes nothing.
use Rattle.std.proofs.Common.{◌≡◌, ◌+◌, ◌*◌, length}
use Rattle.rows.specs.Rows.{overlay}
use Rattle.front.specs.Front.{row_at}
use Rattle.front.proofs.halves.write.Given as goal

abbrev pub invariant-loop-i : goal.invariant-loop-i
invariant-loop-i l =
    let left = l.i-iterator.iter.rest.now in
    let n = l.i-iterator.count in
    record {
      pairs : l.i-iterator.iter.size ≡ 2;
      taken : 2 * n + length left ≡ length l.halves;
      room : length l.places ≡ length l.initial.places;
      count : n + length (row_at l.level l.floor left) ≡ length (row_at l.level l.floor l.halves);
      written : overlay l.places n (row_at l.level l.floor left) ≡ overlay l.initial.places 0 (row_at l.level l.floor l.halves);
    }
