-- `air_log::record_in` meets its contract. Assumes nothing.
use Prim.Native.Nat.{◌+◌}
use native.Mathlib.Omega.{arith}
use lib.ListN.{length}
use borrow.Author.Tests.{lt-ltb, le-ltb, le-leb, lt-leb}
use Rattle.air_log.specs.Reading.{record_at}
use Rattle.air_log.proofs.record_in.Goals as goal
use Rattle.air_log.proofs.record_in.Goals.{then-left-lt2-via-then-left-lt2, then-left-lt2-via-else-left-lt2+then-left-stamp}

pub returns-then-log-at : goal.returns-then-log-at
unfolding record_at
returns-then-log-at c = simp (le-leb _ _ c.if-log-at.true)

pub returns-then-left-lt2 : goal.returns-then-left-lt2
unfolding record_at
returns-then-left-lt2 c = let a = c.args in elim c.then-left-lt2.branch [
  | then-left-lt2-via-then-left-lt2 w ↦ rw (lt-leb _ _ c.if-log-at.false, lt-ltb (length a.log.now) (a.at + 2 + a.stamp) (omega (arith, w.if-left-lt2.true)))
  | then-left-lt2-via-else-left-lt2+then-left-stamp w ↦ rw (lt-leb _ _ c.if-log-at.false, lt-ltb (length a.log.now) (a.at + 2 + a.stamp) (omega (arith, w.if-left-stamp.true)))
]

pub returns : goal.returns
unfolding record_at
returns c = let a = c.args in
    rw (lt-leb _ _ c.if-log-at.false, le-ltb (length a.log.now) (a.at + 2 + a.stamp) (omega arith), c.after_header.ensures)
