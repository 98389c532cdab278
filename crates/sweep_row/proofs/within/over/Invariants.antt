-- `sweep_row::within::over` meets its contract: one loop, whose invariant is that of a turn. Assumes nothing.
use Rattle.std.proofs.Common.{◌≡◌, length}
use Rattle.sweep_row.specs.Under.{Under, measure}
use Rattle.sweep_row.proofs.within.over.Given as goal

abbrev pub invariant-loop-p : goal.invariant-loop-p
invariant-loop-p g l = record {
  under : Under g.H.Hears.remembers l.fn.start l.initial.cards l.fn.log l.fn.list l.p l.cards l.log l.list;
  rows : length l.cards ≡ length l.initial.cards;
}

abbrev pub decreases-loop-p : goal.decreases-loop-p
decreases-loop-p g l = measure l.p
