-- `field_b::within::take_all` meets its contract. The loop's invariant: the cards so far have taken the frame, and what is heard of them stands at the row's front. Assumes nothing.
use Rattle.std.proofs.Common.{◌≡◌, length}
use Rattle.field_b.specs.TakeBLaws.{Under}
use Rattle.field_b.proofs.within.take_all.Given as goal

abbrev pub invariant-loop-d : goal.invariant-loop-d
invariant-loop-d l = record {
  size : length l.heard ≡ length l.initial.heard;
  under : Under l.initial.heard l.initial.d-items l.frame l.heard l.d-items l.bits l.d-index;
}
