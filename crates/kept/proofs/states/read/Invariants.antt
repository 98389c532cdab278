-- `kept::states::read` meets its contract. The loop's invariant: the values before i are read. Assumes nothing.
use Rattle.std.specs.Prelude.{◌≡◌, ℕ, ◌≤◌, List, length, min}
use Rattle.kept.specs.StatesLaws.{Filled}
use Rattle.kept.proofs.states.read.Given as goal

abbrev pub invariant-loop-i : goal.invariant-loop-i
invariant-loop-i g l = record {
  few : l.i ≤ min l.n 32;
  size : length l.values ≡ 32;
  filled : (f : ℕ → List ℕ → g.row.T.Denot) → ((i : ℕ) (s : _) (x : _) → goal.F-post g l.value i s x → x ≡ f i s.now) → l.values ≡ Filled f l.fn.none 32 l.i l.b;
}
