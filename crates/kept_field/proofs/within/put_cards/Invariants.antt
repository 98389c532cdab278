-- `kept_field::within::put_cards` meets its contract. The loop's invariant: the cards before i are written. Assumes nothing.
use Prim.Native.Nat.{◌≤◌, ◌-◌}
use mathlib.Core.Path.{◌≡◌}
use lib.ListN.{length, take}
use Rattle.rows.specs.Rows.{All}
use Rattle.kept_field.specs.KeptField.{cards_left}
use Rattle.kept_field.specs.FieldLaws.{Whole}
use Rattle.kept_field.proofs.within.put_cards.Given as goal

abbrev pub invariant-loop-i : goal.invariant-loop-i
invariant-loop-i l = (l.i ≤ l.i-end) × (l.i-end ≤ l.n) × (l.i-end ≤ 32) × (length l.cards ≡ 32) × (length l.b ≡ length l.initial.b) × (l.b ≡ cards_left l.initial.b (take l.i l.cards)) × All Whole (take l.i l.cards)

abbrev pub decreases-loop-i : goal.decreases-loop-i
decreases-loop-i l = l.i-end - l.i
