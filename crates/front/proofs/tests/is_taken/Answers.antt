-- `front::tests::is_taken` meets its contract: the definition has the same tests. Assumes nothing.
use mathlib.Core.Path.{◌≡◌, refl, ◌∙◌}
use mathlib.Core.Bool.{Bool, true, false, ◌&&◌}
use Prim.Native.Nat.{◌%◌}
use lib.Dec.{eqb}
use lib.ListN.{length}
use borrow.Author.Tests.{eq-eqb, ne_eqb}
use Rattle.front.specs.Front.{energy, energies, gate_taken, taken_at}
use Rattle.front.proofs.tests.is_taken.Goals as goal
use Rattle.front.proofs.tests.is_taken.Goals.{then-halves-eq0, else-halves-eq0, then-are_energies, else-are_energies, then-is_energy, else-is_energy}

-- what a test and then another one come to
and_then : (v a b : Bool) → a ≡ true → v ≡ b → v ≡ (a && b)
and_then v a b e f = rw e f

and_else : (v a b : Bool) → a ≡ false → v ≡ a → v ≡ (a && b)
and_else v a b e f = rw e (f ∙ e)

all_tests : (v w x a b d e g : Bool) → v ≡ (a && b) → w ≡ (v && d) → x ≡ (w && e) → (x && g) ≡ ((((a && b) && d) && e) && g)
all_tests v w x a b d e g p q r = rw (r, q, p)

pub returns-then-is_energy-2 : goal.returns-then-is_energy-2
unfolding taken_at
returns-then-is_energy-2 c = let p = c.args.profile in
    let h = c.args.halves.now in
    let first : c.if-halves-eq0.value ≡ (eqb (length h % 2) 0 && energies h) = elim c.if-halves-eq0.branch [
      | then-halves-eq0 w ↦ and_then _ _ _ (eq-eqb _ _ w.if-halves-eq0.true) (w.value-is ∙ w.are_energies.ensures)
      | else-halves-eq0 w ↦ and_else _ _ _ (ne_eqb _ _ w.if-halves-eq0.false) w.value-is
    ] in
    let second : c.if-are_energies.value ≡ (c.if-halves-eq0.value && energy p.floor) = elim c.if-are_energies.branch [
      | then-are_energies w ↦ and_then _ _ _ w.if-are_energies.true (w.value-is ∙ w.is_energy.ensures)
      | else-are_energies w ↦ and_else _ _ _ w.if-are_energies.false w.value-is
    ] in
    let third : c.if-is_energy.value ≡ (c.if-are_energies.value && energy p.peak) = elim c.if-is_energy.branch [
      | then-is_energy w ↦ and_then _ _ _ w.if-is_energy.true (w.value-is ∙ w.is_energy-then-is_energy.ensures)
      | else-is_energy w ↦ and_else _ _ _ w.if-is_energy.false w.value-is
    ] in
    c.is_gate.ensures ∙ and_then (gate_taken p.gate c.args.level) c.if-is_energy.value (gate_taken p.gate c.args.level) c.if-is_energy-2.true refl ∙ all_tests c.if-halves-eq0.value c.if-are_energies.value c.if-is_energy.value (eqb (length h % 2) 0) (energies h) (energy p.floor) (energy p.peak) (gate_taken p.gate c.args.level) first second third

pub returns-else-is_energy-2 : goal.returns-else-is_energy-2
unfolding taken_at
returns-else-is_energy-2 c = let p = c.args.profile in
    let h = c.args.halves.now in
    let first : c.if-halves-eq0.value ≡ (eqb (length h % 2) 0 && energies h) = elim c.if-halves-eq0.branch [
      | then-halves-eq0 w ↦ and_then _ _ _ (eq-eqb _ _ w.if-halves-eq0.true) (w.value-is ∙ w.are_energies.ensures)
      | else-halves-eq0 w ↦ and_else _ _ _ (ne_eqb _ _ w.if-halves-eq0.false) w.value-is
    ] in
    let second : c.if-are_energies.value ≡ (c.if-halves-eq0.value && energy p.floor) = elim c.if-are_energies.branch [
      | then-are_energies w ↦ and_then _ _ _ w.if-are_energies.true (w.value-is ∙ w.is_energy.ensures)
      | else-are_energies w ↦ and_else _ _ _ w.if-are_energies.false w.value-is
    ] in
    let third : c.if-is_energy.value ≡ (c.if-are_energies.value && energy p.peak) = elim c.if-is_energy.branch [
      | then-is_energy w ↦ and_then _ _ _ w.if-is_energy.true (w.value-is ∙ w.is_energy-then-is_energy.ensures)
      | else-is_energy w ↦ and_else _ _ _ w.if-is_energy.false w.value-is
    ] in
    and_else c.if-is_energy.value c.if-is_energy.value (gate_taken p.gate c.args.level) c.if-is_energy-2.false refl ∙ all_tests c.if-halves-eq0.value c.if-are_energies.value c.if-is_energy.value (eqb (length h % 2) 0) (energies h) (energy p.floor) (energy p.peak) (gate_taken p.gate c.args.level) first second third
