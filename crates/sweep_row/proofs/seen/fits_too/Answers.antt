-- `sweep_row::seen::fits_too` meets its contract. Assumes nothing.
use mathlib.Core.Path.{◌≡◌, sym, ◌∙◌}
use mathlib.Core.Bool.{true, false, true≢false, false≢true}
use Prim.Native.Nat.{◌+◌, ◌-◌}
use lib.ListN.{take, drop}
use Rattle.sweep_rules.specs.Terms.{card_fits}
use Rattle.std.proofs.lemmas.Slice.{between_is}
use Rattle.sweep_row.specs.Row.{seen_with}
use Rattle.sweep_row.proofs.seen.fits_too.Goals as goal
use Rattle.sweep_row.proofs.seen.fits_too.Goals.{then-s, else-s}

pub returns-then-card_fits : goal.returns-then-card_fits
unfolding seen_with
returns-then-card_fits c = let a = c.args in
    elim c.if-s.branch [
      | then-s w ↦
          let t = sym w.value-is ∙ c.if-card_fits.true in
          let f : card_fits a.c ≡ true = sym w.card_fits.ensures.value ∙ t in
          let e : drop (a.at + 1) (take a.n a.s.uids) ≡ take (a.n - (a.at + 1)) (drop (a.at + 1) a.s.uids) = sym (between_is a.s.uids (a.at + 1) a.n) in
          record {
            value = rw (w.if-s.true, f, e) c.is_alone.ensures;
            typed = λ e. w.card_fits.ensures.typed t;
          }
      | else-s w ↦ absurd (true≢false (sym c.if-card_fits.true ∙ w.value-is ∙ w.if-s.false))
    ]

pub returns-else-card_fits : goal.returns-else-card_fits
unfolding seen_with
returns-else-card_fits c = let a = c.args in
    let no = c.if-card_fits.false in
    elim c.if-s.branch [
      | then-s w ↦
          let f : card_fits a.c ≡ false = sym w.card_fits.ensures.value ∙ sym w.value-is ∙ no in
          record { value = rw (w.if-s.true, f) no; typed = λ e. absurd (false≢true (sym no ∙ e)) }
      | else-s w ↦ record { value = rw w.if-s.false no; typed = λ e. absurd (false≢true (sym no ∙ e)) }
    ]
