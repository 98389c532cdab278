use mathlib.Core.Path.{◌≡◌, refl, sym, ap, ◌∙◌}
use native.Mathlib.Omega.{arith}
use Prim.Native.Nat.{◌*◌, ◌-◌}
use lib.ListN.{length}
use Rattle.limits.specs.Limits.{most_cards, most_frames}
use Rattle.reader.specs.Reader.{sends}
use Rattle.trace.specs.Loops.{played}
use Rattle.trace.specs.ReplayLaws.{left, played_full, left_first, left_turn, left_done, plays_says}
use Rattle.trace.proofs.replay.replay.Goals as goal

pub loop-p-init : goal.loop-p-init
loop-p-init c = let a = c.args in
    (omega arith, omega arith, rw c.play-p.ensures (played_full a.stamp a.log.now a.n 0 _ a.cards most_cards c.requires c.well_formed.1.1.0.1.0.1), refl)

pub overflow_add-frames : goal.overflow_add-frames
overflow_add-frames c = let g = plays_says 0 c.args.log.now 0 _ _ (sym c.goes_on.ensures ∙ c.loop-p-test.true) in
    omega (arith, g.0)

pub loop-p-smaller : goal.loop-p-smaller
loop-p-smaller c = let g = plays_says 0 c.args.log.now 0 _ _ (sym c.goes_on.ensures ∙ c.loop-p-test.true) in
    omega (arith, g.0)

pub loop-p-preserved : goal.loop-p-preserved
loop-p-preserved c = let a = c.args in
    let l = c.loop-p in
    let g = plays_says a.stamp a.log.now a.n l.p l.frames (sym c.goes_on.ensures ∙ c.loop-p-test.true) in
    let e = c.play-p-in-loop-p.ensures ∙ ap (λ at. played a.stamp a.log.now at l.p.turn l.p.cards a.n) c.next_place.ensures in
    (omega arith, omega (arith, g.0), rw e (played_full a.stamp a.log.now a.n _ l.p.turn l.p.cards most_cards c.requires l.invariant.2), rw e (sym (left_turn a.stamp a.log.now a.n l.frames l.p (omega arith) l.invariant.0 g.0 g.1 g.2) ∙ l.invariant.3))

pub returns : goal.returns
returns c = let a = c.args in
    let l = c.loop-p in
    let p = c.play-p.ensures ∙ ap (λ t. played a.stamp a.log.now 0 t a.cards a.n) (c.sends-first.ensures ∙ ap sends c.blank.ensures) in
    let full : length a.cards ≡ most_cards = c.well_formed.1.1.0.1.0.1 in
    c.verdict.ensures
    ∙ sym (left_done a.stamp a.log.now a.n (2 * (l.frames - 1)) l.frames l.p (sym c.goes_on.ensures ∙ c.loop-p-test.false))
    ∙ l.invariant.3
    ∙ ap (λ q. left (most_frames - 1) a.stamp a.log.now 0 q a.n) p
    ∙ left_first a.stamp a.log.now a.n a.cards (omega (arith, full))
