use mathlib.Core.Path.{◌≡◌, refl, sym, ◌∙◌}
use mathlib.Core.Bool.{true, false, true≢false}
use borrow.Author.Tests.{lt-ltb, le-ltb}
use Rattle.std.specs.Prelude.{Ok, Err}
use Rattle.std.specs.Result.{is_ok}
use Rattle.trace_rules.specs.Verdict.{Compared}
use Rattle.trace_rules.specs.declared.Differs.TheVariants.{First, Second}
use Rattle.trace.specs.Loops.{is_same, plays_on}
use Rattle.trace.proofs.replay.goes_on.Goals as goal
use Rattle.trace.proofs.replay.goes_on.Goals.{then-frames-lt-MOST_FRAMES, else-frames-lt-MOST_FRAMES}

same_ok : (x : Compared) → is_same x ≡ is_ok x
same_ok (Ok at) = refl
same_ok (Err First) = refl
same_ok (Err Second) = refl

pub returns-then-is_ok : goal.returns-then-is_ok
unfolding plays_on
returns-then-is_ok c = let p = c.args.p in
    elim c.if-frames-lt-MOST_FRAMES.branch [
      | then-frames-lt-MOST_FRAMES w ↦
          let s : is_same p.compared ≡ true = same_ok p.compared ∙ sym w.is_ok.ensures.value ∙ sym w.value-is ∙ c.if-is_ok.true in
          rw (lt-ltb _ _ w.if-frames-lt-MOST_FRAMES.true, s) c.goes.ensures
      | else-frames-lt-MOST_FRAMES w ↦ absurd (true≢false (sym c.if-is_ok.true ∙ w.value-is ∙ le-ltb _ _ w.if-frames-lt-MOST_FRAMES.false))
    ]

pub returns-else-is_ok : goal.returns-else-is_ok
unfolding plays_on
returns-else-is_ok c = let p = c.args.p in
    let no = c.if-is_ok.false in
    elim c.if-frames-lt-MOST_FRAMES.branch [
      | then-frames-lt-MOST_FRAMES w ↦
          let s : is_same p.compared ≡ false = same_ok p.compared ∙ sym w.is_ok.ensures.value ∙ sym w.value-is ∙ no in
          rw (lt-ltb _ _ w.if-frames-lt-MOST_FRAMES.true, s) no
      | else-frames-lt-MOST_FRAMES w ↦ rw (le-ltb _ _ w.if-frames-lt-MOST_FRAMES.false) no
    ]
