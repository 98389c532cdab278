use Rattle.std.proofs.Common.{List, ℕ, ◌++◌, ap, ◌∙◌, arith, rules, append_assoc, append-nil}
use Rattle.std.proofs.Output.{has_written_append}
use Rattle.std.proofs.lemmas.Grind.{common_steps}
use Rattle.std.proofs.lemmas.List.{nil_from_length}
use Rattle.bench_text.specs.Text.{bits_text}
use Rattle.bench_text.specs.TextLaws.{row_none, row_some, bits_piece}
use Rattle.bench_text.proofs.RowDisplay.fmt.Goals as goal

pub returns-then-is_empty-clause-writes : goal.returns-then-is_empty-clause-writes
returns-then-is_empty-clause-writes g c =
    rw (row_none c.args.self.now.0.now (grind (arith, common_steps))) c.write_str.ensures.writes

pub loop-piece-preserved : goal.loop-piece-preserved
loop-piece-preserved g c =
    let steps = c.in-Some.ensures.steps in
    let piece = c.in-Some.piece.now in (
      search rules,
      tt,
      steps.0 ∙ c.loop-piece.invariant.2,
      λ plain.
          let done = c.loop-piece.invariant.3 plain in (
            done.0 ++ bits_text piece,
            has_written_append _ _ _ _ _ _ done.1 (search rules),
            append_assoc done.0 (bits_text piece) _
                ∙ ap (λ (t : List ℕ). done.0 ++ t) (bits_piece _ piece _ steps.1.0) ∙ done.2,
          ),
    )

pub returns-clause-writes : goal.returns-clause-writes
unfolding bits_text
returns-clause-writes g c = λ plain _.
    let all = c.args.self.now.0.now in
    let done = c.loop-piece.invariant.3 plain in
    let none = nil_from_length _ c.in-None.ensures.steps.1.0 in
    rw (row_some all (λ z. grind (arith, common_steps)), ← (rw (none, append-nil) at done.2)) done.1
