use mathlib.Core.Path.{◌≡◌, sym, ap, ◌∙◌}
use Prim.Native.Nat.{◌+◌}
use native.Mathlib.Omega.{arith}
use lib.ListN.{length}
use Rattle.frame.specs.Frame.{standard}
use Rattle.frame.proofs.FrameLaws.{length_standard}
use Rattle.selection.specs.Selection.{cut}
use Rattle.selection.specs.RestLaws.{rest_silent, rest_length, rest_level, level_row_law}
use Rattle.selection.specs.Level.{level_says}
use Rattle.selection.specs.Says.{rest_says}
use Rattle.selection.specs.SaysLaws.{with_says}
use borrow.Author.Rules.{rules}
use Rattle.selection.proofs.heard.read_rest.Goals as goal

pub returns-then-row-eq0 : goal.returns-then-row-eq0
returns-then-row-eq0 c = record { value = (with_says rest_says _ _ (c.not_rest.ensures ∙ sym (rest_silent c.args.k c.args.five c.args.row.now c.if-row-eq0.true))).0; result_value = (with_says rest_says _ _ (c.not_rest.ensures ∙ sym (rest_silent c.args.k c.args.five c.args.row.now c.if-row-eq0.true))).1 }

pub returns-then-row-n : goal.returns-then-row-n
returns-then-row-n c = record { value = (with_says rest_says _ _ (c.not_rest-then-row-n.ensures ∙ sym (rest_length c.args.k c.args.five c.args.row.now c.if-row-eq0.false (λ e. c.if-row-n.true (omega (arith, e)))))).0; result_value = (with_says rest_says _ _ (c.not_rest-then-row-n.ensures ∙ sym (rest_length c.args.k c.args.five c.args.row.now c.if-row-eq0.false (λ e. c.if-row-n.true (omega (arith, e)))))).1 }

pub returns : goal.returns
returns c = let k = c.args.k in
    let five = c.args.five in
    let row = c.args.row.now in
    let f : length five ≡ 5 = search rules in
    let e : cut k + length row ≡ 45 = omega arith in
    let n : c.cut-n.result ≡ cut k = omega arith in
    let s : length (standard five) ≡ 45 = rw (length_standard, f) in record {
      value = (with_says rest_says _ _
          (c.level_says.ensures
          ∙ ap (level_says k) (c.put.ensures ∙ rw (c.level_row-w.ensures, n) (level_row_law (standard five) row (cut k) s e))
          ∙ sym (rest_level k five row c.if-row-eq0.false e))).0;
      result_value = (with_says rest_says _ _
          (c.level_says.ensures
          ∙ ap (level_says k) (c.put.ensures ∙ rw (c.level_row-w.ensures, n) (level_row_law (standard five) row (cut k) s e))
          ∙ sym (rest_level k five row c.if-row-eq0.false e))).1;
    }
