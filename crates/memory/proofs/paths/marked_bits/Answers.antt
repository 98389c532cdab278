-- `memory::paths::marked_bits` meets its contract. Assumes nothing.
use mathlib.Core.Path.{refl, sym, ◌∙◌}
use native.Mathlib.Omega.{arith}
use Rattle.memory.proofs.LearnLaws.{marked_plain, marked_last, marked_none}
use borrow.Author.Rules.{rules}
use Rattle.memory.proofs.paths.marked_bits.Goals as goal
use Rattle.memory.proofs.paths.marked_bits.Goals.{else-is_collided-via-then-is_collided+else-top-gt0, else-is_collided-via-else-is_collided}

pub returns-then-top-gt0 : goal.returns-then-top-gt0
returns-then-top-gt0 c = let p = c.put_level in
    let a = c.args in
    marked_last a.x a.top _ (search rules) p.ensures.five_len (sym c.is_collided.ensures ∙ c.if-is_collided.true) (omega arith) _ p.ensures.out_after refl

pub returns-else-is_collided : goal.returns-else-is_collided
returns-else-is_collided c = let p = c.put_level in
    let a = c.args in
    elim c.else-is_collided.branch [
      | else-is_collided-via-then-is_collided+else-top-gt0 w ↦ marked_none a.x a.top _ p.ensures.five_len (omega arith) p.ensures.out_after
      | else-is_collided-via-else-is_collided w ↦ marked_plain a.x a.top _ (search rules) p.ensures.five_len (sym c.is_collided.ensures ∙ w.if-is_collided.false) p.ensures.out_after
    ]
