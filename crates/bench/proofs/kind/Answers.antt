-- `bench::kind` meets its contract. Assumes nothing.
use Rattle.std.specs.Prelude.{List, ℕ, eqb}
use lib.ListN.{length}
use mathlib.Core.Path.{sym, ap, ◌∙◌}
use borrow.Author.Tests.{lt-ltb, le-ltb, eq-eqb, ne_eqb}
use Rattle.bench.specs.Words.{kind_of}
use Rattle.bench.proofs.kind.Goals as goal

pub returns-then-overlong : goal.returns-then-overlong
unfolding kind_of
returns-then-overlong c = rw c.if-overlong.true

pub returns-then-text-gt16384 : goal.returns-then-text-gt16384
unfolding kind_of
returns-then-text-gt16384 c = simp (c.if-overlong.false, lt-ltb _ _ c.if-text-gt16384.true)

pub returns-then-first-eq35 : goal.returns-then-first-eq35
unfolding kind_of
returns-then-first-eq35 c = simp (c.if-overlong.false, le-ltb _ _ c.if-text-gt16384.false, eq-eqb _ _ (sym c.first.ensures ∙ c.if-first-eq35.true))

pub returns-then-is_empty : goal.returns-then-is_empty
unfolding kind_of
returns-then-is_empty c = let n = ne_eqb _ _ (λ e. c.if-first-eq35.false (c.first.ensures ∙ e)) in
    simp (c.if-overlong.false, le-ltb _ _ c.if-text-gt16384.false, n, ap (λ (w : List ℕ). eqb (length w) 0) (sym c.word.ensures) ∙ sym c.is_empty.ensures ∙ c.if-is_empty.true)

pub returns-else-is_empty : goal.returns-else-is_empty
unfolding kind_of
returns-else-is_empty c = let n = ne_eqb _ _ (λ e. c.if-first-eq35.false (c.first.ensures ∙ e)) in
    simp (c.if-overlong.false, le-ltb _ _ c.if-text-gt16384.false, n, ap (λ (w : List ℕ). eqb (length w) 0) (sym c.word.ensures) ∙ sym c.is_empty.ensures ∙ c.if-is_empty.false)
