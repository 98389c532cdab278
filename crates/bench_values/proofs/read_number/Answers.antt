-- `bench_values::read_number` meets its contract. Assumes nothing.
use lib.ListN.{length}
use mathlib.Core.Path.{sym, ◌∙◌}
use native.Mathlib.Omega.{arith}
use borrow.Author.Tests.{lt-leb, le-leb}
use borrow.Author.Rules.{rules}
use Rattle.bench_values.specs.Values.{number_word}
use Rattle.bench_values.proofs.read_number.Goals as goal

pub returns-then-is_empty : goal.returns-then-is_empty
unfolding number_word
returns-then-is_empty g c = simp (lt-leb 1 (length c.args.word.now) (search (rules, arith)))

pub returns-then-word : goal.returns-then-word
unfolding number_word
returns-then-word g c = simp (le-leb 1 (length c.args.word.now) (search (rules, arith)), lt-leb _ _ c.if-word.true)

pub returns-then-is_spelt : goal.returns-then-is_spelt
unfolding number_word
returns-then-is_spelt g c =
    simp (
      le-leb 1 (length c.args.word.now) (search (rules, arith)),
      le-leb _ _ c.if-word.false,
      sym c.is_spelt.ensures ∙ c.if-is_spelt.true,
      c.join.ensures,
    )

pub returns-else-is_spelt : goal.returns-else-is_spelt
unfolding number_word
returns-else-is_spelt g c =
    simp (le-leb 1 (length c.args.word.now) (search (rules, arith)), le-leb _ _ c.if-word.false, sym c.is_spelt.ensures ∙ c.if-is_spelt.false)
