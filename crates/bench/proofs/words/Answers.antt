-- `bench::words` meets its contract: the parts between spaces, without the empty ones; the k-th is the word at k.
-- Assumes nothing.
use Rattle.std.proofs.Common.{rules, tests, ◌≡◌, ℕ, List, map, IfOk, not, eqb, length}
use Rattle.std.proofs.lemmas.Iterator.Consumers.{map_from_collect, YieldsList-at, YieldsList-from_filter}
use Rattle.std.proofs.lemmas.Iterator.Splits.{YieldsList-from_slice_split}
use Rattle.std.proofs.lemmas.Result.{IfOk-weaker}
use Rattle.bench.specs.Words.{words_of}
use Rattle.bench.proofs.AllWordsLaws.{word_of_words}
use Rattle.bench.proofs.words.Goals as goal

pub returns : goal.returns
returns c = let l = c.args.text.now in
    let all : IfOk c.collect.result (λ v. map (λ w. w.now) v.items ≡ words_of l) =
    map_from_collect _ c.collect.ensures.ran (YieldsList-from_filter _ (λ (w : List ℕ). not (eqb (length w) 0))
    (YieldsList-at c.filter.ensures.source (YieldsList-from_slice_split _ _ l c.split.ensures.rest c.split.ensures.done
    c.split.ensures.closure (λ x b q k. search (rules, tests))))
    c.filter.ensures.closure (λ x b q k. search (rules, tests))) in
    record {
      value = all;
      each = IfOk-weaker _ (λ v. map (λ w. w.now) v.items ≡ words_of l) _ (λ v e k. rw (e, word_of_words k l)) all;
    }
