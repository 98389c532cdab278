-- `reader_link::whole::deselect_due` meets its contract, by those of `parts` and `finish`. Assumes nothing.
use mathlib.Core.Path.{refl, sym, ap, ◌∙◌}
use mathlib.Core.List.{[]}
use Rattle.reader_blocks.specs.ReaderFrames.{reader_out, reader_deselect}
use Rattle.reader_link.specs.ReaderCalls.{linking, deselect_in}
use Rattle.reader_link.specs.WholeLaws.{two}
use Rattle.reader_link.proofs.CallLaws.{declined_law}
use Rattle.reader_link.proofs.whole.deselect_due.Goals as goal

pub returns-in-Linked : goal.returns-in-Linked
unfolding reader_deselect
returns-in-Linked c = let a = c.args in
    let both = two a.out.now (ap (λ s. linking a.x.reader (reader_out s [] [] 0 [])) c.parts.ensures ∙ sym (ap (λ k. deselect_in k a.x) c.in-Linked.is)) (c.finish.ensures.value, c.finish.ensures.out_after) in
    record { value = both.0; out_after = both.1 }

pub returns-in_default : goal.returns-in_default
returns-in_default c = let a = c.args in
    let both = declined_law (λ k. deselect_in k a.x) a.x a.x.link a.out.now refl c.in_default.not-Linked refl (λ i. refl) c.declines.ensures in
    record { value = both.0; out_after = both.1 }
