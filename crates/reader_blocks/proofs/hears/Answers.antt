use lib.ListN.{length}
use mathlib.Core.Path.{sym, ap, ◌∙◌}
use Rattle.reader_blocks.specs.ReaderFrames.{reader_hears}
use Rattle.reader_blocks.specs.ReaderLaws.{takes_join}
use Rattle.reader_blocks.proofs.hears.Goals as goal

pub returns-then-step-clause-value : goal.returns-then-step-clause-value
unfolding reader_hears
returns-then-step-clause-value c = rw (c.takes-step.ensures, c.read_block.ensures, c.behind-payload.ensures)

pub returns-then-step-clause-buffer_after : goal.returns-then-step-clause-buffer_after
returns-then-step-clause-buffer_after c = let a = c.args in
    let k = takes_join a.l a.l.phase c.read_block.result (length c.behind-payload.result.now) (length a.buffer.now) (length a.message.now) (ap (λ s. s.joins) (sym c.takes-step.ensures) ∙ c.if-step.true) in
    rw (c.if-step.true, c.join.ensures.buffer_after, c.join.ensures.value, k, c.behind-payload.ensures)

pub returns-else-step-clause-value : goal.returns-else-step-clause-value
unfolding reader_hears
returns-else-step-clause-value c = rw (c.takes-step.ensures, c.read_block.ensures, c.behind-payload.ensures)
