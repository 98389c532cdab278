-- `kept_card::link::link_bytes` meets its contract, field by field. Assumes nothing.
use Rattle.kept.specs.Kept.{word}
use Rattle.kept_card.specs.KeptLink.{link_bytes}
use borrow.Author.Rules.{rules}
use Rattle.kept_card.proofs.link.link_bytes.Goals as goal

pub returns : goal.returns
unfolding link_bytes word
returns c = record { value = simp (c.number_tag-number.ensures, c.phase_tag-phase.ensures, c.phase_wtx-wtx.ensures, c.block_tag-block.ensures, c.block_first-first.ensures, c.block_second-second.ensures, c.word-j.ensures, c.word-a.ensures); sized = (search rules, search rules) }
