-- `kept_reader::link::linked_bytes` meets its contract, field by field. Assumes nothing.
use Rattle.kept_reader.specs.KeptReader.{linked_bytes}
use Rattle.kept.specs.Kept.{word}
use borrow.Author.Rules.{rules}
use Rattle.kept_reader.proofs.link.linked_bytes.Goals as goal

pub returns : goal.returns
unfolding linked_bytes word
returns c = record { value = simp (c.flag-number.ensures, c.link_phase_tag-tag.ensures, c.link_phase_turn-turn.ensures, c.word-a.ensures, c.word-j.ensures); sized = (search rules, search rules) }
