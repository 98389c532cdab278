-- `kept_b::front_bytes` meets its contract, field by field. Assumes nothing.
use Rattle.kept_b.specs.KeptReaderB.{reader_bytes, slot_bytes}
use Rattle.kept.specs.Kept.{bytes_at}
use borrow.Author.Rules.{rules}
use Rattle.kept_b.proofs.front_bytes.Goals as goal

pub returns : goal.returns
unfolding reader_bytes slot_bytes bytes_at
returns c = record { value = simp (c.phase_tag-tag.ensures, c.answer_held-held.ensures); atqb_len = search rules }
