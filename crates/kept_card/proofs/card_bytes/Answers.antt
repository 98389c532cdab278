-- `kept_card::card_bytes` meets its contract, field by field. Assumes nothing.
use Rattle.kept_card.specs.KeptCard.{card_bytes}
use Rattle.kept.specs.Kept.{bytes_at}
use borrow.Author.Rules.{rules}
use Rattle.kept_card.proofs.card_bytes.Goals as goal

pub returns : goal.returns
unfolding card_bytes bytes_at
returns c = record { value = simp (c.state_tag-tag.ensures, c.state_level-level.ensures, c.state_index-reader.ensures, c.flag-blocks.ensures, c.size_tag-size.ensures); bytes_len = search rules }
