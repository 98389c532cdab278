-- `kept_b::card::card_bytes` meets its contract, field by field. Assumes nothing.
use Rattle.kept_b.specs.KeptCardB.{card_bytes}
use Rattle.kept.specs.Kept.{bytes_at}
use borrow.Author.Rules.{rules}
use Rattle.kept_b.proofs.card.card_bytes.Goals as goal

pub returns : goal.returns
unfolding card_bytes bytes_at
returns c = record { value = simp (c.state_tag-tag.ensures, c.state_slot-slot.ensures, c.flag-markers.ensures); fits = (search rules, (search rules, search rules)) }
