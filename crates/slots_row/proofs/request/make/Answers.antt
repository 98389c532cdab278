-- `slots_row::request::make` meets its contract: it is the call of crate slots. Assumes nothing.
use mathlib.Core.Path.{◌≡◌, ap, ◌∙◌}
use lib.ListN.{length}
use Rattle.limits.specs.Limits.{most_cards}
use Rattle.slots_row.specs.RowLaws.{made_cards}
use borrow.Author.Rules.{rules}
use Rattle.slots_row.proofs.request.make.Goals as goal

pub returns : goal.returns
returns c = let a = c.args in
    let w = c.inquire in
    let full : length a.cards ≡ most_cards = search (rules, c.well_formed.1.0) in record { promises = (w.ensures.list_after, w.ensures.inquires); cards_len = ap (λ s. length s.inquired.cards) w.ensures.list_after ∙ made_cards a.k a.cards a.count a.list.now ∙ full }
