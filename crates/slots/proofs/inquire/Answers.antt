-- `slots::inquire` meets its contract: 11, 1, 6, or the run of the rules, of which the claim holds. Assumes nothing.
use mathlib.Core.Path.{◌≡◌, sym, ◌∙◌}
use mathlib.Core.Bool.{true}
use lib.ListN.{take}
use Rattle.selection_b.specs.SlotsLaws.{slots_most}
use Rattle.reader_b.specs.ReaderB.{is_ready}
use Rattle.slots_rules.specs.RunB.{inquiry}
use Rattle.slots.specs.CallLaws.{not_due, no_list, too_many, no_field, made, ends_call}
use borrow.Author.Rules.{rules}
use Rattle.slots.proofs.inquire.Goals as goal

pub returns-then-not-is_ready : goal.returns-then-not-is_ready
returns-then-not-is_ready c = let a = c.args in let both = not_due a.r a.wake a.n a.afi a.cards a.count a.list.now (search rules) c.refused.result c.refused.ensures (sym c.is_ready.ensures ∙ c.if-not-is_ready.true) in record { list_after = both.0; inquires = both.1 }

pub returns-then-list-lt-LIST_ROOM : goal.returns-then-list-lt-LIST_ROOM
returns-then-list-lt-LIST_ROOM c = let a = c.args in
    let y : is_ready a.r.phase ≡ true = sym c.is_ready.ensures ∙ c.if-not-is_ready.false in let both = no_list a.r a.wake a.n a.afi a.cards a.count a.list.now (search rules) y c.refused-then-list-lt-LIST_ROOM.result c.refused-then-list-lt-LIST_ROOM.ensures c.if-list-lt-LIST_ROOM.true in record { list_after = both.0; inquires = both.1 }

pub returns-then-count-gt-MOST_CARDS : goal.returns-then-count-gt-MOST_CARDS
returns-then-count-gt-MOST_CARDS c = let a = c.args in
    let y : is_ready a.r.phase ≡ true = sym c.is_ready.ensures ∙ c.if-not-is_ready.false in let both = too_many a.r a.wake a.n a.afi a.cards a.count a.list.now (search rules) y c.if-list-lt-LIST_ROOM.false c.refused-then-count-gt-MOST_CARDS.result c.refused-then-count-gt-MOST_CARDS.ensures c.if-count-gt-MOST_CARDS.true in record { list_after = both.0; inquires = both.1 }

pub returns-then-not-is_within : goal.returns-then-not-is_within
returns-then-not-is_within c = let a = c.args in
    let y : is_ready a.r.phase ≡ true = sym c.is_ready.ensures ∙ c.if-not-is_ready.false in let both = no_field a.r a.wake a.n a.afi a.cards a.count a.list.now (search rules) y c.if-list-lt-LIST_ROOM.false c.if-count-gt-MOST_CARDS.false c.refused-then-not-is_within.result c.refused-then-not-is_within.ensures (sym c.is_within.ensures.value ∙ c.if-not-is_within.true) in record { list_after = both.0; inquires = both.1 }

pub run-p-requires : goal.run-p-requires
run-p-requires c = let a = c.args in
    let w = c.is_within.ensures.all c.if-not-is_within.false in
    (c.if-count-gt-MOST_CARDS.false, slots_most a.n w.1, c.if-list-lt-LIST_ROOM.false)

pub returns : goal.returns
returns c = let a = c.args in
    let y : is_ready a.r.phase ≡ true = sym c.is_ready.ensures ∙ c.if-not-is_ready.false in
    let k = c.is_within in
    let t = c.if-not-is_within.false in
    let p = c.run-p in
    let l = p.new.list in
    let e = ends_call a.cards a.count a.list.now (inquiry a.wake a.n a.afi (take a.count a.cards)) p.result l p.ensures.turn_value p.ensures.cards_value p.ensures.slots_value p.ensures.list_after in let both = made a.r a.wake a.n a.afi a.cards a.count a.list.now (search (rules, c.well_formed.1.1.1.1.0)) y c.if-list-lt-LIST_ROOM.false c.if-count-gt-MOST_CARDS.false (search (rules, c.well_formed.1.1.1.0)) (k.ensures.all t).0 (sym k.ensures.value ∙ t) _ l e in record { list_after = both.0; inquires = both.1 }
