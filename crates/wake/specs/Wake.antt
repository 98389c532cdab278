-- T-03: the call over an array of cards, of which the first n are the field. What the run is stands in crate wake_rules.
use Rattle.std.specs.Prelude.{ℕ, not, cond, ◌||◌, List, ◌++◌, length, take, drop, ltb}
use Rattle.limits.specs.Limits.{most_cards}
use Rattle.uid.specs.Calls.{valid_bytes, uid_of}
use Rattle.reader.specs.Reader.{is_new}
use Rattle.sweep_rules.specs.Run.{Out}
use Rattle.sweep_rules.specs.Terms.{within}
use Rattle.wake_rules.specs.Wake.{wake}
use Rattle.card.specs.declared.Card.{Card}
use Rattle.reader.specs.declared.Reader.{Reader}
use Rattle.reader.specs.declared.Answer.TheVariants.{Declines}
use Rattle.refusal.specs.declared.Refusal.{Refusal}
use Rattle.refusal.specs.declared.Refusal.TheVariants.{Argument, NotDue}
use Rattle.wake.specs.declared.Woken.{Woken}

-- declined before a frame is sent: all is unchanged
abbrev pub refused : Reader → List Card → Refusal → Woken
refused r cards e = record { reader = r; answer = Declines e; cards = cards; frames = 0 }

-- the run o of the first n cards: the others are unchanged
unfoldable pub done : List Card → ℕ → Out → Woken
done cards n o = record { reader = o.last.reader; answer = o.last.answer; cards = o.cards ++ drop n cards; frames = length o.exchanges }

-- 11, then 6 for the UID or the field; there is no log and no list, so no 1
unfoldable pub wake_of : Reader → List ℕ → List Card → ℕ → Woken
wake_of r l cards n =
    cond (not (is_new r.phase)) (refused r cards NotDue)
    (cond (not (valid_bytes l) || ltb most_cards n || not (within (take n cards))) (refused r cards Argument)
    (done cards n (wake (uid_of l) (take n cards))))
