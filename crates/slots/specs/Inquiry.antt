-- Document 02, T-05 and document 01, "When the core declines": the call of a request with all its markers over an array of cards, of which the first
-- are the field. What a request does stands in crate slots_rules.
use Rattle.std.specs.Prelude.{ℕ, Bool, not, cond, ◌||◌, List, length, take, ltb}
use Rattle.limits.specs.Limits.{most_cards}
use Rattle.frame_b.specs.LimitsB.{list_room_b}
use Rattle.rows.specs.Rows.{overlay}
use Rattle.reader_b.specs.ReaderB.{is_ready}
use Rattle.slots_rules.specs.RunB.{Out, inquiry, list_bytes}
use Rattle.slots_rules.specs.TermsB.{within}
use Rattle.slots.specs.Steps.{ends}
use Rattle.refusal.specs.declared.Refusal.{Refusal}
use Rattle.refusal.specs.declared.Refusal.TheVariants.{Room, Argument, NotDue}
use Rattle.reader_b.specs.declared.ReaderB.{ReaderB}
use Rattle.reader_b.specs.declared.AnswerB.TheVariants.{Declines}
use Rattle.field_b.specs.declared.Drawn.{Drawn}
use Rattle.slots.specs.declared.Inquired.{Inquired}

-- what the call gives, and the lent list afterwards
pub record Call : Type 0 where
  pub inquired : Inquired
  pub list : List ℕ

abbrev pub call : Inquired → List ℕ → Call
call s list = record { inquired = s; list = list }

-- declined before a frame is sent: all is unchanged
abbrev pub refused : ReaderB → List Drawn → Refusal → Inquired
refused r cards e = record { reader = r; answer = Declines e; cards = cards; slots = 0 }

-- the run o of the first cards: the others are unchanged, the list is written from its front on, 13 bytes a slot, the rest of it is untouched
unfoldable pub done : List Drawn → ℕ → List ℕ → Out → Call
done cards count list o =
    record {
      inquired = record { reader = o.last.reader; answer = o.last.answer; cards = ends cards count o; slots = length o.slots };
      list = overlay list 0 (list_bytes o.slots);
    }

-- 11, 1 and 6 are tested in this order. 6: N, "over 16 cards", a slot number, "a PUPI twice, a card neither idle nor halted"
unfoldable pub inquiry_of : ReaderB → Bool → ℕ → ℕ → List Drawn → ℕ → List ℕ → Call
inquiry_of r wake n afi cards count list =
    cond (not (is_ready r.phase)) (call (refused r cards NotDue) list)
    (cond (ltb (length list) list_room_b) (call (refused r cards Room) list)
    (cond (ltb most_cards count || not (within n (take count cards))) (call (refused r cards Argument) list)
    (done cards count list (inquiry wake n afi (take count cards)))))
