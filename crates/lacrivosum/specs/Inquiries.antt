-- T-05 for C: one request with all its markers over a row of Type B cards' states, one for each slot number that the host hands in. The reader's
-- state and the cards are decoded, the call of crate slots is made by value, and what it leaves is encoded, by `turn_left` of crate kept_b and
-- `row_left` of crate kept_slots.
use Rattle.std.specs.Prelude.{ℕ, ◌/◌, ◌≤◌, ◌≡◌, true, cond, List, map, length}
use Rattle.limits.specs.Limits.{most_cards}
use Rattle.refusal.specs.declared.Refusal.{Refusal}
use Rattle.refusal.specs.declared.Refusal.TheVariants.{Room}
use Rattle.rows.specs.Rows.{overlay}
use Rattle.frame_b.specs.LimitsB.{list_room_b}
use Rattle.reader_b.specs.ReaderB.{is_ready}
use Rattle.slots_rules.specs.Claim as claims
use Rattle.slots_rules.specs.RunB.{Out, list_bytes}
use Rattle.slots.specs.Inquiry as by_value
use Rattle.kept.specs.Kept.{state_size, refused}
use Rattle.kept_b.specs.KeptReaderB.{reader_in, turn_left, kept_in, kept_of, kept_after}
use Rattle.kept_slots.specs.KeptSlots.{drawn_in, field_in, cards_in, card_of, turn_by, inquired_number, row_left, Says}
use Rattle.lacrivosum.specs.CardLibrary.{speaks}
use Rattle.lacrivosum.specs.Field.{no_field}

-- what comes of the call: its number, and all that was lent
pub record InquiryDone : Type 0 where
  pub number : ℕ
  pub state : List ℕ
  pub cards : List ℕ
  pub list : List ℕ

abbrev pub inquiry_done : ℕ → List ℕ → List ℕ → List ℕ → InquiryDone
inquiry_done x state cards list = record { number = x; state = state; cards = cards; list = list }

-- REQB, or WUPB where wake is not 0, with n slots to the cards that afi admits; their slot numbers
pub record Asked : Type 0 where
  pub wake : ℕ
  pub n : ℕ
  pub afi : ℕ
  pub numbers : List ℕ

abbrev pub asked : ℕ → ℕ → ℕ → List ℕ → Asked
asked wake n afi numbers = record { wake = wake; n = n; afi = afi; numbers = numbers }

-- the call by value, on what the bytes say
abbrev pub inquiry_call : Asked → InquiryDone → by_value.Call
inquiry_call q b =
    by_value.inquiry_of (reader_in b.state) (speaks q.wake) q.n q.afi (field_in q.numbers b.cards) (length q.numbers) b.list

-- .. that gives c. Too short a state or row: 1, all unchanged
unfoldable pub inquiry_left : Asked → InquiryDone → by_value.Call → InquiryDone
inquiry_left q b c =
    cond (no_field b.state b.cards (length q.numbers)) (inquiry_done (refused Room) b.state b.cards b.list)
    (inquiry_done (inquired_number c.inquired.answer c.inquired.slots) (turn_left b.state (turn_by c.inquired c.list))
    (row_left (reader_in b.state) (length q.numbers) b.cards c.inquired c.list) c.list)

-- where the call by value is declined before a frame is sent, 11, 1 or 6, all that was lent is unchanged
abbrev pub InquiryUnchanged : Asked → InquiryDone → InquiryDone → Type 0
InquiryUnchanged q before after =
    (e : Refusal)
    → inquiry_call q before ≡ by_value.call (by_value.refused (reader_in before.state) (field_in q.numbers before.cards) e) before.list
    → after ≡ inquiry_done after.number before.state before.cards before.list

-- what the bytes say then, whatever was asked: the reader and what it answered; and the cards, where they were written
pub record InquiryKept (q : Asked) (before after : InquiryDone) (c : by_value.Call) : Type 0 where
  pub state : kept_in after.state ≡ kept_after before.state (turn_by c.inquired c.list)
  pub cards : Says (reader_in before.state) (length q.numbers) c.inquired c.list after.cards

-- the claim's terms, of bytes: room for all, a reader that is ready, and a field of at most the limit of cards, all idle, admitted by the AFI,
-- answering markers, with slot numbers from 1 to n and different PUPIs
pub record InquiryTerms (q : Asked) (b : InquiryDone) : Type 0 where
  pub state_room : state_size ≤ length b.state
  pub cards_room : length q.numbers ≤ length b.cards / state_size
  pub ready : is_ready (reader_in b.state).phase ≡ true
  pub list_has_room : list_room_b ≤ length b.list
  pub few : length q.numbers ≤ most_cards
  pub field : claims.Terms q.n q.afi (drawn_in q.numbers b.cards)

-- .. within them, what the bytes say after the run o of the rules over the cards that they said before: the number of slots; the reader, and what it
-- made of the last slot; the cards; the list, from its front on
pub record InquirySays (q : Asked) (o : Out) (before after : InquiryDone) : Type 0 where
  pub number : after.number ≡ q.n
  pub state : kept_in after.state ≡ kept_of o.last
  pub cards : cards_in (length q.numbers) after.cards ≡ map card_of o.cards
  pub list : after.list ≡ overlay before.list 0 (list_bytes o.slots)
