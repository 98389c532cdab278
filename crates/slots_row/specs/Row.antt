-- Document 02, T-05 over a lent row: the cards are copied into an array, the request is made over them as values, and they are copied back. What a request
-- is stands in crate slots.
use Rattle.std.specs.Prelude.{ℕ, Bool, false, List, ◌≡◌, replicate}
use Rattle.limits.specs.Limits.{most_cards}
use Rattle.slots.specs.Inquiry.{call, inquiry_of}
use Rattle.slots.specs.Promise.{Inquires}
use Rattle.slots.specs.declared.Inquired.{Inquired}
use Rattle.card_b.specs.declared.StateB.TheVariants.{Off}
use Rattle.field_b.specs.declared.Drawn.{Drawn}
use Rattle.reader_b.specs.declared.ReaderB.{ReaderB}
use Rattle.slots_row.specs.declared.RowInquired.{RowInquired}
use Rattle.slots_row.specs.declared.request.Request.{Request}

-- what the call over values gives, of a row that holds these cards afterwards
abbrev pub inquired_row : RowInquired → List Drawn → Inquired
inquired_row s cards = record { reader = s.reader; answer = s.answer; cards = cards; slots = s.slots }

abbrev pub row_of : Inquired → RowInquired
row_of s = record { reader = s.reader; answer = s.answer; slots = s.slots }

abbrev pub request_of : ReaderB → Bool → ℕ → ℕ → Request
request_of r wake n afi = record { reader = r; wake = wake; slots = n; afi = afi }

-- what crate slots says of a request k over the first cards, with a list, that gave s and list₁
abbrev pub Promises : Request → List Drawn → ℕ → List ℕ → Inquired → List ℕ → Type 0
Promises k cards count list s list₁ =
    (call s list₁ ≡ inquiry_of k.reader k.wake k.slots k.afi cards count list)
    × Inquires k.reader k.wake k.slots k.afi cards count list s list₁

-- what stands where the row has no card
abbrev pub no_card : Drawn
no_card =
    record {
      card = record { pupi = replicate 4 0; afi = 0; markers = false; application = replicate 4 0; protocol = replicate 3 0; state = Off };
      number = 0;
    }

abbrev pub no_cards : List Drawn
no_cards = replicate most_cards no_card
