-- What the call of a request promises. The claim is stated on the rules, in crate slots_rules.
use Rattle.std.specs.Prelude.{◌≡◌, ℕ, ◌≤◌, Bool, true, not, ◌||◌, List, [], length, take, ltb}
use Rattle.limits.specs.Limits.{most_cards}
use Rattle.frame_b.specs.LimitsB.{list_room_b}
use Rattle.refusal.specs.Refusal.{Said, giving, refusal_says, decline_if}
use Rattle.reader_b.specs.ReaderB.{is_ready}
use Rattle.slots_rules.specs.Claim as claims
use Rattle.slots_rules.specs.RunB.{inquiry}
use Rattle.slots_rules.specs.TermsB.{within}
use Rattle.reader_b.specs.declared.ReaderB.{ReaderB}
use Rattle.reader_b.specs.declared.AnswerB.{AnswerB}
use Rattle.reader_b.specs.declared.AnswerB.TheVariants.{Sends, Marks, Ends, Attached, Halted, Declines}
use Rattle.field_b.specs.declared.Drawn.{Drawn}
use Rattle.slots.specs.Inquiry.{call, done}
use Rattle.slots.specs.declared.Inquired.{Inquired}

-- the claim's terms, a reader that is ready, the room that the call asks for, and no more cards than the limit
pub record Terms (r : ReaderB) (n afi : ℕ) (cards : List Drawn) (count : ℕ) (list : List ℕ) : Type 0 where
  pub ready : is_ready r.phase ≡ true
  pub room : list_room_b ≤ length list
  pub few : count ≤ most_cards
  pub field : claims.Terms n afi (take count cards)

-- ---- the answer, in the table's numbers: what the slots held stands in the list

abbrev pub answer_says : AnswerB → Said
answer_says (Sends n) = giving []
answer_says (Marks k) = giving []
answer_says (Ends k) = giving []
answer_says (Attached m) = giving []
answer_says Halted = giving []
answer_says (Declines e) = refusal_says e

-- "A call tests 11, 1, 6": else as the run of the rules ends
abbrev pub inquiry_says : ReaderB → Bool → ℕ → ℕ → List Drawn → ℕ → List ℕ → Said
inquiry_says r wake n afi cards count list =
    decline_if (not (is_ready r.phase)) 11
    (decline_if (ltb (length list) list_room_b) 1
    (decline_if (ltb most_cards count || not (within n (take count cards))) 6
    (answer_says (inquiry wake n afi (take count cards)).last.answer)))

-- ---- what the call promises: s is what it gives, list₁ the lent list afterwards
pub record Inquires (r : ReaderB) (wake : Bool) (n afi : ℕ) (cs : List Drawn) (count : ℕ) (list₀ : List ℕ) (s : Inquired) (list₁ : List ℕ) : Type 0 where
  pub says : answer_says s.answer ≡ inquiry_says r wake n afi cs count list₀
  -- within the terms it is the run of the rules over the field: its reader and last answer, its cards in their places (those that are not in the
  -- field unchanged), what its slots held from the front of the list on
  pub run : Terms r n afi cs count list₀ → call s list₁ ≡ done cs count list₀ (inquiry wake n afi (take count cs))
  -- .. and of that run the claim holds
  pub claim : Terms r n afi cs count list₀ → claims.Claim n (take count cs) (inquiry wake n afi (take count cs))
