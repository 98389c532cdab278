-- Document 02, T-05, the claim: "with all cards idle, admitted by the request's AFI, answering slot markers, with different PUPIs, and a
-- channel that only merges bits, one request with all its markers hears exactly the cards that are alone in their slot, and names each slot
-- that held more than one."
use Rattle.std.specs.Prelude.{◌≡◌, ℕ, zero, suc, ◌*◌, ◌≤◌, true, cond, List, [], ◌∷◌, map, length, replicate, eqb}
use Rattle.rows.specs.Rows.{All}
use Rattle.selection_b.specs.TypeB.{is_slots, Parts}
use Rattle.selection_b.specs.TakenB.{admits}
use Rattle.card_b.specs.CardB.{atqb_of, with_state}
use Rattle.reader_b.specs.ReaderB.{blank}
use Rattle.field_b.specs.FieldB.{with_card}
use Rattle.slots_rules.specs.RunB.{Told, Out, list_bytes}
use Rattle.slots_rules.specs.TermsB.{apart}
use Rattle.selection_b.specs.declared.Held.TheVariants.{None, One, More}
use Rattle.card_b.specs.declared.CardB.{CardB}
use Rattle.card_b.specs.declared.StateB.TheVariants.{Idle, Declared}
use Rattle.reader_b.specs.declared.PhaseB.TheVariants.{Ready}
use Rattle.field_b.specs.declared.Drawn.{Drawn}

-- ---- the terms

-- "idle, admitted by the request's AFI, answering slot markers", the slot number from 1 to n
pub record Asked (n afi : ℕ) (d : Drawn) : Type 0 where
  pub idle : d.card.state ≡ Idle
  pub admitted : admits afi d.card.afi ≡ true
  pub marked : d.card.markers ≡ true
  pub least : 1 ≤ d.number
  pub most : d.number ≤ n

-- what its type says of a card's bytes
abbrev pub Typed : Drawn → Type 0
Typed d = Parts d.card.pupi d.card.application d.card.protocol

-- "all cards .., with different PUPIs", and N one of the five
pub record Terms (n afi : ℕ) (ds : List Drawn) : Type 0 where
  pub slots : is_slots n ≡ true
  pub all : All (Asked n afi) ds
  pub different : apart ds ≡ true

-- ---- what is to be heard

-- the cards of slot s
unfoldable pub in_slot : ℕ → List Drawn → List CardB
in_slot s [] = []
in_slot s (d ∷ ds) = cond (eqb d.number s) (d.card ∷ in_slot s ds) (in_slot s ds)

-- what is to be told of a slot that holds these cards: nothing of none, the ATQB of one, and of more that they are more
abbrev pub told : List CardB → Told
told [] = (None, replicate 12 0)
told (c ∷ []) = (One, atqb_of c)
told (c ∷ e ∷ cs) = (More, replicate 12 0)

-- k slots from slot s on
unfoldable pub slots_from : ℕ → ℕ → List ℕ
slots_from s zero = []
slots_from s (suc k) = s ∷ slots_from (suc s) k

-- ---- the claim, of a request with n slots over the field ds that gave o

pub record Claim (n : ℕ) (ds : List Drawn) (o : Out) : Type 0 where
  -- "hears exactly the cards that are alone in their slot, and names each slot that held more than one"; each other slot held none
  pub slots : o.slots ≡ map (λ s. told (in_slot s ds)) (slots_from 1 n)
  -- the same cards in their places, each declared
  pub cards : o.cards ≡ map (λ d. with_card d (with_state d.card Declared)) ds
  -- the reader is ready again: nothing was declined
  pub ended : o.last.reader ≡ blank Ready
  -- "The list .. has 13 a slot"
  pub list : length (list_bytes o.slots) ≡ 13 * n
