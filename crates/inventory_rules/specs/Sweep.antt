-- Document 02, T-10, of the claim: "over tags with different 64-bit UIDs, none selected, and a channel that only merges bits", what a round and a sweep tell, and
-- that every tag is what it was. Which tags are alone in a slot, and which met, is `in_slot` and `told_of`.
use Rattle.std.specs.Prelude.{◌≡◌, ℕ, ◌≤◌, ◌<◌, Bool, true, false, List, [], map, replicate}
use Rattle.rows.specs.Rows.{All}
use Rattle.reader_v.specs.Met.{flags}
use Rattle.reader_v.specs.ReaderV.{blank, at_round}
use Rattle.reader_v.specs.CallsV.{first_round, round_for}
use Rattle.request_v.specs.declared.Tag.{Tag}
use Rattle.reader_v.specs.declared.PhaseV.TheVariants.{Ready, InRound, InSweep}
use Rattle.inventory_rules.specs.RunV.{Told, Out, run}
use Rattle.inventory_rules.specs.Found.{found_in, count, part_of, uids_of}
use Rattle.inventory_rules.specs.Claim.{Typed, rests, apart, in_slot, told_of, slots_from, sweep_told}

-- ---- the terms

pub record Terms (afi : ℕ) (ts : List Tag) : Type 0 where
  -- what their types say
  pub afi_byte : afi < 256
  pub typed : All Typed ts
  -- "none selected", and none in a round
  pub rest : All (λ t. rests t.state ≡ true) ts
  -- "different 64-bit UIDs"
  pub different : apart ts ≡ true

-- ---- one round of 16 slots, with a mask of len bits, and a whole sweep: so many frames after their request's call, over the rules

unfoldable pub round_over : Bool → ℕ → ℕ → List ℕ → List Tag → Out
round_over asks afi len mask ts = run 16 (at_round InRound (round_for false asks afi len mask) (replicate flags 0)) ts

unfoldable pub sweep_over : ℕ → Bool → ℕ → List Tag → Out
sweep_over frames asks afi ts = run frames (at_round InSweep (first_round asks afi) (replicate flags 0)) ts

-- ---- the claim: l is what is to be told, slot by slot

pub record Claim (l : List Told) (ts : List Tag) (o : Out) : Type 0 where
  -- every slot is told as its tags make it: none, one with DSFID and UID, more; in the order heard
  pub slots : o.slots ≡ l
  -- every tag is what it was
  pub tags : o.tags ≡ ts
  -- the reader is ready again: nothing was declined
  pub ready : o.reader ≡ blank Ready
  pub number : o.number ≡ 0

-- the tags of a round's slots
abbrev pub round_told : Bool → ℕ → ℕ → List ℕ → List Tag → List Told
round_told asks afi len mask ts = map (λ s. told_of (in_slot (round_for false asks afi len mask) s ts)) (slots_from 0 16)

-- "a round is finished, then its met slots are taken in rising order, each to its end", from no mask on: 16 half bytes are left
abbrev pub all_told : Bool → ℕ → List Tag → List Told
all_told asks afi ts = sweep_told asks afi 16 [] ts

-- "lists every ready tag that the AFI admits, each once and no other, in the order heard": the UIDs of the slots that held one tag are, in number, those of the tags
-- that take part in a round without a mask, whatever UID u is looked for; and since UIDs differ, none is there twice
pub record SweepClaim (asks : Bool) (afi : ℕ) (ts : List Tag) (o : Out) : Type 0 where
  pub told : Claim (all_told asks afi ts) ts o
  pub each : (u : List ℕ) → count u (found_in o.slots) ≡ count u (uids_of (part_of (first_round asks afi) ts))
  pub once : (u : List ℕ) → count u (found_in o.slots) ≤ 1
