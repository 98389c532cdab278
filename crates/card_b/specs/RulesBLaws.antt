-- The card's rules by what was read of a row. Assumes nothing.
use Rattle.std.specs.Prelude.{◌≡◌, ℕ, Bool, cond, List, Option, Some, None}
use Rattle.std.proofs.Math.Path.{refl}
use Rattle.std.proofs.Common.{arith}
use Rattle.std.proofs.Math.Bool.{true, false}
use Rattle.selection_b.specs.TakenB.{afi_in, is_request, wakes, slots_in, request_read}
use Rattle.card_b.specs.CardB.{asked, other, rules}
use Rattle.selection_b.specs.declared.Request.{Request}
use Rattle.card_b.specs.declared.CardB.{CardB}
use Rattle.card_b.specs.declared.StateB.{StateB}

module _ (f : List ℕ) where
  abbrev read_of : Request
  read_of = record { wake = wakes f; slots = slots_in f; afi = afi_in f }

  abbrev read_if : Bool → Option Request
  read_if b = cond b (Some read_of) None

  -- a request that was read is one, and holds what stands in the row
  pub read_some : (q : Request) → request_read f ≡ Some q → (is_request f ≡ true) × (q ≡ read_of)
  unfolding request_read
  read_some q e = go (is_request f) refl e
    where
      go : (b : Bool) → is_request f ≡ b → read_if b ≡ Some q → (is_request f ≡ true) × (q ≡ read_of)
      go true i e = (i, cc)
      go false i e = absurd (let z : ◌≡◌ {A = ℕ} 0 1 = cc in omega arith)

  -- where none was read, there is none
  pub read_none : request_read f ≡ None → is_request f ≡ false
  unfolding request_read
  read_none e = go (is_request f) refl e
    where
      go : (b : Bool) → is_request f ≡ b → read_if b ≡ None → is_request f ≡ false
      go true i e = absurd (let z : ◌≡◌ {A = ℕ} 0 1 = cc in omega arith)
      go false i e = i

  module _ (c : CardB) (y : StateB) (number : ℕ) where
    pub read_asked : (q : Request) → request_read f ≡ Some q → asked c y number q.wake q.slots q.afi ≡ rules c y number f
    unfolding rules
    read_asked q e = let p = read_some q e in rw (p.1, p.0)

    pub read_other : request_read f ≡ None → other c y f ≡ rules c y number f
    unfolding rules
    read_other e = rw (read_none e)
