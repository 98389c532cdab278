-- What the call of crate front leaves, by what its answer says. Assumes nothing.
use Rattle.std.specs.Prelude.{◌≡◌, refl, List, ℕ, ◌<◌, ◌≤◌, Float, Result, Ok, Err}
use Rattle.std.proofs.Common.{ap, ◌∙◌, lt-ltb, le-ltb}
use Rattle.refusal.specs.Refusal.{Said}
use Rattle.refusal.specs.declared.Refusal.TheVariants.{Argument}
use Rattle.front.specs.declared.NotHeard.{NotHeard}
use Rattle.front.specs.declared.NotHeard.TheVariants.{NoRoom, NotEnergies}
use Rattle.front.specs.declared.Profile.{Profile}
use Rattle.front.specs.Front.{row_of}
use Rattle.front.specs.Calls.{heard_says, receive_says, places_after}
use Rattle.kept.specs.Kept.{refused}
use Rattle.lacrivosum.specs.Frames.{said_number, said_left}
use Rattle.lacrivosum.specs.Fronts.{front_says}

places_after_law : (h : Result ℕ NotHeard) (row out : List ℕ) → places_after h row out ≡ said_left (heard_says h) row out
places_after_law (Ok n) row out = refl
places_after_law (Err NoRoom) row out = refl
places_after_law (Err NotEnergies) row out = refl

-- no gate has this number
pub no_gate : (gate room n : ℕ) (p : Profile) (h : List Float) (row out : List ℕ) → 2 < gate → n ≡ refused Argument
    → (n ≡ said_number (front_says gate room p h)) × (out ≡ said_left (front_says gate room p h) row out)
unfolding front_says
no_gate gate room n p h row out g e = (rw (lt-ltb 2 gate g, e), rw (lt-ltb 2 gate g))

-- .. one has: the answer a of the call with the profile q that was made
pub gated : (gate room n : ℕ) (p q : Profile) (h : List Float) (a : Result ℕ NotHeard) (out o : List ℕ) → gate ≤ 2 → q ≡ p → heard_says a ≡ receive_says room q h
    → o ≡ places_after a (row_of q h) out → n ≡ said_number (heard_says a)
    → (n ≡ said_number (front_says gate room p h)) × (o ≡ said_left (front_says gate room p h) (row_of p h) out)
unfolding front_says
gated gate room n p q h a out o g m e w k =
    let x : n ≡ said_number (receive_says room q h) = k ∙ ap said_number e in
    let y : o ≡ said_left (receive_says room q h) (row_of q h) out = w ∙ places_after_law a (row_of q h) out ∙ ap (λ (s : Said). said_left s (row_of q h) out) e in
    rw (le-ltb 2 gate g, ← m) (x, y)
