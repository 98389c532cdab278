-- A row of states, one of 64 bytes behind the other, each with a value at its front. What a value is, how it is read and how it is written are
-- given: cards of Type A are one case of it (crate kept_field), cards of Type B another (crate kept_slots).
use Rattle.std.specs.Prelude.{ℕ, zero, suc, ◌-◌, min, List, [], ◌∷◌, ◌++◌, take, drop, replicate}
use Rattle.rows.specs.Rows.{overlay}
use Rattle.kept.specs.Kept.{state_size}

-- n values of a row whose first state has the place i: f reads the value of a place from the bytes of its state on (law `state-at`)
unfoldable pub states_from : {A : Type 0} → (ℕ → List ℕ → A) → ℕ → ℕ → List ℕ → List A
states_from f i zero b = []
states_from f i (suc n) b = f i b ∷ states_from f (suc i) n (drop state_size b)

-- .. as an array that holds `most`: as many of the n values as it holds, then `none`
unfoldable pub array_of : {A : Type 0} → (ℕ → List ℕ → A) → A → ℕ → ℕ → List ℕ → List A
array_of f none most n b = states_from f 0 (min n most) b ++ replicate (most - n) none

-- values written back, each as the bytes that g gives, over the front of its own state
unfoldable pub states_left : {A : Type 0} → (A → List ℕ) → List ℕ → List A → List ℕ
states_left g b [] = b
states_left g b (x ∷ l) = overlay (take state_size b) 0 (g x) ++ states_left g (drop state_size b) l
