-- Which number the call gives when: "Refuse with 13, after 1". Assumes nothing.
use Rattle.std.specs.Prelude.{◌≡◌, ℕ, ◌/◌, ◌≤◌, ◌<◌, Bool, true, false, List, [], ◌∷◌, length, Float}
use Rattle.std.proofs.Common.{sym, ap, ◌∙◌, lt-ltb, le-ltb}
use Rattle.refusal.specs.Refusal.{giving, declining}
use Rattle.front.specs.declared.Profile.{Profile}
use Rattle.front.specs.Front.{level_of, taken_at, taken, row_of}
use Rattle.front.specs.Calls.{receive_says}

-- the test at the level that was computed is the whole test
pub taken_at_law : (p : Profile) (h : List Float) {v : Float} {r b : Bool} → v ≡ level_of p.gate p.peak → r ≡ taken_at p v h → r ≡ b → taken p h ≡ b
taken_at_law p h l e t = ap (λ (x : Float). taken_at p x h) (sym l) ∙ sym e ∙ t

module _ (room : ℕ) (p : Profile) (h : List Float) where
  pub no_room : room < length h / 2 → receive_says room p h ≡ declining 1
  no_room l = rw (lt-ltb room (length h / 2) l)

  pub not_taken : length h / 2 ≤ room → taken p h ≡ false → receive_says room p h ≡ declining 13
  not_taken l t = rw (le-ltb room (length h / 2) l, t)

  pub says_row : length h / 2 ≤ room → taken p h ≡ true → receive_says room p h ≡ giving (length (row_of p h) ∷ [])
  says_row l t = rw (le-ltb room (length h / 2) l, t)
