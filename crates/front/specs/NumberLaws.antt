-- Laws of T-01: which numbers are taken, and how the corners of IEEE 754 compare. Assumes nothing.
use Rattle.std.specs.Prelude.{◌≡◌, refl, ℕ, zero as none, suc, ◌+◌, ◌*◌, ◌%◌, ◌<◌, Bool, true, false, not, ◌&&◌, ◌||◌, List, [], ◌∷◌, ◌++◌, length, eqb, Float}
use Rattle.std.proofs.Common.{sym, ap₂, ◌∙◌, zero-mul, suc-mul, add-zero, zero-add, arith, ne_eqb, eq-eqb, lt-ltb, le-ltb, ltb-true}
use Rattle.std.proofs.lemmas.Bool.{false≢true}
use Rattle.std.specs.Float.{nan, inf, fin, binary32}
use Rattle.std.specs.Float.Ieee.{of_bits, lt, le, eq, ne, mul, div, up, down, level, below}
use Rattle.std.specs.Float.Ieee.Fits.{up_pos}
use Rattle.rows.specs.Rows.{any}
use Rattle.rows.specs.ListLaws.{both}
use Rattle.front.specs.declared.Gate.{Gate}
use Rattle.front.specs.declared.Gate.TheVariants.{Level, Share, Off}
use Rattle.front.specs.declared.Profile.{Profile}
use Rattle.front.specs.Front.{zero, one, energy, energies, level_of, level_taken, share_taken, gate_taken, taken_at, taken}

-- two comparisons of the machine tell an energy
pub energy_compared : (x : Float) → energy x ≡ (le zero x && lt x (div binary32 one zero))
unfolding energy le lt eq of_bits div
energy_compared nan = refl
energy_compared (inf true) = refl
energy_compared (inf false) = refl
energy_compared (fin true m e) = rw (zero-mul (down e)) (minus m (up e) (up_pos e))
  where
    minus : (m u : ℕ) → 0 < u → eqb m 0 ≡ (level false 0 true (m * u * 1) && true)
    minus none u h = rw (zero-mul u)
    minus (suc m) u h = rw (ne_eqb 0 (suc m * u * 1) (λ z. omega (arith, suc-mul m u)), ne_eqb (suc m) 0 (λ z. omega arith))
energy_compared (fin false m e) = rw (zero-mul (down e)) (plus (m * up e * 1))
  where
    plus : (b : ℕ) → true ≡ ((below false 0 false b || level false 0 false b) && true)
    plus none = refl
    plus (suc b) = rw (lt-ltb 0 (suc b) (omega arith))

-- ---- 13: "a NaN, an infinity, a number below zero", anywhere

-- the gate's level or share
abbrev pub gate_numbers : Gate → List Float
gate_numbers (Level l) = l ∷ []
gate_numbers (Share s) = s ∷ []
gate_numbers Off = []

-- every number that is handed in, the halves after the end too
abbrev pub handed_in : Profile → List Float → List Float
handed_in p h = h ++ (p.floor ∷ p.peak ∷ gate_numbers p.gate)

energies_append : (a b : List Float) → energies a ≡ true → energies b ≡ true → energies (a ++ b) ≡ true
unfolding energies
energies_append [] b p q = q
energies_append (x ∷ a) b p q = let e = both (energy x) (energies a) p in rw e.0 (energies_append a b e.1 q)

-- "a share not above 0 and at most 1" keeps out whatever is no energy
pub share_energy : (s l : Float) → share_taken s l ≡ true → energy s ≡ true
unfolding energy share_taken lt le eq of_bits
share_energy nan l t = absurd (false≢true t)
share_energy (inf true) l t = absurd (false≢true t)
share_energy (inf false) l t = absurd (false≢true t)
share_energy (fin true m e) l t = absurd (false≢true t)
share_energy (fin false m e) l t = refl

gate_energies : (g : Gate) (v : Float) → gate_taken g v ≡ true → energies (gate_numbers g) ≡ true
unfolding energies level_taken
gate_energies (Level l) v t = rw (both (energy l) (ne l zero) t).0
gate_energies (Share s) v t = rw (share_energy s v t)
gate_energies Off v t = refl

pub handed_energies : (p : Profile) (h : List Float) → taken p h ≡ true → energies (handed_in p h) ≡ true
unfolding taken_at energies
handed_energies p h t =
    let v = level_of p.gate p.peak in
    let g = both _ (gate_taken p.gate v) t in
    let k = both _ (energy p.peak) g.0 in
    let f = both _ (energy p.floor) k.0 in
    let e = both (eqb (length h % 2) 0) (energies h) f.0 in
    energies_append h _ e.1 (rw (f.1, k.1) (gate_energies p.gate v g.1))

any_wrong : (l : List Float) → any (λ x. not (energy x)) l ≡ true → energies l ≡ false
unfolding any energies
any_wrong [] e = absurd (false≢true e)
any_wrong (x ∷ l) e = go (energy x) e (any_wrong l)
  where
    go : (b : Bool) → (not b || any (λ x. not (energy x)) l) ≡ true → (any (λ x. not (energy x)) l ≡ true → energies l ≡ false) → (b && energies l) ≡ false
    go true e ih = ih e
    go false e ih = refl

-- one number that is no energy, wherever it stands, is 13
pub wrong_anywhere : (p : Profile) (h : List Float) → any (λ x. not (energy x)) (handed_in p h) ≡ true → taken p h ≡ false
wrong_anywhere p h e = go (taken p h) (handed_energies p h)
  where
    go : (b : Bool) → (b ≡ true → energies (handed_in p h) ≡ true) → b ≡ false
    go true k = absurd (false≢true (sym (any_wrong (handed_in p h) e) ∙ k refl))
    go false k = refl

pub nan_wrong : energy nan ≡ false
unfolding energy
nan_wrong = refl

pub infinity_wrong : (s : Bool) → energy (inf s) ≡ false
unfolding energy
infinity_wrong s = refl

pub below_zero_wrong : (x : Float) → lt x zero ≡ true → energy x ≡ false
unfolding energy lt of_bits
below_zero_wrong nan e = refl
below_zero_wrong (inf s) e = refl
below_zero_wrong (fin true none e) l = absurd (omega (arith, ltb-true 0 (0 * up e * 1 + 0 * down e) l, zero-mul (up e), zero-mul (down e)))
below_zero_wrong (fin true (suc m) e) l = ne_eqb (suc m) 0 (λ z. omega arith)
below_zero_wrong (fin false m e) l = absurd (omega (arith, ltb-true (m * up e * 1) (0 * down e) l, zero-mul (down e)))

-- ---- 13: the count of halves, the share, the level

no_and : (a b : Bool) → b ≡ false → (a && b) ≡ false
no_and true b h = h
no_and false b h = refl

-- "A lone last half is 13"
pub lone_wrong : (p : Profile) (h : List Float) → length h % 2 ≡ 1 → taken p h ≡ false
unfolding taken_at
lone_wrong p h e = rw (ne_eqb (length h % 2) 0 (λ z. omega arith))

-- a gate that is not taken
pub gate_wrong : (p : Profile) (h : List Float) → gate_taken p.gate (level_of p.gate p.peak) ≡ false → taken p h ≡ false
unfolding taken_at
gate_wrong p h e =
    no_and (eqb (length h % 2) 0 && energies h && energy p.floor && energy p.peak) (gate_taken p.gate (level_of p.gate p.peak)) e

-- "a share not above 0 and at most 1"
pub share_wrong : (s peak : Float) → (lt zero s && le s one) ≡ false → gate_taken (Share s) (level_of (Share s) peak) ≡ false
unfolding share_taken
share_wrong s peak e = rw e

-- "a level that comes out 0", as the product and as a fixed level
pub product_wrong : (s peak : Float) → ne (mul binary32 s peak) zero ≡ false → gate_taken (Share s) (level_of (Share s) peak) ≡ false
unfolding share_taken
product_wrong s peak e = no_and (lt zero s && le s one) (ne (mul binary32 s peak) zero) e

pub level_wrong : (l peak : Float) → ne l zero ≡ false → gate_taken (Level l) (level_of (Level l) peak) ≡ false
unfolding level_taken
level_wrong l peak e = no_and (energy l) (ne l zero) e

-- ---- comparisons of a number with itself, and of minus zero

pub lt_self : (x : Float) → lt x x ≡ false
unfolding lt
lt_self nan = refl
lt_self (inf true) = refl
lt_self (inf false) = refl
lt_self (fin true m e) = le-ltb (m * up e * down e) (m * up e * down e) (omega arith)
lt_self (fin false m e) = le-ltb (m * up e * down e) (m * up e * down e) (omega arith)

pub le_self : (x : Float) → energy x ≡ true → le x x ≡ true
unfolding energy le lt eq
le_self nan h = absurd (false≢true h)
le_self (inf s) h = absurd (false≢true h)
le_self (fin s m e) h = same s (m * up e * down e)
  where
    same : (s : Bool) (a : ℕ) → (below s a s a || level s a s a) ≡ true
    same true a = rw (eq-eqb a a refl, le-ltb a a (omega arith))
    same false a = rw (eq-eqb a a refl, le-ltb a a (omega arith))

-- "minus zero is zero": no comparison tells them apart

abbrev pub minus : Float
minus = of_bits binary32 0x80000000

below_minus : (s : Bool) (a z : ℕ) → z ≡ 0 → below s a true z ≡ below s a false z
below_minus true a z h = rw (h, add-zero)
below_minus false a z h = rw h (sym (le-ltb a 0 (omega arith)))

level_minus : (s : Bool) (a z : ℕ) → z ≡ 0 → level s a true z ≡ level s a false z
level_minus true none z h = rw h
level_minus false none z h = rw h
level_minus s (suc a) z h = rw (h, ne_eqb (suc a) 0 (λ e. omega arith))

minus_below : (s : Bool) (a z : ℕ) → z ≡ 0 → below true z s a ≡ below false z s a
minus_below true a z h = rw h (le-ltb a 0 (omega arith))
minus_below false a z h = rw (h, zero-add)

minus_level : (s : Bool) (a z : ℕ) → z ≡ 0 → level true z s a ≡ level false z s a
minus_level true a z h = rw h
minus_level false a z h = rw h

pub record AsZero (x : Float) : Type 0 where
  pub lt_minus : lt x minus ≡ lt x zero
  pub le_minus : le x minus ≡ le x zero
  pub minus_lt : lt minus x ≡ lt zero x
  pub minus_le : le minus x ≡ le zero x

pub as_zero : (x : Float) → AsZero x
unfolding le lt eq of_bits
as_zero nan = record { lt_minus = refl; le_minus = refl; minus_lt = refl; minus_le = refl }
as_zero (inf true) = record { lt_minus = refl; le_minus = refl; minus_lt = refl; minus_le = refl }
as_zero (inf false) = record { lt_minus = refl; le_minus = refl; minus_lt = refl; minus_le = refl }
as_zero (fin s m e) =
    let h : 0 * down e ≡ 0 = zero-mul (down e) in
    let a : ℕ = m * up e * 1 in
    record {
      lt_minus = below_minus s a (0 * down e) h;
      le_minus = ap₂ ◌||◌ (below_minus s a (0 * down e) h) (level_minus s a (0 * down e) h);
      minus_lt = minus_below s a (0 * down e) h;
      minus_le = ap₂ ◌||◌ (minus_below s a (0 * down e) h) (minus_level s a (0 * down e) h);
    }
