-- Document 02, T-05: "admitted by the request's AFI", as a table of cases: what is asked, and the card's own AFI. Assumes nothing.
use Rattle.std.specs.Prelude.{◌≡◌, refl, ◌≢◌, ℕ, ◌+◌, ◌*◌, ◌/◌, ◌%◌, ◌≤◌, ◌<◌, Bool, true, false, ◌||◌, ◌&&◌, eqb}
use Rattle.std.proofs.Common.{eq-eqb, ne_eqb, arith}
use Rattle.rows.specs.CleanLaws.{eqb_same}
use Rattle.selection_b.specs.TakenB.{admits}

pub record AfiTable : Type 0 where
  -- 00 admits every card
  pub every : (own : ℕ) → admits 0x00 own ≡ true
  -- X0 every card of family X, and no other
  pub family : (x y : ℕ) → y < 16 → admits (16 * x) (16 * x + y) ≡ true
  pub family_only : (x z y : ℕ) → 1 ≤ x → x ≢ z → y < 16 → admits (16 * x) (16 * z + y) ≡ false
  -- XY and 0Y the card with that AFI, and no other
  pub one : (own : ℕ) → admits own own ≡ true
  pub one_only : (asked own : ℕ) → asked % 16 ≢ 0 → asked ≢ own → admits asked own ≡ false

every_card : (own : ℕ) → admits 0x00 own ≡ true
unfolding admits
every_card own = refl

same_family : (x y : ℕ) → y < 16 → admits (16 * x) (16 * x + y) ≡ true
unfolding admits
same_family x y h = rw (eq-eqb (16 * x % 16) 0 (omega arith), eq-eqb (16 * x / 16) ((16 * x + y) / 16) (omega arith)) (go (eqb (16 * x) 0x00) (eqb (16 * x) (16 * x + y)))
  where
    go : (a b : Bool) → (a || b || true) ≡ true
    go true b = refl
    go false true = refl
    go false false = refl

other_family : (x z y : ℕ) → 1 ≤ x → x ≢ z → y < 16 → admits (16 * x) (16 * z + y) ≡ false
unfolding admits
other_family x z y a n h =
    rw (
      ne_eqb (16 * x) 0x00 (λ e. omega arith),
      ne_eqb (16 * x) (16 * z + y) (λ e. n (omega arith)),
      eq-eqb (16 * x % 16) 0 (omega arith),
      ne_eqb (16 * x / 16) ((16 * z + y) / 16) (λ e. n (omega arith)),
    )

own_one : (own : ℕ) → admits own own ≡ true
unfolding admits
own_one own = rw (eqb_same own) (go (eqb own 0x00) (eqb (own % 16) 0 && eqb (own / 16) (own / 16)))
  where
    go : (a b : Bool) → (a || true || b) ≡ true
    go true b = refl
    go false b = refl

other_one : (asked own : ℕ) → asked % 16 ≢ 0 → asked ≢ own → admits asked own ≡ false
unfolding admits
other_one asked own m n = rw (ne_eqb asked 0x00 (λ e. m (omega arith)), ne_eqb asked own n, ne_eqb (asked % 16) 0 m)

pub afi_table : AfiTable
afi_table = record { every = every_card; family = same_family; family_only = other_family; one = own_one; one_only = other_one }
