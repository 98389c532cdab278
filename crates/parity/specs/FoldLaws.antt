-- T-02: parity by halving. A number of 2n bits has as odd a number of ones as the exclusive-or of its two halves has. Over the width.
-- Assumes nothing.
use Rattle.std.specs.Prelude.{◌≡◌, refl, ℕ, zero, suc, ◌+◌, ◌/◌, ◌%◌, ◌^◌}
use Rattle.std.proofs.Common.{sym, ap, ◌∙◌, zero-add, suc-add, div-one, arith}
use Rattle.std.proofs.Math.Nat.{div-div-eq-div-mul, pow-succ'}
use Rattle.std.specs.Int.Bits.{bit_xor, xor_add_and}
use Rattle.std.proofs.lemmas.Nat.{xor_shr}
use Rattle.parity.specs.Bits.{bits_of, ones}

xor_last : (a b : ℕ) → bit_xor a b % 2 ≡ (a % 2 + b % 2) % 2
xor_last a b = omega (arith, xor_add_and a b)

-- sums of pairs, modulo 2
paired : (x y a b s t : ℕ) → s ≡ (x + y) % 2 → t % 2 ≡ (a + b) % 2 → (s + t) % 2 ≡ (x + a + (y + b)) % 2
paired x y a b s t e f = omega arith

-- the ones of two numbers sent through an exclusive-or: those that meet go out in pairs
ones_xor : (n a b : ℕ) → ones (bits_of n (bit_xor a b)) % 2 ≡ (ones (bits_of n a) + ones (bits_of n b)) % 2
unfolding ones bits_of
ones_xor zero a b = refl
ones_xor (suc n) a b =
    rw (xor_shr a b 1) (paired (a % 2) (b % 2) (ones (bits_of n (a / 2))) (ones (bits_of n (b / 2))) (bit_xor a b % 2) (ones (bits_of n (bit_xor (a / 2) (b / 2)))) (xor_last a b) (ones_xor n (a / 2) (b / 2)))

-- the first n bits of a number, and those behind them
ones_split : (n m x : ℕ) → ones (bits_of (n + m) x) ≡ ones (bits_of n x) + ones (bits_of m (x / 2 ^ n))
unfolding ones bits_of
ones_split zero m x = rw (zero-add m, div-one x) (sym (zero-add (ones (bits_of m x))))
ones_split (suc n) m x =
    let e : x / 2 ^ suc n ≡ x / 2 / 2 ^ n = ap (◌/◌ x) (pow-succ' 2 n) ∙ sym (div-div-eq-div-mul x 2 (2 ^ n)) in
    rw (suc-add n m, e) (omega (arith, ones_split n m (x / 2)))

-- one half folded onto the other
pub halved : (n x : ℕ) → ones (bits_of (n + n) x) % 2 ≡ ones (bits_of n (bit_xor x (x / 2 ^ n))) % 2
halved n x = rw (ones_split n n x) (sym (ones_xor n x (x / 2 ^ n)))

-- the last bit that is left
pub one_left : (x : ℕ) → ones (bits_of 1 x) ≡ x % 2
unfolding ones bits_of
one_left x = omega arith
