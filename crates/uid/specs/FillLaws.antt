-- Laws of a row filled with zeros, and of a UID made so. Assumes nothing.
use Rattle.std.specs.Prelude.{◌≡◌, ℕ, zero, suc, ◌-◌, List, drop, replicate}
use Rattle.std.proofs.Common.{ap, ◌∙◌, zero-add, arith}
use Rattle.rows.specs.Rows.{overlay, fill}
use Rattle.uid.specs.Calls.{sized}
use Rattle.uid.specs.declared.Uid.{Uid}
use Rattle.uid.specs.declared.UidSize.{UidSize}

drop_replicate : (k n : ℕ) → ◌≡◌ {A = List ℕ} (drop k (replicate n 0)) (replicate (n - k) 0)
drop_replicate zero n = let e : n - 0 ≡ n = omega arith in rw e
drop_replicate (suc k) zero = let e : 0 - suc k ≡ 0 = omega arith in rw e
drop_replicate (suc k) (suc n) = let e : suc n - suc k ≡ n - k = omega arith in rw e (drop_replicate k n)

-- a row written over zeros
pub fill_zeros : (n : ℕ) (l : List ℕ) → overlay (replicate n 0) 0 l ≡ fill n l
unfolding overlay fill
fill_zeros n l = rw (zero-add, drop_replicate)

pub sized_made : (z : UidSize) (l t : List ℕ) → t ≡ overlay (replicate 10 0) 0 l → ◌≡◌ {A = Uid} (record { size = z; bytes = t }) (sized z l)
sized_made z l t e = ap (λ (b : List ℕ). record { size = z; bytes = b }) (e ∙ fill_zeros 10 l)
