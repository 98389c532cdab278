-- Laws of the found list's entries. Assumes nothing.
use Rattle.std.specs.Prelude.{◌≡◌, ℕ, ◌≤◌, List, ◌∷◌, length, take, replicate}
use Rattle.std.proofs.Common.{zero-add, add_comm, add-one, arith, length-take-le}
use Rattle.rows.specs.Rows.{overlay}
use Rattle.uid.specs.Uid.{byte_count, uid_bytes}
use Rattle.uid.specs.FillLaws.{fill_zeros}
use Rattle.uid.specs.declared.Uid.{Uid}
use Rattle.air_log.specs.Log.{entry_bytes}

-- a row written from the second place on
overlay_behind : (n : ℕ) (d s : List ℕ) → overlay (n ∷ d) 1 s ≡ n ∷ overlay d 0 s
unfolding overlay
overlay_behind n d s = rw (add_comm 1 (length s), add-one, zero-add)

-- the length, and then the bytes over ten zeros
pub entry_made : (u : Uid) (n : ℕ) (e : List ℕ) → length u.bytes ≡ 10 → n ≤ 10 → n ≡ byte_count u.size
    → e ≡ overlay (n ∷ replicate 10 0) 1 (take n u.bytes) → e ≡ entry_bytes (uid_bytes u)
unfolding entry_bytes uid_bytes
entry_made u n e l h p q =
    let k : length (take n u.bytes) ≡ n = length-take-le n u.bytes (omega arith) in
    rw (q, overlay_behind, fill_zeros 10 (take n u.bytes), ← p, k)
