-- Laws of the calls that read: what their answer says of the verdict, and where the bytes stand. Assumes nothing.
use Rattle.std.specs.Prelude.{◌≡◌, ℕ, ◌-◌, ◌≤◌, Bool, true, false, cond, List, length, take, ltb, Result, Ok, Err}
use Rattle.std.proofs.Common.{sym, ap, ◌∙◌, length-take-le, take-take, le-ltb, arith}
use Rattle.rows.specs.Rows.{overlay}
use Rattle.rows.proofs.RowLaws.{overlay_front}
use Rattle.crc.specs.Crc.{crc_good}
use Rattle.refusal.specs.declared.Refusal.{Refusal}
use Rattle.refusal.specs.declared.Refusal.TheVariants.{Room}
use Rattle.frame.specs.Frame.{data_of, bytes_of, first_wrong, without_crc, Verdict, Good, Fault}
use Rattle.frame.proofs.WrongLaws.{first_most}
use Rattle.frame.specs.ByteLaws.{length_bytes}
use Rattle.frame.specs.Calls.{received, read_answer, good_bytes, bytes_after}

-- held bytes that end with their CRC_A, without it
pub held_good : (d : List ℕ) (n : ℕ) → n ≤ length d → crc_good (take n d) ≡ true → without_crc (take n d) ≡ Good (take (n - 2) d)
unfolding without_crc crc_good
held_good d n h g = rw (g, length-take-le n d h, take-take (n - 2) n d (omega arith))

-- bytes that were read up to the first wrong one, where none is wrong: all of them, at the front of where they were put
pub held_sound : (d h r : List ℕ) (n p : ℕ) → p ≡ first_wrong n r → n ≤ p → h ≡ overlay d 0 (bytes_of p (data_of p r)) → take n h ≡ bytes_of n (data_of n r)
held_sound d h r n p e l k =
    let m : p ≡ n = omega (arith, first_most n r) in
    let b : List ℕ = bytes_of n (data_of n r) in
    rw (k, m) (rw (length_bytes n (data_of n r)) at (overlay_front d b))

pub read_room : (room : ℕ) (v : Verdict) → 256 ≤ room → read_answer room v ≡ received v
unfolding read_answer
read_room room v h = rw (le-ltb room 256 h)

pub refused_verdict : (room : ℕ) (v : Verdict) (r : Result ℕ Refusal) (e : Refusal) → 256 ≤ room → r ≡ read_answer room v → r ≡ Err e → v ≡ Fault e
refused_verdict room v r e h a k = go v (sym (read_room room v h) ∙ sym a ∙ k)
  where
    go : (v : Verdict) → received v ≡ Err e → v ≡ Fault e
    go (Good l) k = absurd (let z : ◌≡◌ {A = ℕ} 0 1 = cc in omega arith)
    go (Fault f) k = cc

-- bytes that were read stand at the front of where they were put
pub read_verdict : (room : ℕ) (v : Verdict) (r : Result ℕ Refusal) (n : ℕ) (d d' : List ℕ) → r ≡ read_answer room v → r ≡ Ok n → d' ≡ bytes_after r v d
    → (v ≡ Good (take n d')) × (length (take n d') ≡ n)
unfolding read_answer
read_verdict room v r n d d' a k m = go (ltb room 256) v (sym a ∙ k) (m ∙ ap (λ q. bytes_after q v d) k)
  where
    go : (b : Bool) (v : Verdict) → cond b (Err Room) (received v) ≡ Ok n → d' ≡ overlay d 0 (good_bytes v)
        → (v ≡ Good (take n d')) × (length (take n d') ≡ n)
    go true v k m = absurd (let z : ◌≡◌ {A = ℕ} 0 1 = cc in omega arith)
    go false (Fault f) k m = absurd (let z : ◌≡◌ {A = ℕ} 0 1 = cc in omega arith)
    go false (Good l) k m =
        let q : length l ≡ n = cc in
        let t : take n d' ≡ l = rw (m, ← q) (overlay_front d l) in
        (rw t, rw t q)
