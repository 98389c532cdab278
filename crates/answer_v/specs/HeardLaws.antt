-- Laws for the code that reads what the reader hears. Assumes nothing.
use Rattle.std.specs.Prelude.{◌≡◌, refl, ℕ, ◌-◌, ◌/◌, ◌%◌, ◌≤◌, Bool, true, false, ◌&&◌, ◌||◌, List, length, take, drop, replicate, eqb, leb}
use Rattle.std.proofs.Common.{sym, ap, ◌∙◌, arith, length-drop, take_all, eqb-true, leb-true}
use Rattle.rows.specs.ListLaws.{both}
use Rattle.rows.specs.Rows.{overlay}
use Rattle.rows.proofs.RowLaws.{overlay_all}
use Rattle.frame.specs.Frame.{bytes_of}
use Rattle.frame.specs.ByteLaws.{length_bytes}
use Rattle.answer_v.specs.Heard.{fitting, is_length}

-- an awaited length is one of whole bytes, three at least
pub length_whole : (reads : Bool) (count : ℕ) (status : Bool) (n : ℕ) → is_length reads count status n ≡ true → (n % 8 ≡ 0) × (24 ≤ n)
unfolding is_length
length_whole reads count status n e = go (eqb n 32) refl e
  where
    go : (b : Bool) → eqb n 32 ≡ b → (b || eqb (n % 8) 0 && (leb 24 n && fitting reads count status (n / 8 - 3))) ≡ true → (n % 8 ≡ 0) × (24 ≤ n)
    go true h e = let z = eqb-true n 32 h in (rw z, omega arith)
    go false h e =
        let a = both (eqb (n % 8) 0) (leb 24 n && fitting reads count status (n / 8 - 3)) e in
        (eqb-true (n % 8) 0 a.0, leb-true 24 n (both (leb 24 n) (fitting reads count status (n / 8 - 3)) a.1).0)

-- the eight bytes of a UID, read from the part of a row behind its first two
pub uid_read : (h u : List ℕ) → length h ≡ 96 → u ≡ overlay (replicate 8 0) 0 (bytes_of 8 (take (length h - 16) (drop 16 h))) → u ≡ bytes_of 8 (drop 16 h)
uid_read h u n e =
    let t : take (length h - 16) (drop 16 h) ≡ drop 16 h = take_all (length h - 16) (drop 16 h) (rw length-drop (omega arith)) in
    e ∙ overlay_all (replicate 8 0) _ (sym (length_bytes 8 _)) ∙ ap (bytes_of 8) t
