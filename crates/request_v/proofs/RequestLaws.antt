-- Laws for the code that reads a request. Assumes nothing.
use Rattle.std.specs.Prelude.{◌≡◌, Bool, true, false, cond, not, ◌&&◌, List, [], ◌∷◌, eqb, leb}
use Prim.Native.Nat.{ℕ, ◌+◌, ◌/◌, ◌≤◌, ◌<◌}
use native.Mathlib.Omega.{arith}
use borrow.Author.Tests.{ne_eqb, eqb-true, leb-true, ltb-false}
use Rattle.std.specs.List.{list_any}
use Rattle.std.proofs.Math.Path.{refl}
use Rattle.rows.specs.Rows.{any}
use Rattle.rows.specs.ListLaws.{both}
use Rattle.frame_v.specs.FrameV.{bytes_in}
use Rattle.request_v.specs.Flags.{is_quiet, is_selected}
use Rattle.request_v.specs.Inventory.{length_at, most_mask, is_inventory, matching}
use Rattle.request_v.specs.Request.{absent, is_own, meant, parameters_at}
use Rattle.request_v.specs.declared.Tag.{Tag}
use Rattle.request_v.specs.declared.Flags.{Flags}

-- ---- the locks of the named blocks

-- the test of the definition is the library's
pub any_is : (f : ℕ → Bool) (l : List ℕ) → any f l ≡ list_any f l
unfolding any
any_is f [] = refl
any_is f (x ∷ l) = rw (any_is f l)

-- ---- what tests tell

pub inventory_fits : (q : Flags) (code n len : ℕ) → is_inventory q code n len ≡ true → (len ≤ most_mask q.sixth) × (n ≡ length_at q + 1 + (len + 7) / 8)
unfolding is_inventory
inventory_fits q code n len e =
    let w : Bool = eqb n (length_at q + 1 + (len + 7) / 8) in
    let a = both (eqb code 0x01) (not q.option && (leb len (most_mask q.sixth) && w)) e in
    let b = both (not q.option) (leb len (most_mask q.sixth) && w) a.1 in
    let d = both (leb len (most_mask q.sixth)) w b.1 in
    (leb-true len (most_mask q.sixth) d.0, eqb-true n (length_at q + 1 + (len + 7) / 8) d.1)

pub mask_64 : (one : Bool) (len : ℕ) → len ≤ most_mask one → len ≤ 64
mask_64 true len h = h
mask_64 false len h = omega arith

pub not_absent : (blocks a n : ℕ) → absent blocks a n ≡ false → 0 < n → a + n ≤ blocks
unfolding absent
not_absent blocks a n e h = ltb-false blocks (a + n) (rw (ne_eqb n 0 (λ z. omega arith)) at e)

-- a tag that is meant by its UID holds it in a row that has one
pub meant_long : (t : Tag) (q : Flags) (f : List ℕ) → 2 ≤ bytes_in f → meant t q f ≡ true → parameters_at q ≤ bytes_in f
unfolding meant is_own
meant_long t q f h e = go q.sixth e
  where
    go : (s : Bool) → cond s (leb 10 (bytes_in f) && matching t.uid f 16 64) (cond q.fifth (is_selected t.state) (not (is_quiet t.state))) ≡ true
        → cond s 10 2 ≤ bytes_in f
    go true e = leb-true 10 (bytes_in f) (both (leb 10 (bytes_in f)) (matching t.uid f 16 64) e).0
    go false e = h
