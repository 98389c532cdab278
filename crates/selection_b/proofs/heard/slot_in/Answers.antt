-- `selection_b::heard::slot_in` meets its contract: the definition has the same tests. Assumes nothing.
use mathlib.Core.Path.{◌≡◌, sym, ap, ◌∙◌}
use Rattle.rows.proofs.RowLaws.{overlay_all}
use native.Mathlib.Omega.{arith}
use Prim.Native.Nat.{ℕ}
use lib.ListN.{length, length-take, replicate, take}
use Rattle.frame.specs.ByteLaws.{length_bytes}
use Rattle.selection_b.specs.HeardBLaws.{bytes_whole, slot_crc, slot_forbidden, slot_one}
use Rattle.selection_b.proofs.heard.slot_in.Goals as goal

pub returns-then-not-is_good_b : goal.returns-then-not-is_good_b
returns-then-not-is_good_b c = c.nobody.ensures ∙ slot_crc _ _ (bytes_whole 14 _ _ c.bytes_of.ensures) (sym c.is_good_b.ensures ∙ c.if-not-is_good_b.true)

pub returns-then-held-ne80 : goal.returns-then-held-ne80
returns-then-held-ne80 c = let e = bytes_whole 14 _ _ c.bytes_of.ensures in
    c.nobody-then-held-ne80.ensures ∙ slot_forbidden _ _ e (ap length e ∙ length_bytes 14 _) (sym c.is_good_b.ensures ∙ c.if-not-is_good_b.false) c.if-held-ne80.true

pub slice_bounds-put-end-2 : goal.slice_bounds-put-end-2
slice_bounds-put-end-2 c = let e = bytes_whole 14 _ _ c.bytes_of.ensures in
    rw length-take (omega (arith, ap length e ∙ length_bytes 14 _))

pub put-requires : goal.put-requires
put-requires c = let e = bytes_whole 14 _ _ c.bytes_of.ensures in
    rw length-take (omega (arith, ap length e ∙ length_bytes 14 _))

pub returns : goal.returns
returns c =
    let e = bytes_whole 14 _ _ c.bytes_of.ensures in
    let held = c.bytes_of.new.out in
    let twelve : length {A = ℕ} (replicate 12 0) ≡ length (take 12 held) = rw length-take (omega (arith, ap length e ∙ length_bytes 14 _)) in
    slot_one _ _ e (ap length e ∙ length_bytes 14 _) (sym c.is_good_b.ensures ∙ c.if-not-is_good_b.false) c.if-held-ne80.false _
    (c.put.ensures ∙ overlay_all (replicate 12 0) (take 12 held) twelve)
