-- `selection_b::taken::is_attrib` meets its contract: only a clean row of 88 bits can be ATTRIB. Assumes nothing.
use mathlib.Core.Path.{◌≡◌, sym, ap, ◌∙◌}
use Prim.Native.Nat.{◌-◌}
use lib.ListN.{length, length-take, length-drop}
use native.Mathlib.Omega.{arith}
use Rattle.rows.specs.HeardLaws.{clean_take, clean_drop}
use Rattle.rows.specs.Rows.{same}
use Rattle.selection_b.specs.TypeB.{attrib}
use Rattle.selection_b.specs.TakenB.{is_attrib}
use Rattle.selection_b.proofs.TypeBLaws.{attrib_length}
use Rattle.selection_b.proofs.SentBLaws.{attrib_clean, parameters_are}
use borrow.Author.Rules.{rules}
use Rattle.selection_b.proofs.taken.is_attrib.Goals as goal
use Rattle.selection_b.proofs.taken.is_attrib.Goals.{then-row-ne88-via-then-row-ne88, then-row-ne88-via-else-row-ne88+then-not-is_clean}

pub returns-then-row-ne88 : goal.returns-then-row-ne88
returns-then-row-ne88 c =
    let a = c.args in
    let n : length a.pupi ≡ 4 = search rules in
    elim c.then-row-ne88.branch [
      | then-row-ne88-via-then-row-ne88 w ↦ sym (attrib_length a.pupi a.row.now n w.if-row-ne88.true)
      | then-row-ne88-via-else-row-ne88+then-not-is_clean w ↦ sym (attrib_clean _ _ (sym w.is_clean.ensures ∙ w.if-not-is_clean.true))
    ]

pub bytes_of-requires : goal.bytes_of-requires
bytes_of-requires c = let l : length c.args.row.now ≡ 88 = c.if-row-ne88.false in
    (rw (length-take, length-drop) (omega arith), omega arith, clean_take (length c.args.row.now - 40) _ (clean_drop 40 _ (sym c.is_clean.ensures ∙ c.if-not-is_clean.false)))

pub returns : goal.returns
unfolding is_attrib
returns c = let a = c.args in
    let f = a.row.now in
    c.is_same.ensures ∙ ap (same f) (c.attrib.ensures ∙ ap (attrib a.pupi) (parameters_are f _ c.if-row-ne88.false c.bytes_of.ensures))
