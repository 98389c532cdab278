-- `frame::within::is_wrong` meets its contract, by those of `is_clean`, `byte_at` and `odd_parity`: the bits of the byte that is read are the bits in the row. Assumes nothing.
use Rattle.std.proofs.Common.{◌≡◌, ◌+◌, ◌-◌, sym, ◌∙◌, true, take, drop, arith}
use Rattle.rows.specs.Rows.{clean}
use Rattle.frame.proofs.LoopLaws.{wrong_read}
use Rattle.frame.proofs.within.is_wrong.Goals as goal

pub returns-then-is_clean : goal.returns-then-is_clean
returns-then-is_clean c = let a = c.args in
    let e : a.at + 8 - a.at ≡ 8 = omega arith in
    let k : clean (take 8 (drop a.at a.row.now)) ≡ true = rw e at (sym c.is_clean.ensures ∙ c.if-is_clean.true) in
    sym (wrong_read a.row.now a.at _ _ (omega arith) k c.byte_at.ensures c.odd_parity.ensures)
