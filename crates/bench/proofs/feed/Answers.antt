-- `bench::feed` meets its contract. Assumes nothing.
use borrow.Author.Tests.{lt-ltb, le-ltb, eq-eqb, ne_eqb}
use Rattle.rows.proofs.RowLaws.{overlay_one}
use Rattle.bench.specs.Lines.{fed, fed_bytes}
use Rattle.bench.proofs.feed.Goals as goal

pub returns-then-b-eq10 : goal.returns-then-b-eq10
unfolding fed fed_bytes
returns-then-b-eq10 c = record { value = simp (eq-eqb _ _ c.if-b-eq10.true); bytes_after = simp (eq-eqb _ _ c.if-b-eq10.true) }

pub returns-then-length-bytes : goal.returns-then-length-bytes
unfolding fed fed_bytes
returns-then-length-bytes c = let n = ne_eqb _ _ c.if-b-eq10.false in
    let t = lt-ltb _ _ c.if-length-bytes.true in
    let a = c.args in record { value = simp (n, t); bytes_after = simp (n, t) (overlay_one a.bytes.now a.line.length a.b c.if-length-bytes.true) }

pub returns-else-length-bytes : goal.returns-else-length-bytes
unfolding fed fed_bytes
returns-else-length-bytes c = record { value = simp (ne_eqb _ _ c.if-b-eq10.false, le-ltb _ _ c.if-length-bytes.false); bytes_after = simp (ne_eqb _ _ c.if-b-eq10.false, le-ltb _ _ c.if-length-bytes.false) }
