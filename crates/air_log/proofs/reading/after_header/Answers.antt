-- `air_log::reading::after_header` meets its contract. Assumes nothing.
use Rattle.std.proofs.Common.{◌≡◌, ap₂, ◌∙◌, arith, eq-eqb, ne_eqb, lt-ltb, le-ltb}
use Rattle.air_log.specs.Reading.{after_header, kind_of, bit_count, rows_size, record_of}
use Rattle.air_log.specs.UnpackLaws.{size_most}
use Rattle.air_log.proofs.reading.after_header.Goals as goal

pub overflow_add-start : goal.overflow_add-start
overflow_add-start c = let a = c.args in
    let n : c.from_be_bytes-n.result ≡ bit_count a.a a.b = omega (arith, c.from_be_bytes-n.ensures) in
    omega (arith, c.rows_size.ensures, ap₂ rows_size c.kind_of-kind.ensures n, size_most (kind_of a.a) (bit_count a.a a.b))

pub returns-then-log-start : goal.returns-then-log-start
unfolding after_header
returns-then-log-start c = let a = c.args in
    let n : c.from_be_bytes-n.result ≡ bit_count a.a a.b = omega (arith, c.from_be_bytes-n.ensures) in
    rw (lt-ltb _ _ (rw (c.rows_size.ensures ∙ ap₂ rows_size c.kind_of-kind.ensures n) at c.if-log-start.true))

pub returns-then-a-eq1 : goal.returns-then-a-eq1
unfolding after_header
returns-then-a-eq1 c = let a = c.args in
    let n : c.from_be_bytes-n.result ≡ bit_count a.a a.b = omega (arith, c.from_be_bytes-n.ensures) in
    rw (le-ltb _ _ (rw (c.rows_size.ensures ∙ ap₂ rows_size c.kind_of-kind.ensures n) at c.if-log-start.false), eq-eqb _ _ c.if-a-eq1.true)

pub returns : goal.returns
unfolding after_header
returns c = let a = c.args in
    let n : c.from_be_bytes-n.result ≡ bit_count a.a a.b = omega (arith, c.from_be_bytes-n.ensures) in
    rw (
      le-ltb _ _ (rw (c.rows_size.ensures ∙ ap₂ rows_size c.kind_of-kind.ensures n) at c.if-log-start.false),
      ne_eqb _ _ c.if-a-eq1.false,
      c.record_of.ensures ∙ ap₂ (record_of a.log.now a.start) c.kind_of-kind.ensures n,
    )
