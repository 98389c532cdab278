-- `air_log::within::put_heard` meets its contract, kind by kind. Assumes nothing.
use borrow.Author.Tests.{eqb-true, eqb-false}
use lib.ListN.{length}
use Prim.Native.Nat.{◌<◌}
use mathlib.Core.Path.{sym, ◌∙◌}
use native.Mathlib.Omega.{arith}
use Rattle.air_log.specs.Log.{tick_bytes}
use Rattle.air_log.proofs.RecordLaws.{length_tick, heard_silent, heard_clean, length_heard_silent, length_heard_clean, length_heard_collided, marks_written}
use Rattle.air_log.proofs.within.put_heard.Goals as goal

pub put_row-requires : goal.put_row-requires
put_row-requires c = let a = c.args in
    (omega arith, omega (arith, length_heard_silent (tick_bytes a.tick) a.row.now (eqb-true _ _ (sym c.is_empty.ensures ∙ c.if-is_empty.true)), length_tick a.tick))

pub returns-then-is_empty : goal.returns-then-is_empty
returns-then-is_empty c = let a = c.args in
    let p = c.put_row in
    let e = (eqb-true _ _ (sym c.is_empty.ensures ∙ c.if-is_empty.true)) in record { value = omega (arith, p.ensures.value, length_heard_silent (tick_bytes a.tick) a.row.now e, length_tick a.tick); out_after = rw (heard_silent (tick_bytes a.tick) a.row.now e) p.ensures.out_after }

pub put_row-requires-then-is_clean : goal.put_row-requires-then-is_clean
put_row-requires-then-is_clean c = let a = c.args in
    (omega arith, omega (arith, length_heard_clean (tick_bytes a.tick) a.row.now (sym c.is_clean.ensures ∙ c.if-is_clean.true), length_tick a.tick))

pub returns-then-is_clean : goal.returns-then-is_clean
returns-then-is_clean c = let a = c.args in
    let p = c.put_row-then-is_clean in
    let e = sym c.is_clean.ensures ∙ c.if-is_clean.true in
    let some : 0 < length a.row.now = omega (arith, eqb-false _ _ (sym c.is_empty.ensures ∙ c.if-is_empty.false)) in record { value = omega (arith, p.ensures.value, length_heard_clean (tick_bytes a.tick) a.row.now e, length_tick a.tick); out_after = rw (heard_clean (tick_bytes a.tick) a.row.now some e) p.ensures.out_after }

pub put_row-first-requires : goal.put_row-first-requires
put_row-first-requires c = let a = c.args in
    (omega arith, omega (arith, length_heard_collided (tick_bytes a.tick) a.row.now (sym c.is_clean.ensures ∙ c.if-is_clean.false), length_tick a.tick))

pub put_packed-requires : goal.put_packed-requires
put_packed-requires c = let a = c.args in
    let p = c.put_row-first in
    omega (arith, p.ensures.value, p.auto.out, length_tick a.tick, length_heard_collided (tick_bytes a.tick) a.row.now (sym c.is_clean.ensures ∙ c.if-is_clean.false))

pub returns : goal.returns
returns c = let a = c.args in
    let p = c.put_row-first in
    let e = sym c.is_clean.ensures ∙ c.if-is_clean.false in record { value = omega (arith, p.ensures.value, length_heard_collided (tick_bytes a.tick) a.row.now e, length_tick a.tick); out_after = rw (c.put_packed.ensures, p.ensures.out_after) (marks_written a.out.now a.at (tick_bytes a.tick) a.row.now p.result e (omega (arith, p.ensures.value, length_tick a.tick)) (omega arith)) }
