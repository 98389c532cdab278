use Rattle.std.proofs.Common.{◌≡◌, refl, sym, ap, ◌∙◌, arith, length, length-set, length-append, [], ◌∷◌, ◌<◌}
use Rattle.rows.proofs.RowLaws.{overlay_nil}
use Rattle.front.specs.Front.{row_at}
use Rattle.front.proofs.LoopLaws.{overlay_shift, row_length, row_ends, row_goes, row_done}
use Rattle.front.proofs.halves.write.Goals as goal

pub loop-i-init : goal.loop-i-init
loop-i-init c =
    let a = c.args in
    let i = c.into_iter-i-iterator in
    let rest : i.result.iter.rest.now ≡ a.halves.now = rw (i.ensures.into_iter_gives, c.enumerate-i-items.ensures.source) c.chunks_exact.ensures.rest in
    let zero : i.result.count ≡ 0 = rw (i.ensures.into_iter_gives) c.enumerate-i-items.ensures.count in
    record {
      pairs = rw (i.ensures.into_iter_gives, c.enumerate-i-items.ensures.source) c.chunks_exact.ensures.size;
      taken = omega (arith, zero, ap length rest);
      room = refl;
      count = omega (arith, zero, ap (λ h. length (row_at a.level a.floor h)) rest);
      written = rw (zero, rest) refl;
    }

pub returns-then-is_end : goal.returns-then-is_end
returns-then-is_end c =
    let a = c.args in
    let l = c.loop-i in
    let s = c.in-Some.ensures.steps in
    let e : row_at a.level a.floor l.i-iterator.iter.rest.now ≡ [] =
    ap (row_at a.level a.floor) s.0.1.0
    ∙ row_ends a.level a.floor c.in-Some.pair.now _ (s.0.1.1 ∙ l.invariant.pairs) c.is_loaded-first.ensures c.is_loaded-second.ensures (sym c.is_end.ensures ∙ c.if-is_end.true) in
    record {
      value = omega (arith, s.1, l.invariant.count, ap length e);
      places_after = sym (overlay_nil l.places l.i-iterator.count) ∙ (rw e at l.invariant.written);
    }

pub loop-i-preserved : goal.loop-i-preserved
loop-i-preserved c =
    let a = c.args in
    let l = c.loop-i in
    let v = l.invariant in
    let s = c.in-Some.ensures.steps in
    let rest = row_at a.level a.floor c.next.new.self.iter.rest.now in
    let e : row_at a.level a.floor l.i-iterator.iter.rest.now ≡ c.bit_of.result ∷ rest =
    ap (row_at a.level a.floor) s.0.1.0
    ∙ rw c.bit_of.ensures (row_goes a.level a.floor c.in-Some.pair.now _ (s.0.1.1 ∙ v.pairs) c.is_loaded-first.ensures c.is_loaded-second.ensures (sym c.is_end.ensures ∙ c.if-is_end.false)) in
    record {
      pairs = s.0.0 ∙ v.pairs;
      taken = omega (arith, v.taken, s.2, ap length s.0.1.0 ∙ length-append c.in-Some.pair.now _, s.0.1.1, v.pairs);
      room = simp length-set v.room;
      count = omega (arith, v.count, s.2, ap length e);
      written = rw (s.1, s.2) (overlay_shift l.places l.i-iterator.count c.bit_of.result rest (omega (arith, v.count, ap length e, row_length a.level a.floor a.halves.now, v.room, c.requires)) ∙ (rw e at v.written));
    }

pub returns : goal.returns
returns c =
    let a = c.args in
    let l = c.loop-i in
    let v = l.invariant in
    let few : length l.i-iterator.iter.rest.now < l.i-iterator.iter.size = c.in-None.ensures.steps.0.1.0 in
    let e : row_at a.level a.floor l.i-iterator.iter.rest.now ≡ [] = row_done a.level a.floor _ (omega (arith, few, v.pairs)) in
    record {
      value = omega (arith, v.taken, v.count, ap length e, few, v.pairs);
      places_after = sym (overlay_nil l.places l.i-iterator.count) ∙ (rw e at v.written);
    }
