-- `frame::within::read_within` meets its contract: the definition has the same tests, in the same order. Assumes nothing.
use lib.ListN.{length, length-take}
use mathlib.Core.Path.{refl, sym, ap, ◌∙◌}
use borrow.Author.Tests.{lt-ltb, le-ltb}
use native.Mathlib.Omega.{arith}
use Rattle.rows.specs.Rows.{overlay}
use Rattle.frame.proofs.CallLaws.{held_sound}
use Rattle.frame.specs.Frame.{read_frame}
use Rattle.frame.specs.Calls.{read_answer}
use Rattle.frame.proofs.FrameLaws.{whole_size, read_good}
use Rattle.frame.proofs.WrongLaws.{found_wrong, found_none}
use Rattle.frame.specs.ByteLaws.{length_bytes}
use Rattle.frame.proofs.within.read_within.Goals as goal

pub returns-then-out-lt-MOST_BYTES : goal.returns-then-out-lt-MOST_BYTES
unfolding read_answer
returns-then-out-lt-MOST_BYTES c = record { value = simp (lt-ltb _ _ c.if-out-lt-MOST_BYTES.true); out_after = refl }

pub returns-then-not-is_whole : goal.returns-then-not-is_whole
unfolding read_answer read_frame
returns-then-not-is_whole c = record { value = simp (le-ltb _ _ c.if-out-lt-MOST_BYTES.false, sym c.is_whole.ensures ∙ c.if-not-is_whole.true); out_after = refl }

pub returns-then-not-is_clean : goal.returns-then-not-is_clean
unfolding read_answer read_frame
returns-then-not-is_clean c = record { value = simp (le-ltb _ _ c.if-out-lt-MOST_BYTES.false, sym c.is_whole.ensures ∙ c.if-not-is_whole.false, sym c.is_clean.ensures ∙ c.if-not-is_clean.true); out_after = refl }

pub sound_bytes-p-requires : goal.sound_bytes-p-requires
sound_bytes-p-requires c = let a = c.args in
    let w = whole_size a.least a.most (length a.row.now) (sym c.is_whole.ensures ∙ c.if-not-is_whole.false) in
    (omega arith, omega (arith, w.2), sym c.is_clean.ensures ∙ c.if-not-is_clean.false)

pub overflow_cast-result : goal.overflow_cast-result
overflow_cast-result c = let a = c.args in
    let w = whole_size a.least a.most (length a.row.now) (sym c.is_whole.ensures ∙ c.if-not-is_whole.false) in
    record { fits = omega (arith, w.2) }

pub returns-then-p-n : goal.returns-then-p-n
unfolding read_answer read_frame
returns-then-p-n c = let p = c.sound_bytes-p.ensures.value in record { value = simp (le-ltb _ _ c.if-out-lt-MOST_BYTES.false, sym c.is_whole.ensures ∙ c.if-not-is_whole.false, sym c.is_clean.ensures ∙ c.if-not-is_clean.false, found_wrong _ _ _ p c.if-p-n.true, ← p); out_after = refl }

pub slice_bounds-held-end : goal.slice_bounds-held-end
slice_bounds-held-end c = let a = c.args in
    let w = whole_size a.least a.most (length a.row.now) (sym c.is_whole.ensures ∙ c.if-not-is_whole.false) in
    omega (arith, w.2)

pub slice_bounds-put-end : goal.slice_bounds-put-end
slice_bounds-put-end c = let a = c.args in
    let w = whole_size a.least a.most (length a.row.now) (sym c.is_whole.ensures ∙ c.if-not-is_whole.false) in
    rw length-take (omega (arith, w.2))

pub returns : goal.returns
unfolding read_answer
returns c = let a = c.args in
    let p = c.sound_bytes-p.ensures in
    let g = read_good a.least a.most a.row.now (sym c.is_whole.ensures ∙ c.if-not-is_whole.false)
    (sym c.is_clean.ensures ∙ c.if-not-is_clean.false) (found_none _ _ _ p.value c.if-p-n.false) in record { value = simp (le-ltb _ _ c.if-out-lt-MOST_BYTES.false, g, length_bytes); out_after = rw g (c.put.ensures ∙ ap (overlay a.out.now 0) (held_sound _ _ a.row.now _ _ p.value c.if-p-n.false p.out_after)) }
