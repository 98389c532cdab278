use Rattle.frame.specs.Frame.{read_crc}
use Rattle.frame.specs.Calls.{bytes_after}
use mathlib.Core.Path.{refl, sym, ap₂, ◌∙◌}
use native.Mathlib.Omega.{arith}
use lib.ListN.{length-take, replicate}
use Rattle.selection.specs.Heard.{read_ats}
use Rattle.selection.specs.SizeLaws.{size_most}
use Rattle.selection.specs.RestLaws.{nil_yes, nil_no}
use Rattle.selection.specs.AtsLaws.{ats_fault, ats_good, ats_count}
use Rattle.selection.specs.SaysLaws.{with_says}
use Rattle.std.proofs.lemmas.Result.{err_from_is_err_and}
use Rattle.selection.proofs.ats.read_ats.Goals as goal
use Rattle.refusal.specs.Refusal.{number_says}

pub returns-then-row-eq0 : goal.returns-then-row-eq0
unfolding read_ats
returns-then-row-eq0 c = rw (nil_yes _ c.if-row-eq0.true) record { value = refl; result_value = refl }

pub read_crc_within-requires : goal.read_crc_within-requires
read_crc_within-requires c = omega (arith, c.size_of-most.ensures, size_most c.args.own)

pub slice_bounds-bytes-end : goal.slice_bounds-bytes-end
slice_bounds-bytes-end c = let a = c.args in
    let r = c.read_crc_within in
    ats_count a.own a.row.now _ _ (rw c.size_of-most.ensures at (sym r.ensures.value) ∙ c.in_ok-n.was)
    (r.ensures.out_after ∙ ap₂ (λ x s. bytes_after x (read_crc 3 s a.row.now) (replicate 256 0)) c.in_ok-n.was c.size_of-most.ensures)

pub slice_bounds-read_bytes-end : goal.slice_bounds-read_bytes-end
slice_bounds-read_bytes-end c = let a = c.args in
    let r = c.read_crc_within in
    let m = ats_count a.own a.row.now _ _ (rw c.size_of-most.ensures at (sym r.ensures.value) ∙ c.in_ok-n.was)
    (r.ensures.out_after ∙ ap₂ (λ x s. bytes_after x (read_crc 3 s a.row.now) (replicate 256 0)) c.in_ok-n.was c.size_of-most.ensures) in
    rw length-take (omega (arith, m))

pub returns-in_err-n : goal.returns-in_err-n
returns-in_err-n c =
    let p = err_from_is_err_and c.from_residual.result c.from_residual.ensures.1 in
    let fault = ats_fault c.args.own c.args.row.now _ (nil_no _ c.if-row-eq0.false) (rw c.size_of-most.ensures at (sym c.read_crc_within.ensures.value) ∙ c.in_err-n.was) in
    let both = with_says number_says c.from_residual.result _ (rw (p.1, p.2) (sym fault)) in
    record { value = both.0; result_value = both.1 }

pub returns : goal.returns
returns c = let a = c.args in
    let r = c.read_crc_within in
    let good = ats_good a.own a.row.now _ _ (nil_no _ c.if-row-eq0.false) (rw c.size_of-most.ensures at (sym r.ensures.value) ∙ c.in_ok-n.was)
    (r.ensures.out_after ∙ ap₂ (λ x s. bytes_after x (read_crc 3 s a.row.now) (replicate 256 0)) c.in_ok-n.was c.size_of-most.ensures) in
    let both = with_says number_says _ _ (c.read_bytes.ensures ∙ good) in
    record { value = both.0; result_value = both.1 }
