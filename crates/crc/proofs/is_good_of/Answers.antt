-- `crc::is_good_of` meets its contract, by those of `sent_of` and `is_same`. Assumes nothing.
use mathlib.Core.Path.{refl, sym, ap, ◌∙◌}
use Prim.Native.Nat.{◌-◌}
use native.Mathlib.Omega.{arith}
use lib.ListN.{length, drop, length-drop}
use lib.Seq.{take_all}
use Rattle.rows.specs.Rows.{same}
use Rattle.crc.specs.CrcOf.{sent_of}
use Rattle.crc.specs.CrcOfLaws.{good_last_of, good_short_of}
use Rattle.crc.proofs.is_good_of.Goals as goal

pub returns-in-Some : goal.returns-in-Some
returns-in-Some c = let a = c.args in
    let p = c.in-Some.ensures.cases in
    let n = length a.bytes.now - 2 in
    c.is_same.ensures ∙ rw p.1 (ap (λ l. same l c.sent_of.result) (sym (take_all (length a.bytes.now - n) (drop n a.bytes.now) (rw length-drop (omega arith))))
    ∙ good_last_of a.start a.end a.bytes.now _ n refl (c.sent_of.ensures ∙ ap (sent_of a.start a.end) p.0))

pub returns-in-None : goal.returns-in-None
returns-in-None c = sym (good_short_of c.args.start c.args.end c.args.bytes.now c.in-None.ensures.cases)
