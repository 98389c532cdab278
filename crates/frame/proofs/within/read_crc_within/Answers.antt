use mathlib.Core.Path.{refl}
use borrow.Author.Tests.{lt-ltb}
use native.Mathlib.Omega.{arith}
use Rattle.frame.specs.Frame.{read_crc}
use Rattle.frame.specs.Calls.{read_answer}
use Rattle.frame.proofs.FrameLaws.{read_size}
use Rattle.frame.proofs.CallLaws.{read_room, refused_verdict, read_verdict}
use Rattle.std.proofs.lemmas.Result.{err_from_is_err_and}
use Rattle.frame.proofs.within.read_crc_within.Goals as goal

-- `frame::within::read_crc_within` meets its contract, by those of `read_within` and `without_crc`. Assumes nothing.
pub returns-then-out-lt-MOST_BYTES : goal.returns-then-out-lt-MOST_BYTES
unfolding read_answer
returns-then-out-lt-MOST_BYTES c = record { value = simp (lt-ltb _ _ c.if-out-lt-MOST_BYTES.true); out_after = refl }

pub without_crc-requires : goal.without_crc-requires
without_crc-requires c = let a = c.args in
    let v = read_verdict 256 _ _ _ _ _ c.read_within.ensures.value c.in_ok-n.was c.read_within.ensures.out_after in
    let s = read_size 3 a.most a.row.now _ v.0 in
    (omega (arith, s.0, v.1), omega (arith, s.1, v.1), omega (arith, s.1, v.1))

pub returns-in_err-n : goal.returns-in_err-n
unfolding read_crc
returns-in_err-n c = let a = c.args in
    let p = err_from_is_err_and c.from_residual.result c.from_residual.ensures.1 in
    let v = refused_verdict 256 _ _ _ (omega arith) c.read_within.ensures.value c.in_err-n.was in
    record {
      value = rw (p.1, p.2, read_room _ (read_crc 3 a.most a.row.now) c.if-out-lt-MOST_BYTES.false, v);
      out_after = rw (p.1);
    }

pub returns : goal.returns
unfolding read_crc
returns c = let a = c.args in
    let v = read_verdict 256 _ _ _ _ _ c.read_within.ensures.value c.in_ok-n.was c.read_within.ensures.out_after in
    let w = c.without_crc.ensures in
    record { value = rw (read_room _ (read_crc 3 a.most a.row.now) c.if-out-lt-MOST_BYTES.false, v.0) w.value; out_after = rw v.0 w.out_after }
