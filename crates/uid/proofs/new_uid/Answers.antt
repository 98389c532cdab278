-- `uid::new_uid` meets its contract, length by length. Assumes nothing.
use Rattle.std.proofs.Common.{◌≡◌, length, arith}
use borrow.Author.Tests.{ne_eqb}
use Rattle.refusal.specs.declared.Refusal.TheVariants.{Argument}
use Rattle.std.specs.Prelude.{Err}
use Rattle.uid.specs.Calls.{new_uid}
use Rattle.uid.specs.SaysLaws.{made_says_law}
use Rattle.uid.proofs.new_uid.Goals as goal

pub returns-in-4 : goal.returns-in-4
unfolding new_uid
returns-in-4 c =
    let e : c.checked.result ≡ new_uid c.args.bytes.now = rw (c.in-4.is, c.checked.ensures, c.sized.ensures) in
    record { value = e; made_value = (made_says_law _ _ e).1 }

pub returns-in-7 : goal.returns-in-7
unfolding new_uid
returns-in-7 c =
    let e : c.checked-in-7.result ≡ new_uid c.args.bytes.now = rw (c.in-7.is, c.checked-in-7.ensures, c.sized-in-7.ensures) in
    record { value = e; made_value = (made_says_law _ _ e).1 }

pub returns-in-10 : goal.returns-in-10
unfolding new_uid
returns-in-10 c =
    let e : c.checked-in-10.result ≡ new_uid c.args.bytes.now = rw (c.in-10.is, c.checked-in-10.ensures, c.sized-in-10.ensures) in
    record { value = e; made_value = (made_says_law _ _ e).1 }

pub returns-in_default : goal.returns-in_default
unfolding new_uid
returns-in_default c =
    let n = length c.args.bytes.now in
    let e : Err Argument ≡ new_uid c.args.bytes.now =
    rw (ne_eqb n 4 (omega (arith, c.in_default)), ne_eqb n 7 (omega (arith, c.in_default)), ne_eqb n 10 (omega (arith, c.in_default))) in
    record { value = e; made_value = (made_says_law _ _ e).1 }
