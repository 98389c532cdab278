use Rattle.frame.specs.Frame.{bytes_of}
use Rattle.selection.specs.Level.{first_collided}
use mathlib.Core.Path.{◌≡◌, sym, ap, ◌∙◌}
use native.Mathlib.Omega.{arith}
use lib.ListN.{length}
use Rattle.selection.specs.RestLaws.{place_right, says_collision, says_parity, says_collided, made_collided, known_clean}
use borrow.Author.Rules.{rules}
use Rattle.selection.proofs.heard.collided_level.Goals as goal

pub returns-then-p-ge32 : goal.returns-then-p-ge32
returns-then-p-ge32 c = let a = c.args in
    c.not_rest.ensures ∙ sym (says_collision a.k a.w a.d (search rules) (search rules) (omega arith) (omega arith))

pub returns-then-b-lt5 : goal.returns-then-b-lt5
returns-then-b-lt5 c = let a = c.args in
    c.not_rest-then-b-lt5.ensures
    ∙ sym (says_parity a.k a.w a.d (search rules) (search rules) (λ l m. omega arith) _ (search rules) c.first_wrong-b.ensures c.if-b-lt5.true)

pub five_bytes-five-requires : goal.five_bytes-five-requires
five_bytes-five-requires c = let a = c.args in
    rw c.known_bits.ensures (known_clean a.d (search rules) (omega arith))

pub returns : goal.returns
returns c = let a = c.args in
    let n : length a.d ≡ 40 = search rules in
    let q : a.p ≡ first_collided a.d = search rules in
    rw q
    (made_collided a.d c.five_bytes-five.result n (omega arith) (c.five_bytes-five.ensures ∙ ap (bytes_of 5) c.known_bits.ensures)
    ∙ sym (says_collided a.k a.w a.d (search rules) (search rules) (λ l m. omega arith) (place_right a.k _ a.w (search rules) c.first_wrong-b.ensures c.if-b-lt5.false) (omega arith)))
