-- `card_b::within::send_atqb` meets its contract, by those of `atqb` and `send`. Assumes nothing.
use mathlib.Core.Path.{ap}
use Rattle.card_b.specs.CardB.{atqb_of}
use Rattle.card_b.specs.TakenBLaws.{handed}
use Rattle.card_b.specs.declared.StateB.TheVariants.{Declared}
use Rattle.card_b.proofs.within.send_atqb.Goals as goal

pub returns : goal.returns
unfolding atqb_of
returns c = let a = c.args in
    let t = handed a.c a.out.now (ap (λ r. (Declared, r)) c.atqb-row.ensures) (c.send.ensures.value, c.send.ensures.out_after) in
    record { value = t.0; out_after = t.1 }
