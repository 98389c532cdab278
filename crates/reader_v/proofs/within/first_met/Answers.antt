-- `reader_v::within::first_met` meets its contract: the place of the first flag that is not 0. Assumes nothing.
use Rattle.std.proofs.Common.{◌≡◌, length, not, eqb, rules, tests}
use Rattle.std.proofs.lemmas.Iterator.{YieldsList-from_slice}
use Rattle.std.proofs.lemmas.Iterator.Search.{position_from_yields_List}
use Rattle.reader_v.specs.MetLaws.{met_place}
use Rattle.reader_v.proofs.within.first_met.Goals as goal

pub returns : goal.returns
returns c =
    let n : length c.args.met ≡ 240 = search rules in
    let p = position_from_yields_List (λ x. not (eqb x 0)) _ _ _ c.position.ensures.ran (YieldsList-from_slice c.args.met cc) (λ x b q k. search (rules, tests)) in
    rw (met_place, n) at p
