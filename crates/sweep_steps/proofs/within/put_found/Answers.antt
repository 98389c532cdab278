-- `sweep_steps::within::put_found` meets its contract. Assumes nothing.
use mathlib.Core.Path.{◌≡◌, ap}
use mathlib.Core.List.{[], ◌∷◌}
use native.Mathlib.Omega.{arith}
use lib.ListN.{length}
use borrow.Author.Rules.{rules}
use Rattle.uid.specs.Uid.{uid_bytes}
use Rattle.sweep_steps.specs.FoundLaws.{found_none, grows_none, grows_one}
use Rattle.sweep_steps.specs.Steps.{found_in, found_by}
use Rattle.sweep_steps.proofs.within.put_found.Goals as goal

pub put_entry-requires : goal.put_entry-requires
unfolding found_by
put_entry-requires c = let t = c.args.t in
    let e : found_by t ≡ uid_bytes t.reader.uid ∷ [] = ap (λ x. found_in x (uid_bytes t.reader.uid)) c.in-Finds.is in
    omega (arith, ap length e)

pub returns-in-Finds : goal.returns-in-Finds
unfolding found_by
returns-in-Finds c = let a = c.args in
    let t = a.t in
    let e : found_by t ≡ uid_bytes t.reader.uid ∷ [] = ap (λ x. found_in x (uid_bytes t.reader.uid)) c.in-Finds.is in
    let both = grows_one (found_by t) t.reader.uid a.list.now a.at _ e (search rules) c.put_entry.ensures in
    record { value = both.0; list_after = both.1.0; t_len = both.1.1 }

pub returns-in_default : goal.returns-in_default
unfolding found_by
returns-in_default c = let a = c.args in
    let both = grows_none (found_by a.t) a.list.now a.at (found_none a.t.answer (uid_bytes a.t.reader.uid) c.in_default.not-Finds) in
    record { value = both.0; list_after = both.1.0; t_len = both.1.1 }
