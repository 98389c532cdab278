-- `wake::wake` meets its contract: its tests in their order, then the run, of which T-03's claim holds. Assumes nothing.
use mathlib.Core.Path.{◌≡◌, sym, ap, ◌∙◌}
use mathlib.Core.Bool.{true}
use lib.ListN.{take}
use Rattle.rows.specs.Rows.{All}
use Rattle.uid.specs.Calls.{new_uid, uid_of}
use Rattle.std.specs.Prelude.{Ok}
use Rattle.reader.specs.Reader.{is_new}
use Rattle.sweep_rules.specs.Demand.{Typed}
use Rattle.sweep_rules.specs.Terms.{within}
use Rattle.wake_rules.specs.Claim as rules
use Rattle.wake_rules.specs.Wake.{wake}
use Rattle.wake_rules.proofs.Claimed.{claim}
use Rattle.wake.specs.CallLaws.{valid_made, valid_not, valid_uid, not_due, no_uid, too_many, no_field, runs}
use Rattle.wake.specs.Wake.{done}
use Rattle.wake.proofs.wake.Goals as goal

pub returns-then-not-is_new : goal.returns-then-not-is_new
returns-then-not-is_new c = let a = c.args in let both = not_due a.r a.bytes.now a.cards a.n c.refused.result c.refused.ensures (sym c.is_new.ensures ∙ c.if-not-is_new.true) in record { value = both.0; wakens = both.1 }

pub returns-in_default : goal.returns-in_default
returns-in_default c = let a = c.args in
    let l = a.bytes.now in
    let due : is_new a.r.phase ≡ true = sym c.is_new.ensures ∙ c.if-not-is_new.false in
    let u = c.new_uid in let both = no_uid a.r l a.cards a.n due c.refused-in_default.result c.refused-in_default.ensures (valid_not l _ (sym u.ensures.value ∙ c.in_default.is)) in record { value = both.0; wakens = both.1 }

pub returns-then-n-gt-MOST_CARDS : goal.returns-then-n-gt-MOST_CARDS
returns-then-n-gt-MOST_CARDS c = let a = c.args in
    let l = a.bytes.now in
    let due : is_new a.r.phase ≡ true = sym c.is_new.ensures ∙ c.if-not-is_new.false in
    let u = c.new_uid in
    let good : new_uid l ≡ Ok c.in-Ok.u = sym u.ensures.value ∙ c.in-Ok.is in let both = too_many a.r l a.cards a.n due (valid_made l _ good).0 c.refused-then-n-gt-MOST_CARDS.result c.refused-then-n-gt-MOST_CARDS.ensures c.if-n-gt-MOST_CARDS.true in record { value = both.0; wakens = both.1 }

pub returns-then-not-is_within : goal.returns-then-not-is_within
returns-then-not-is_within c = let a = c.args in
    let l = a.bytes.now in
    let due : is_new a.r.phase ≡ true = sym c.is_new.ensures ∙ c.if-not-is_new.false in
    let u = c.new_uid in
    let good : new_uid l ≡ Ok c.in-Ok.u = sym u.ensures.value ∙ c.in-Ok.is in let both = no_field a.r l a.cards a.n due (valid_made l _ good).0 c.if-n-gt-MOST_CARDS.false c.refused-then-not-is_within.result c.refused-then-not-is_within.ensures
    (sym c.is_within.ensures.value ∙ c.if-not-is_within.true) in record { value = both.0; wakens = both.1 }

pub returns : goal.returns
returns c = let a = c.args in
    let l = a.bytes.now in
    let due : is_new a.r.phase ≡ true = sym c.is_new.ensures ∙ c.if-not-is_new.false in
    let u = c.new_uid in
    let good : new_uid l ≡ Ok c.in-Ok.u = sym u.ensures.value ∙ c.in-Ok.is in
    let w = c.if-not-is_within.false in
    let typed : All Typed (take a.n a.cards) = c.is_within.ensures.all w in
    let field : within (take a.n a.cards) ≡ true = sym c.is_within.ensures.value ∙ w in
    let made : c.in-Ok.u ≡ uid_of l = sym (valid_made l _ good).1 in
    let bytes : rules.Typed (uid_of l) = rw made at c.run.ensures.typed in let both = runs a.r l a.cards a.n due (valid_made l _ good).0 c.if-n-gt-MOST_CARDS.false c.run.result
    (c.run.ensures.value ∙ ap (λ x. done a.cards a.n (wake x (take a.n a.cards))) made) field (claim (take a.n a.cards) typed field (uid_of l) bytes (rw (valid_made l _ good).1 (valid_uid l _ good))) in record { value = both.0; wakens = both.1 }
