use mathlib.Core.Path.{◌≡◌, sym, ◌∙◌}
use mathlib.Core.Bool.{true}
use native.Mathlib.Omega.{arith}
use lib.ListN.{take}
use Rattle.rows.specs.Rows.{All}
use Rattle.reader.specs.Reader.{is_new}
use Rattle.sweep_rules.specs.Demand.{Typed}
use Rattle.sweep_rules.specs.Terms.{within}
use Rattle.sweep_steps.specs.Loop.{swept_if, reached_at}
use Rattle.sweep.proofs.CallLaws.{not_due, no_log, no_list, too_many, no_field, ruled_out, runs, ends_call}
use Rattle.sweep.specs.Promise.{Terms}
use Rattle.sweep.proofs.within.call.Goals as goal

pub returns-then-not-is_new : goal.returns-then-not-is_new
returns-then-not-is_new g c = let a = c.args in let both = ruled_out (swept_if g.H.Hears.remembers) a.start a.cards a.n a.log.now a.list.now _
    (not_due (swept_if g.H.Hears.remembers) a.start a.cards a.n a.log.now a.list.now c.refused.result c.refused.ensures (sym c.is_new.ensures ∙ c.if-not-is_new.true)) in record { list_after = both.0; all = both.1 }

pub returns-then-log-lt-LOG_ROOM : goal.returns-then-log-lt-LOG_ROOM
returns-then-log-lt-LOG_ROOM g c = let a = c.args in
    let new : is_new a.start.reader.phase ≡ true = sym c.is_new.ensures ∙ c.if-not-is_new.false in let both = ruled_out (swept_if g.H.Hears.remembers) a.start a.cards a.n a.log.now a.list.now _
    (no_log (swept_if g.H.Hears.remembers) a.start a.cards a.n a.log.now a.list.now new c.refused-then-log-lt-LOG_ROOM.result c.refused-then-log-lt-LOG_ROOM.ensures c.if-log-lt-LOG_ROOM.true) in record { list_after = both.0; all = both.1 }

pub returns-then-list-lt-LIST_ROOM : goal.returns-then-list-lt-LIST_ROOM
returns-then-list-lt-LIST_ROOM g c = let a = c.args in
    let new : is_new a.start.reader.phase ≡ true = sym c.is_new.ensures ∙ c.if-not-is_new.false in let both = ruled_out (swept_if g.H.Hears.remembers) a.start a.cards a.n a.log.now a.list.now _
    (no_list (swept_if g.H.Hears.remembers) a.start a.cards a.n a.log.now a.list.now new c.if-log-lt-LOG_ROOM.false c.refused-then-list-lt-LIST_ROOM.result c.refused-then-list-lt-LIST_ROOM.ensures c.if-list-lt-LIST_ROOM.true) in record { list_after = both.0; all = both.1 }

pub returns-then-n-gt-MOST_CARDS : goal.returns-then-n-gt-MOST_CARDS
returns-then-n-gt-MOST_CARDS g c = let a = c.args in
    let new : is_new a.start.reader.phase ≡ true = sym c.is_new.ensures ∙ c.if-not-is_new.false in let both = ruled_out (swept_if g.H.Hears.remembers) a.start a.cards a.n a.log.now a.list.now _
    (too_many (swept_if g.H.Hears.remembers) a.start a.cards a.n a.log.now a.list.now new c.if-log-lt-LOG_ROOM.false c.if-list-lt-LIST_ROOM.false c.refused-then-n-gt-MOST_CARDS.result c.refused-then-n-gt-MOST_CARDS.ensures c.if-n-gt-MOST_CARDS.true) in record { list_after = both.0; all = both.1 }

pub returns-then-not-is_within : goal.returns-then-not-is_within
returns-then-not-is_within g c = let a = c.args in
    let new : is_new a.start.reader.phase ≡ true = sym c.is_new.ensures ∙ c.if-not-is_new.false in let both = ruled_out (swept_if g.H.Hears.remembers) a.start a.cards a.n a.log.now a.list.now _
    (no_field (swept_if g.H.Hears.remembers) a.start a.cards a.n a.log.now a.list.now new c.if-log-lt-LOG_ROOM.false c.if-list-lt-LIST_ROOM.false c.if-n-gt-MOST_CARDS.false c.refused-then-not-is_within.result c.refused-then-not-is_within.ensures
    (sym c.is_within.ensures.value ∙ c.if-not-is_within.true)) in record { list_after = both.0; all = both.1 }

pub run-p-requires : goal.run-p-requires
run-p-requires g c = let a = c.args in
    let w = c.if-not-is_within.false in
    let typed : All Typed (take a.n a.cards) = c.is_within.ensures.all w in
    let field : within (take a.n a.cards) ≡ true = sym c.is_within.ensures.value ∙ w in
    let fits = c.requires typed field in
    (c.if-n-gt-MOST_CARDS.false, omega (arith, fits.0, c.if-log-lt-LOG_ROOM.false), omega (arith, fits.1, c.if-list-lt-LIST_ROOM.false))

pub shape_of-log : goal.shape_of-log
shape_of-log g c = c.run-p.auto.log

pub shape_of-list : goal.shape_of-list
shape_of-list g c = c.run-p.auto.list

pub returns : goal.returns
returns g c = let a = c.args in
    let new : is_new a.start.reader.phase ≡ true = sym c.is_new.ensures ∙ c.if-not-is_new.false in
    let w = c.if-not-is_within.false in
    let typed : All Typed (take a.n a.cards) = c.is_within.ensures.all w in
    let field : within (take a.n a.cards) ≡ true = sym c.is_within.ensures.value ∙ w in
    let p = c.run-p in
    let e = ends_call a.start.tick a.cards a.n a.log.now a.list.now (swept_if g.H.Hears.remembers (take a.n a.cards)) (reached_at p.result) p.new.log p.new.list p.ensures.result_value p.ensures.log_after p.ensures.list_after in
    let t : Terms a.start a.cards a.n a.log.now a.list.now =
    record { new = new; log_has_room = c.if-log-lt-LOG_ROOM.false; list_has_room = c.if-list-lt-LIST_ROOM.false; few = c.if-n-gt-MOST_CARDS.false; field = field } in record { list_after = e ∙ sym (runs (swept_if g.H.Hears.remembers) a.start a.cards a.n a.log.now a.list.now t); all = λ t. typed }
