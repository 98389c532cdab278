use Rattle.reader.specs.Reader.{is_new}
use mathlib.Core.Bool.{true}
use mathlib.Core.Path.{◌≡◌, sym, ◌∙◌}
use Rattle.sweep_row.proofs.Opening.{opens_not_due, opens_no_log, opens_no_list, opens_too_many, empty_log_fits, empty_list_fits, opens_empty, opens_looks}
use Rattle.sweep_row.proofs.within.opening.Goals as goal

pub returns-then-not-is_new : goal.returns-then-not-is_new
returns-then-not-is_new g c = let a = c.args in
    opens_not_due g.H.Hears.remembers a.start a.n a.log.now a.list.now c.stopped.result c.refused.result c.stopped.ensures c.refused.ensures (sym c.is_new.ensures ∙ c.if-not-is_new.true)

pub returns-then-log-lt-LOG_ROOM : goal.returns-then-log-lt-LOG_ROOM
returns-then-log-lt-LOG_ROOM g c = let a = c.args in
    let new : is_new a.start.reader.phase ≡ true = sym c.is_new.ensures ∙ c.if-not-is_new.false in
    opens_no_log g.H.Hears.remembers a.start a.n a.log.now a.list.now c.stopped-then-log-lt-LOG_ROOM.result c.refused-then-log-lt-LOG_ROOM.result c.stopped-then-log-lt-LOG_ROOM.ensures new c.refused-then-log-lt-LOG_ROOM.ensures c.if-log-lt-LOG_ROOM.true

pub returns-then-list-lt-LIST_ROOM : goal.returns-then-list-lt-LIST_ROOM
returns-then-list-lt-LIST_ROOM g c = let a = c.args in
    let new : is_new a.start.reader.phase ≡ true = sym c.is_new.ensures ∙ c.if-not-is_new.false in
    opens_no_list g.H.Hears.remembers a.start a.n a.log.now a.list.now c.stopped-then-list-lt-LIST_ROOM.result c.refused-then-list-lt-LIST_ROOM.result c.stopped-then-list-lt-LIST_ROOM.ensures new c.if-log-lt-LOG_ROOM.false c.refused-then-list-lt-LIST_ROOM.ensures c.if-list-lt-LIST_ROOM.true

pub returns-then-n-gt-MOST_CARDS : goal.returns-then-n-gt-MOST_CARDS
returns-then-n-gt-MOST_CARDS g c = let a = c.args in
    let new : is_new a.start.reader.phase ≡ true = sym c.is_new.ensures ∙ c.if-not-is_new.false in
    opens_too_many g.H.Hears.remembers a.start a.n a.log.now a.list.now c.stopped-then-n-gt-MOST_CARDS.result c.refused-then-n-gt-MOST_CARDS.result c.stopped-then-n-gt-MOST_CARDS.ensures new c.if-log-lt-LOG_ROOM.false c.if-list-lt-LIST_ROOM.false c.refused-then-n-gt-MOST_CARDS.ensures c.if-n-gt-MOST_CARDS.true

pub empty-requires : goal.empty-requires
empty-requires g c = let a = c.args in
    let new : is_new a.start.reader.phase ≡ true = sym c.is_new.ensures ∙ c.if-not-is_new.false in
    let hlist = c.if-list-lt-LIST_ROOM.false in
    let hlog = c.if-log-lt-LOG_ROOM.false in
    (empty_log_fits g.H.Hears.remembers a.start a.n a.log.now a.list.now new hlog hlist, empty_list_fits g.H.Hears.remembers a.start a.n a.log.now a.list.now new hlog hlist)

pub returns-then-n-eq0 : goal.returns-then-n-eq0
returns-then-n-eq0 g c = let a = c.args in
    let new : is_new a.start.reader.phase ≡ true = sym c.is_new.ensures ∙ c.if-not-is_new.false in
    opens_empty g.H.Hears.remembers a.start a.n a.log.now a.list.now new c.if-log-lt-LOG_ROOM.false c.if-list-lt-LIST_ROOM.false c.if-n-eq0.true c.stopped-then-n-eq0.result c.empty.result c.stopped-then-n-eq0.ensures c.empty.ensures.value _ _ c.empty.ensures.log_after c.empty.ensures.list_after

pub returns : goal.returns
returns g c = let a = c.args in
    let new : is_new a.start.reader.phase ≡ true = sym c.is_new.ensures ∙ c.if-not-is_new.false in
    opens_looks g.H.Hears.remembers a.start a.n a.log.now a.list.now new c.if-log-lt-LOG_ROOM.false c.if-list-lt-LIST_ROOM.false c.if-n-gt-MOST_CARDS.false c.if-n-eq0.false c.looks.result c.looks.ensures
