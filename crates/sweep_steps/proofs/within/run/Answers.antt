use mathlib.Core.Bool.{true, false}
use mathlib.Core.Path.{◌≡◌, refl, sym, ◌∙◌}
use borrow.Author.Rules.{rules}
use Rattle.sweep_steps.specs.Steps.{goes_on}
use Rattle.sweep_steps.specs.Loop.{sweeper, reached_at, recall_at, started}
use Rattle.sweep_steps.specs.RunLaws.{under_ends, under_log, under_list}
use Rattle.sweep_steps.specs.LoopLaws.{under_none, under_room, under_turn, fewer_left}
use Rattle.sweep_steps.proofs.within.run.Goals as goal

pub loop-log-init : goal.loop-log-init
unfolding started
loop-log-init g c = let a = c.args in
    rw c.fresh.ensures (under_none g.H.Hears.remembers a.start a.cards a.n a.log.now a.list.now (search rules))

pub step-p-requires : goal.step-p-requires
step-p-requires g c = let l = c.loop-log in
    let a = c.args in
    let y : goes_on (reached_at l.p) ≡ true = sym c.goes_on.ensures ∙ c.loop-log-test.true in
    under_room g.H.Hears.remembers a.start _ a.cards a.n a.log.now a.list.now l.p l.log l.list l.invariant c.requires.0 y c.requires.1 c.requires.2

pub loop-log-smaller : goal.loop-log-smaller
loop-log-smaller g c = let l = c.loop-log in
    fewer_left _ l.p c.step-p.result _ (sym c.goes_on.ensures ∙ c.loop-log-test.true) c.step-p.ensures.value

pub loop-log-preserved : goal.loop-log-preserved
loop-log-preserved g c = let l = c.loop-log in
    let a = c.args in
    let s = c.step-p in
    let y : goes_on (reached_at l.p) ≡ true = sym c.goes_on.ensures ∙ c.loop-log-test.true in
    rw s.ensures.value (under_turn g.H.Hears.remembers a.start _ a.cards a.n a.log.now a.list.now l.p l.log l.list l.invariant c.requires.0 y c.requires.1 c.requires.2 s.new.log s.new.list s.ensures.written)

pub shape_of-log : goal.shape_of-log
shape_of-log g c = c.loop-log.invariant.log_size_law

pub shape_of-list : goal.shape_of-list
shape_of-list g c = c.loop-log.invariant.list_size

pub returns : goal.returns
returns g c = let l = c.loop-log in
    let a = c.args in
    let y : goes_on (reached_at l.p) ≡ false = sym c.goes_on.ensures ∙ c.loop-log-test.false in record { result_value = under_ends (sweeper g.H.Hears.remembers) a.start _ a.cards a.n a.log.now a.list.now (recall_at l.p) (reached_at l.p) refl l.log l.list l.invariant c.requires.0 y; log_after = under_log (sweeper g.H.Hears.remembers) a.start _ a.cards a.n a.log.now a.list.now (recall_at l.p) (reached_at l.p) refl l.log l.list l.invariant c.requires.0 y; list_after = under_list (sweeper g.H.Hears.remembers) a.start _ a.cards a.n a.log.now a.list.now (recall_at l.p) (reached_at l.p) refl l.log l.list l.invariant c.requires.0 y }
