-- `tag::within::take_rules` meets its contract: what the request makes the tag do, done. Assumes nothing.
use mathlib.Core.Path.{ap, ◌∙◌}
use lib.ListN.{length}
use Rattle.rows.specs.Rows.{overlay}
use Rattle.tag.specs.Tag.{memory_after, locks_after, row_of, takes, answers}
use Rattle.tag.specs.SafeLaws.{deed_safe}
use Rattle.tag.specs.CallLaws.{not_short}
use Rattle.tag.proofs.within.take_rules.Goals as goal

pub deed-d-requires : goal.deed-d-requires
deed-d-requires c = (not_short c.args.t (length c.args.memory.now) (length c.args.locks.now) (length c.args.out.now) c.requires).1

pub put_answer-n-requires : goal.put_answer-n-requires
put_answer-n-requires c = let h = not_short c.args.t (length c.args.memory.now) (length c.args.locks.now) (length c.args.out.now) c.requires in (rw c.deed-d.ensures (deed_safe c.args.t c.args.row.now c.args.locks.now), h.0, h.1, h.2)

pub write_memory-requires : goal.write_memory-requires
write_memory-requires c = (rw c.deed-d.ensures (deed_safe c.args.t c.args.row.now c.args.locks.now), (not_short c.args.t (length c.args.memory.now) (length c.args.locks.now) (length c.args.out.now) c.requires).0)

pub write_locks-requires : goal.write_locks-requires
write_locks-requires c = (rw c.deed-d.ensures (deed_safe c.args.t c.args.row.now c.args.locks.now), (not_short c.args.t (length c.args.memory.now) (length c.args.locks.now) (length c.args.out.now) c.requires).1)

pub returns : goal.returns
unfolding takes answers
returns c = let a = c.args in
    let f = a.row.now in
    let m = a.memory.now in
    let l = a.locks.now in
    let d = c.deed-d.ensures in record { value = rw (c.answer_of.ensures, c.with_state.ensures, c.state_after.ensures, c.put_answer-n.ensures.value, d); memory_after = c.write_memory.ensures ∙ ap (λ x. memory_after a.t.size f x m) d; locks_after = c.write_locks.ensures ∙ ap (λ x. locks_after x l) d; out_after = c.put_answer-n.ensures.out_after ∙ ap (λ x. overlay a.out.now 0 (row_of a.t m l x)) d }
