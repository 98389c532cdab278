-- `exchange::round` meets its contract, by those of `heard_as`, `card_turn`, `host_turn` and `hear`. Assumes nothing.
use mathlib.Core.Path.{sym}
use native.Mathlib.Omega.{arith}
use lib.Seq.{length-take-le}
use Rattle.exchange.specs.Lossy.{round_by}
use Rattle.exchange.proofs.RunLaws.{host_of, round_made}
use borrow.Author.Rules.{rules}
use Rattle.exchange.proofs.round.Goals as goal

pub slice_bounds-heard_as-end-2 : goal.slice_bounds-heard_as-end-2
slice_bounds-heard_as-end-2 c = let a = c.args in
    sym (length-take-le a.p.bits a.row.now (omega (arith, c.requires.0.bits, c.requires.2)))

pub advance-requires : goal.advance-requires
advance-requires c = (c.requires.0.messages, c.requires.1)

pub shape_of-down : goal.shape_of-down
shape_of-down c = c.card_turn-t.auto.down

pub slice_bounds-reply-end : goal.slice_bounds-reply-end
slice_bounds-reply-end c = let a = c.args in
    (host_of (round_by a.noise.now a.x) a.p a.message.now a.before.now a.answer.now a.down.now a.up.now a.row.now _ _ _ _ _ _ _ c.heard_as.ensures (search rules) c.card_turn-t.auto.out (c.card_turn-t.ensures.value, (c.card_turn-t.ensures.down_after, c.card_turn-t.ensures.out_after)) (c.host_turn-h.ensures.value, c.host_turn-h.ensures.out_after)).fits

pub slice_bounds-heard_as-end-3 : goal.slice_bounds-heard_as-end-3
slice_bounds-heard_as-end-3 c = let a = c.args in
    sym (length-take-le _ _ (host_of (round_by a.noise.now a.x) a.p a.message.now a.before.now a.answer.now a.down.now a.up.now a.row.now _ _ _ _ _ _ _ c.heard_as.ensures (search rules) c.card_turn-t.auto.out (c.card_turn-t.ensures.value, (c.card_turn-t.ensures.down_after, c.card_turn-t.ensures.out_after)) (c.host_turn-h.ensures.value, c.host_turn-h.ensures.out_after)).fits)

pub returns : goal.returns
returns c = let a = c.args in
    let e = c.hear-turn.ensures in let both = round_made (round_by a.noise.now a.x) a.p a.message.now a.before.now a.answer.now a.down.now a.up.now a.row.now _ _ _ _ _ _ _ c.heard_as.ensures (search rules) c.card_turn-t.auto.out (c.card_turn-t.ensures.value, (c.card_turn-t.ensures.down_after, c.card_turn-t.ensures.out_after)) (c.host_turn-h.ensures.value, c.host_turn-h.ensures.out_after) _ _ _ _ c.heard_as-2.ensures c.card_turn-t.auto.down c.requires.2 c.hear-turn.auto.out (e.value, (e.buffer_after, e.out_after)) c.advance.result c.advance.ensures c.requires.0 in record { row_after = both.0; fit = both.1 }
