-- `lacrivosum::type_b::refuse` meets its contract: the definition has the same tests, in the same order. Assumes nothing.
use mathlib.Core.Path.{sym, ◌∙◌}
use Rattle.reader_b.specs.ReaderB.{is_ready}
use Rattle.reader_b.specs.ReaderBLaws.{not_due, no_room, made}
use Rattle.lacrivosum.proofs.type_b.refuse.Goals as goal

pub returns-then-not-is_ready : goal.returns-then-not-is_ready
returns-then-not-is_ready c = let a = c.args in
    c.turn.ensures ∙ not_due (is_ready a.x.phase) a.x _ _ (sym c.is_ready.ensures ∙ c.if-not-is_ready.true)

pub returns-then-room-lt-FRAME_ROOM : goal.returns-then-room-lt-FRAME_ROOM
returns-then-room-lt-FRAME_ROOM c = let a = c.args in
    c.turn-then-room-lt-FRAME_ROOM.ensures ∙ no_room (is_ready a.x.phase) a.x _ _ (sym c.is_ready.ensures ∙ c.if-not-is_ready.false) c.if-room-lt-FRAME_ROOM.true

pub returns : goal.returns
returns c = let a = c.args in
    c.turn-2.ensures ∙ made (is_ready a.x.phase) a.x _ _ (sym c.is_ready.ensures ∙ c.if-not-is_ready.false) c.if-room-lt-FRAME_ROOM.false
