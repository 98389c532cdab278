-- `lacrivosum::type_b::lac_b_atqb` meets its contract, by that of `twelve`. Assumes nothing.
use Rattle.lacrivosum.specs.LibraryBLaws.{atqb_short, atqb_no_room, atqb_given}
use Rattle.lacrivosum.proofs.type_b.lac_b_atqb.Goals as goal

pub returns-then-state-lt-STATE_SIZE : goal.returns-then-state-lt-STATE_SIZE
returns-then-state-lt-STATE_SIZE c = let a = c.args in
    atqb_short a.state.now a.out.now _ c.if-state-lt-STATE_SIZE.true c.refused.ensures

pub returns-then-out-lt-ATQB_ROOM : goal.returns-then-out-lt-ATQB_ROOM
returns-then-out-lt-ATQB_ROOM c = let a = c.args in
    atqb_no_room a.state.now a.out.now _ c.if-state-lt-STATE_SIZE.false c.if-out-lt-ATQB_ROOM.true c.refused-then-out-lt-ATQB_ROOM.ensures

pub returns : goal.returns
returns c = let a = c.args in
    atqb_given a.state.now a.out.now _ _ c.if-state-lt-STATE_SIZE.false c.if-out-lt-ATQB_ROOM.false c.bytes_at-q.ensures c.put.ensures
