-- `lacrivosum::lac_uid` meets its contract, by those of `uid_of` and `put_uid`. Assumes nothing.
use Rattle.lacrivosum.specs.LibraryLaws.{uid_short, uid_no_room, uid_given_law}
use Rattle.lacrivosum.proofs.lac_uid.Goals as goal

pub returns-then-state-lt-STATE_SIZE : goal.returns-then-state-lt-STATE_SIZE
returns-then-state-lt-STATE_SIZE c = let a = c.args in
    uid_short a.state.now a.out.now _ c.if-state-lt-STATE_SIZE.true c.refused.ensures

pub returns-then-out-lt-UID_ROOM : goal.returns-then-out-lt-UID_ROOM
returns-then-out-lt-UID_ROOM c = let a = c.args in
    uid_no_room a.state.now a.out.now _ c.if-state-lt-STATE_SIZE.false c.if-out-lt-UID_ROOM.true c.refused-then-out-lt-UID_ROOM.ensures

pub returns : goal.returns
returns c = let a = c.args in
    let put = c.put_uid.ensures in
    uid_given_law a.state.now a.out.now _ _ _ c.if-state-lt-STATE_SIZE.false c.if-out-lt-UID_ROOM.false c.uid_of.ensures put.value put.out_after
