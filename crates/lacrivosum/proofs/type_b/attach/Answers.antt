-- `lacrivosum::type_b::attach` meets its contract, by the laws `attach_unfit` and `attach_fit`. Assumes nothing.
use Rattle.lacrivosum.specs.LibraryBLaws.{attach_unfit, attach_fit}
use Rattle.lacrivosum.proofs.type_b.attach.Goals as goal

pub returns-then-atqb-ne-ATQB_ROOM : goal.returns-then-atqb-ne-ATQB_ROOM
returns-then-atqb-ne-ATQB_ROOM c = let a = c.args in let both = attach_unfit a.x a.atqb.now a.index a.out.now _ c.if-atqb-ne-ATQB_ROOM.true c.refuse.ensures in record { value = both.0; out_after = both.1 }

pub returns : goal.returns
returns c = let a = c.args in let both = attach_fit a.x a.atqb.now _ a.index a.out.now _ _ c.if-atqb-ne-ATQB_ROOM.false c.bytes_at.ensures c.attach.ensures.value c.attach.ensures.out_after in record { value = both.0; out_after = both.1 }
