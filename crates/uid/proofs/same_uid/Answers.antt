-- `uid::same_uid` meets its contract: the parts of the two arrays that are compared are the UIDs' own bytes. Assumes nothing.
use Rattle.uid.specs.Uid.{uid_bytes}
use Rattle.uid.proofs.same_uid.Goals as goal

pub returns : goal.returns
unfolding uid_bytes
returns c = rw (c.is_same.ensures, c.byte_count-n.ensures, c.byte_count-m.ensures)
