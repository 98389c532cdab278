-- `reader_v::hear` meets its contract: what a turn hands over is there. Assumes nothing.
use Rattle.std.proofs.Common.{length, sym, ◌∙◌}
use Rattle.reader_v.specs.SafeLaws.{hear_safe, not_short}
use Rattle.reader_v.proofs.hear.Goals as goal

pub put_data-requires : goal.put_data-requires
put_data-requires c = rw c.hear_rules-t.ensures (hear_safe c.args.row.now (length c.args.bytes.now) c.args.r (not_short c.args.r (length c.args.bytes.now) (length c.args.out.now) (sym c.is_short.ensures ∙ c.if-is_short.false)).0)

pub put_next-n-requires : goal.put_next-n-requires
put_next-n-requires c = (rw c.hear_rules-t.ensures (hear_safe c.args.row.now (length c.args.bytes.now) c.args.r (not_short c.args.r (length c.args.bytes.now) (length c.args.out.now) (sym c.is_short.ensures ∙ c.if-is_short.false)).0), (not_short c.args.r (length c.args.bytes.now) (length c.args.out.now) (sym c.is_short.ensures ∙ c.if-is_short.false)).1)
