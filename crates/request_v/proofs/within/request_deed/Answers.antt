-- `request_v::within::request_deed` meets its contract: a tag that is meant by its UID finds it in the row. Assumes nothing.
use Rattle.std.proofs.Common.{sym, ◌∙◌, arith}
use Rattle.frame_v.specs.FrameVLaws.{sound_long}
use Rattle.request_v.proofs.RequestLaws.{meant_long}
use Rattle.request_v.proofs.within.request_deed.Goals as goal

pub own_deed-requires : goal.own_deed-requires
own_deed-requires c =
    (c.requires.0, c.requires.1, meant_long c.args.t c.args.q c.args.row.now (omega (arith, sound_long c.args.row.now c.requires.0)) (sym c.is_meant.ensures ∙ c.if-is_meant.true))
