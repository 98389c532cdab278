-- `answer_v::read_answer` meets its contract: an awaited length is one of whole bytes. Assumes nothing.
use Rattle.std.proofs.Common.{length, sym, ◌∙◌}
use Rattle.answer_v.specs.HeardLaws.{length_whole}
use Rattle.answer_v.proofs.read_answer.Goals as goal

pub answer_in-requires : goal.answer_in-requires
answer_in-requires c =
    let w = length_whole c.args.reads c.args.count c.args.status (length c.args.row.now) (sym c.is_length.ensures ∙ c.if-not-is_length.false) in
    (w.0, w.1, sym c.is_clean.ensures ∙ c.if-not-is_clean.false)
