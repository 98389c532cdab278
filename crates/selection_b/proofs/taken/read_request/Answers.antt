-- `selection_b::taken::read_request` meets its contract: only a clean row of 40 bits can be a request. Assumes nothing.
use Rattle.std.proofs.Common.{sym, ◌∙◌}
use Rattle.selection_b.proofs.TypeBLaws.{request_length}
use Rattle.selection_b.proofs.SentBLaws.{unread, not_clean}
use Rattle.selection_b.proofs.taken.read_request.Goals as goal
use Rattle.selection_b.proofs.taken.read_request.Goals.{else-row-eq40-via-then-row-eq40+else-is_clean, else-row-eq40-via-else-row-eq40}

pub returns-else-row-eq40 : goal.returns-else-row-eq40
returns-else-row-eq40 c =
    let f = c.args.row.now in
    elim c.else-row-eq40.branch [
      | else-row-eq40-via-then-row-eq40+else-is_clean w ↦ unread f (not_clean f (sym w.is_clean.ensures ∙ w.if-is_clean.false))
      | else-row-eq40-via-else-row-eq40 w ↦ unread f (request_length f w.if-row-eq40.false)
    ]
