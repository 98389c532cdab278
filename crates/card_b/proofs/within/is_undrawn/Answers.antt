-- `card_b::within::is_undrawn` meets its contract, by what was read of the row. Assumes nothing.
use Rattle.std.proofs.Common.{sym, ap, ◌∙◌}
use Rattle.card_b.specs.RulesBLaws.{read_some, read_none}
use Rattle.selection_b.specs.declared.Request.{Request}
use Rattle.card_b.proofs.within.is_undrawn.Goals as goal

pub returns-in-Some : goal.returns-in-Some
returns-in-Some c =
    let p = read_some c.args.row.now c.in-Some.q (sym c.read_request.ensures ∙ c.in-Some.is) in
    rw (c.is_drawn.ensures, ap (λ (r : Request). r.slots) p.1, p.0)

pub returns-in-None : goal.returns-in-None
returns-in-None c = rw (read_none c.args.row.now (sym c.read_request.ensures ∙ c.in-None.is))
