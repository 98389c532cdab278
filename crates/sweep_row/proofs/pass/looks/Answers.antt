use Rattle.sweep_row.proofs.pass.looks.Goals as goal

pub returns : goal.returns
returns c = rw (c.stopped.ensures, c.refused.ensures)
