use Rattle.sweep_row.proofs.pass.again.Goals as goal

pub returns : goal.returns
returns c = rw (c.silence.ensures, c.goes_on.ensures)
