-- `reader_link::whole::hear_due` meets its contract, by how far the reader is. Assumes nothing.
use Rattle.reader_link.specs.WholeLaws.{hears_selecting, hears_ats}
use Rattle.reader_link.proofs.whole.hear_due.Goals as goal

pub returns-in-NoLink : goal.returns-in-NoLink
returns-in-NoLink c = let a = c.args in let both = hears_selecting a.x a.row.now a.message.now a.buffer.now a.out.now c.in-NoLink.is (c.hear_selecting.ensures.value, c.hear_selecting.ensures.out_after) in record { value = both.0; buffer_after = both.1.0; out_after = both.1.1 }

pub returns-in-RatsSent : goal.returns-in-RatsSent
returns-in-RatsSent c = let a = c.args in let both = hears_ats a.x a.row.now a.message.now a.buffer.now a.out.now _ c.in-RatsSent.is c.hear_ats.ensures in record { value = both.0; buffer_after = both.1.0; out_after = both.1.1 }
