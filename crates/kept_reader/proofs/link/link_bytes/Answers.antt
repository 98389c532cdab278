-- `kept_reader::link::link_bytes` meets its contract, case by case. Assumes nothing.
use Rattle.kept_reader.proofs.link.link_bytes.Goals as goal

pub returns-in-NoLink : goal.returns-in-NoLink
returns-in-NoLink c = record { value = rw c.in-NoLink.is; sized = rw c.in-NoLink.is tt }

pub returns-in-RatsSent : goal.returns-in-RatsSent
returns-in-RatsSent c = record { value = rw c.in-RatsSent.is; sized = rw c.in-RatsSent.is tt }

pub returns-in-Linked : goal.returns-in-Linked
returns-in-Linked c = record { value = rw (c.linked_bytes.ensures.value, c.in-Linked.is); sized = rw c.in-Linked.is c.linked_bytes.ensures.sized }
