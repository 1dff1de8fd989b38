use Rattle.sc_run.proofs.Ahead.{stays_so}
use Rattle.sc_run.proofs.planned.is_next_done_by.Goals as goal

pub returns-in-None : goal.returns-in-None
returns-in-None c = rw c.in-None.is stays_so

pub returns-in-Some : goal.returns-in-Some
returns-in-Some c = rw c.in-Some.is c.is_part_done_by.ensures
