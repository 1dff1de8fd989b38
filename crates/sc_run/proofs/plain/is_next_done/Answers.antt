use Rattle.sc_run.proofs.Ahead.{stays_so}
use Rattle.sc_run.proofs.plain.is_next_done.Goals as goal

pub returns-in-None : goal.returns-in-None
returns-in-None c = rw c.in-None.is stays_so

pub returns-in-Some : goal.returns-in-Some
returns-in-Some c = rw c.in-Some.is c.is_part_done.ensures
