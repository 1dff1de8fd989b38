use Rattle.sc_run.proofs.plain.is_part_done.Goals as goal

pub returns-in-Assign : goal.returns-in-Assign
returns-in-Assign c = rw (c.in-Assign.is, ← c.get.ensures.value, ← c.get-in-Assign.ensures) c.is_assigned.ensures
