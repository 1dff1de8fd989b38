use Rattle.sc_run.proofs.simple.simple.Goals as goal

pub returns-in-AssignCall : goal.returns-in-AssignCall
returns-in-AssignCall c = rw (c.in-AssignCall.is, ← c.get-in-AssignCall.ensures.value, ← c.get-in-AssignCall-2.ensures)
    c.call.ensures

pub returns-in-Call : goal.returns-in-Call
returns-in-Call c = rw (c.in-Call.is, ← c.get-in-Call.ensures) c.call-in-Call.ensures

pub returns-in-Malloc : goal.returns-in-Malloc
returns-in-Malloc c = rw (c.in-Malloc.is, ← c.get-in-Malloc.ensures.value) c.malloc.ensures

pub returns-in-Free : goal.returns-in-Free
returns-in-Free c = rw (c.in-Free.is, ← c.get-in-Free.ensures) c.free.ensures

pub returns-in-Assign : goal.returns-in-Assign
returns-in-Assign c = rw (c.in-Assign.is, ← c.get.ensures.value, ← c.get-in-Assign.ensures) c.assigned.ensures
