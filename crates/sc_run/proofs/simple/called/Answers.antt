use Rattle.sc_run.proofs.simple.called.Goals as goal

pub returns-in-Cross : goal.returns-in-Cross
returns-in-Cross c = rw c.in-Cross.is c.call_cross.ensures

pub returns-in-Own : goal.returns-in-Own
returns-in-Own c = rw c.in-Own.is c.call_own.ensures

pub returns-in-Output : goal.returns-in-Output
returns-in-Output c = rw c.in-Output.is c.call_output.ensures
