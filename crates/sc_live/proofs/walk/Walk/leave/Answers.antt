use Rattle.sc_live.proofs.Walking.{relived_before}
use Rattle.sc_live.proofs.walk.Walk.leave.Goals as goal

pub returns-clause-walked : goal.returns-clause-walked
returns-clause-walked c = relived_before _ _ _ _ _ c.pass.ensures.walked
