use Rattle.sc_live.proofs.Walking.{plain_walked}
use Rattle.sc_live.proofs.walk.Walk.plain.Goals as goal

pub returns-clause-walked : goal.returns-clause-walked
returns-clause-walked c =
    plain_walked _ _ _ _ _ _ _ c.assign.ensures.walked c.call.ensures.walked c.in_ok-read.ensures.walked
