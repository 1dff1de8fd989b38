use Rattle.sc_live.proofs.Common.{refl}
use Rattle.sc_live.proofs.LiveSets.{none_assigned, one_assigned}
use Rattle.sc_live.proofs.Walking.{relived, walked_as}
use Rattle.sc_live.proofs.walk.Walk.assign.Goals as goal

pub returns-in-Some-clause-walked : goal.returns-in-Some-clause-walked
returns-in-Some-clause-walked c =
    relived _ _ _ _ _ _ c.pass.ensures.walked
    (one_assigned _ _ _ _ _ c.in-Some.is c.remove.ensures c.pass.ensures.walked.live)

pub returns-in_default-clause-walked : goal.returns-in_default-clause-walked
returns-in_default-clause-walked c =
    walked_as _ _ _ _ _ _ refl (none_assigned _ c.args.self.now.live _ c.in_default.is refl) c.pass.ensures.walked
