use Rattle.sc_live.proofs.Common.{[], ap, false, point, ◌∷◌}
use Rattle.sc_live.proofs.LiveSets.{set_is}
use Rattle.sc_live.proofs.Walking.{relived_before, walked_as}
use Rattle.sc_live.proofs.walk.Walk.read.Goals as goal

pub returns-clause-walked : goal.returns-clause-walked
returns-clause-walked c =
    let is = set_is _ _ c.in_ok-insert_all.ensures in
    walked_as _ _ _ _ _ _ (ap (λ set. point false set ∷ []) is) is
    (relived_before _ _ _ _ _ c.pass.ensures.walked)
