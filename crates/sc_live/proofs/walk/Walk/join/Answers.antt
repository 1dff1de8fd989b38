use Rattle.sc_live.proofs.Common.{[], ap, false, is_one, point, ◌==◌, ◌||◌, ◌∙◌, ◌∷◌}
use Rattle.sc_live.proofs.LiveSets.{set_is}
use Rattle.sc_live.proofs.Walking.{relived_before, walked_as}
use Rattle.sc_live.proofs.walk.Walk.join.Goals as goal

pub returns-clause-walked : goal.returns-clause-walked
returns-clause-walked c =
    let is = set_is _ _ (λ t. c.in_ok-insert.ensures t ∙ ap (λ b. c.args.cond == t || b)
    (c.in_ok-insert_all.ensures t ∙ ap (λ l. is_one t l || is_one t c.args.self.now.live) c.as_slice.ensures)) in
    walked_as _ _ _ _ _ _ (ap (λ set. point false set ∷ []) is) is
    (relived_before _ _ _ _ _ c.pass.ensures.walked)
