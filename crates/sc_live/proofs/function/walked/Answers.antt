use Rattle.sc_live.proofs.Common.{Holds, ap, function_points, subst, sym, weight, ◌+◌, ◌<◌, ◌^◌}
use Rattle.sc_live.proofs.Starting.{all_walked}
use Rattle.sc_live.proofs.Weights.{body_room, points_room}
use Rattle.sc_live.proofs.function.walked.Goals as goal

pub row-requires : goal.row-requires
row-requires c =
    subst (λ b. c.in_ok-walk.walk.points + weight b < 2 ^ 32) (ap (λ f. f.body) (sym c.tree-tree.ensures.tree))
    (body_room _ _ c.tree-tree.ensures.rules c.in_ok-walk.ensures.none)

pub returns-clause-holds : goal.returns-clause-holds
returns-clause-holds c =
    subst (λ f. Holds f.temps c.row.new.self (function_points f)) c.tree-tree.ensures.tree
    (all_walked _ _ _ _ _ _ c.in_ok-walk.ensures.start.0 c.new-nothing.ensures c.new-nothing.ensures
    c.in_ok-walk.ensures.start.1 c.in_ok-row.ensures.walked)

pub returns-clause-few : goal.returns-clause-few
returns-clause-few c =
    points_room _ _ _ _ c.tree-tree.ensures.tree c.tree-tree.ensures.rules c.in_ok-walk.ensures.none
    c.in_ok-row.ensures.few
