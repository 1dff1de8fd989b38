use Rattle.sc_emit_select.proofs.Common.{IsFunction, Line, List, length, subst, sym, ◌<◌, ◌^◌}
use Rattle.sc_emit_select.proofs.Links.{whole_function}
use Rattle.sc_emit_select.proofs.Weights.{function_short}
use Rattle.sc_emit_select.proofs.function.planned.Goals as goal

pub function-requires-clause-function : goal.function-requires-clause-function
function-requires-clause-function c = subst IsFunction (sym c.tree.ensures.tree) c.tree.ensures.rules

pub returns-clause-lines : goal.returns-clause-lines
returns-clause-lines c =
    whole_function c.args.homes.now.frame.now c.args.homes.now.places.now c.args.homes.now.near c.args.f.now _ _ _ _
    c.requires.needs c.tree.ensures.tree c.in_ok-function.ensures c.new-lines.ensures

pub returns-clause-few : goal.returns-clause-few
returns-clause-few c =
    subst (λ (l : List Line). length l < 2 ^ 32) (sym (whole_function c.args.homes.now.frame.now
    c.args.homes.now.places.now c.args.homes.now.near c.args.f.now _ _ _ _
    c.requires.needs c.tree.ensures.tree c.in_ok-function.ensures c.new-lines.ensures))
    (function_short c.args.homes.now.frame.now c.args.homes.now.places.now _ c.args.f.now c.tree.ensures.rules
    c.requires.reached)
