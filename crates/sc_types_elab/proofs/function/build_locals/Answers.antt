-- One more local stands after the others, and its initialiser sees it.
use Rattle.sc_types_elab.proofs.Common.{ap, drop_all, get_or, length, subst, ◌<◌, ◌∙◌, ◌≤◌}
use Rattle.sc_types_elab.proofs.Functions.{more_stands, more_built, all_built}
use Rattle.sc_types_elab.proofs.function.build_locals.Goals as goal

pub loop-local-preserved : goal.loop-local-preserved
loop-local-preserved c =
    let i = c.loop-local.local-index in
    let local = c.local-item.result in
    let h : i < length c.args.tree.now.locals = subst (λ l. i < length l) c.requires.locals c.loop-local-test.true in
    let e = c.local-item.is ∙ ap (λ l. get_or l i local) c.requires.locals in
    let stands = more_stands c.args.scope.now c.args.section.now c.requires.stands c.args.tree.now i local
    c.loop-local.function c.in_ok-function-2.function h e c.loop-local.invariant.stands c.in_ok-function-2.ensures
    in
    record {
      stands = stands;
      locals = more_built c.args.scope.now c.args.section.now c.requires.stands c.args.tree.now i local
          c.in_ok-function-2.function c.loop-local.built c.push.new.self _ c.in_ok-build_local.field-0 h e stands
          c.in_ok-build_local.ensures c.in_ok-push.ensures.ok c.loop-local.invariant.locals;
    }

pub returns-clause-locals : goal.returns-clause-locals
returns-clause-locals c =
    let h : length c.args.tree.now.locals ≤ c.loop-local.local-index =
    subst (λ l. length l ≤ c.loop-local.local-index) c.requires.locals c.loop-local-test.false in
    all_built c.args.scope.now c.args.section.now c.requires.stands c.args.tree.now c.loop-local.local-index
    c.loop-local.built _ (drop_all c.loop-local.local-index c.args.tree.now.locals h) c.loop-local.invariant.locals
