use Rattle.sc_types_elab.proofs.Common.{StandsIn, ap, arith, called, get_or, length, refl, scope_in, subst, ◌+◌, ◌<◌}
use Rattle.sc_types_elab.proofs.Common.{◌∙◌, ◌≡◌, ◌≤◌}
use Rattle.sc_types_elab.proofs.Functions.{head_kept, more_stands}
use Rattle.sc_types_elab.proofs.FunctionLines.{suits, local_noted, locals_noted}
use Rattle.sc_types_elab.proofs.typing.note_locals.Goals as goal

pub loop-local-init : goal.loop-local-init
loop-local-init c = record {
  stands = head_kept c.args.scope.now c.args.section.now c.requires c.args.tree.now c.in_ok-function.function
      c.in_ok-function.ensures;
  lines = refl;
}

pub loop-local-preserved : goal.loop-local-preserved
loop-local-preserved c =
    let i = c.loop-local.local-index in
    let local = c.local-item.result in
    let h : i < length c.args.tree.now.locals = subst
    (λ l. i < length l) c.as_slice-local-items.ensures c.loop-local-test.true in
    let e = c.local-item.is ∙ ap (λ l. get_or l i local) c.as_slice-local-items.ensures in
    let stands = more_stands c.args.scope.now c.args.section.now c.requires c.args.tree.now i local
    c.loop-local.function c.in_ok-function-2.function h e c.loop-local.invariant.stands c.in_ok-function-2.ensures
    in
    record {
      stands = stands;
      lines = local_noted c.args.scope.now c.args.section.now c.requires c.args.tree.now
          (called c.args.scope.now.callees) i local c.in_ok-function-2.function h e stands c.loop-local.lines
          c.note_local.new.lines _ (c.in_ok-note_local.ensures (scope_in c.args.section.now c.args.tree.now)
          (suits c.args.scope.now c.args.section.now c.requires c.args.tree.now
          (i + 1) c.in_ok-function-2.function stands)) c.loop-local.invariant.lines;
    }

pub returns-clause-stands : goal.returns-clause-stands
returns-clause-stands c =
    let all : length c.as_slice-local-items.result.now ≡ length c.args.tree.now.locals =
    ap length c.as_slice-local-items.ensures in
    let here : c.loop-local.local-index ≡ length c.args.tree.now.locals =
    omega (arith, all, c.loop-local-test.false, c.loop-local.auto.local-index-end) in
    subst (λ n. StandsIn c.args.section.now c.args.tree.now n c.loop-local.function) here c.loop-local.invariant.stands

pub returns-clause-lines : goal.returns-clause-lines
returns-clause-lines c =
    locals_noted c.args.scope.now c.args.section.now c.requires c.args.tree.now
    (called c.args.scope.now.callees) c.loop-local.local-index c.loop-local.lines _
    (subst (λ l. length l ≤ c.loop-local.local-index) c.as_slice-local-items.ensures c.loop-local-test.false)
    c.loop-local.invariant.lines
