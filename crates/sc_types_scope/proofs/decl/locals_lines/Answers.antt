use Rattle.sc_types_scope.proofs.Common.{LocalTree}
use Rattle.sc_types_scope.proofs.Noted.{local-noted, locals-noted, pushed}
use Rattle.sc_types_scope.proofs.decl.locals_lines.Goals as goal

pub loop-local-preserved : goal.loop-local-preserved
loop-local-preserved c = record {
  lines = local-noted c.args.names.now c.loop-local.own _ c.as_slice-local-items.result.now c.loop-local.local-index
      c.local-item.result _ _ c.loop-local.lines _ _ c.loop-local-test.true c.local-item.is c.loop-local.invariant.lines
      c.in_ok-holds.ensures.known c.in_ok-holds.ensures.own c.unless.ensures;
  own = pushed {A = LocalTree} (λ local. local.name) c.as_slice-local-items.result.now c.loop-local.local-index
      c.local-item.result c.loop-local.own _ _ c.loop-local-test.true c.local-item.is c.loop-local.invariant.own
      c.in_ok-holds.ensures.own;
}

pub returns-clause-lines : goal.returns-clause-lines
returns-clause-lines c = locals-noted c.args.names.now c.loop-local.own c.as_slice-local-items.result.now
    c.loop-local.local-index _ _ _ c.loop-local-test.false c.loop-local.invariant.lines
