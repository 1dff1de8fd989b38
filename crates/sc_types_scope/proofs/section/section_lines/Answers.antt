use Rattle.sc_types_scope.proofs.Noted.{decl-noted, decls-noted, declared-step}
use Rattle.sc_types_scope.proofs.section.section_lines.Goals as goal

pub loop-decl-preserved : goal.loop-decl-preserved
loop-decl-preserved c = record {
  names = declared-step c.args.section.now c.as_slice-decl-items.result.now c.loop-decl.decl-index c.decl-item.result
      c.loop-decl.names _ c.loop-decl-test.true c.decl-item.is c.loop-decl.invariant.names c.in_ok-push.ensures;
  lines = decl-noted c.args.section.now c.as_slice-decl-items.result.now c.loop-decl.decl-index c.decl-item.result
      c.loop-decl.names _ c.loop-decl.lines _ _ c.loop-decl-test.true c.decl-item.is c.loop-decl.invariant.names
      c.loop-decl.invariant.lines c.in_ok-decl_lines.ensures;
}

pub returns : goal.returns
returns c = decls-noted c.args.section.now c.as_slice-decl-items.result.now c.loop-decl.decl-index _ _ _
    c.loop-decl-test.false c.loop-decl.invariant.lines
