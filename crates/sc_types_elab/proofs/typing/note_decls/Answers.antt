use Rattle.sc_types_elab.proofs.Common.{called, decl_type_lines, noted-all, noted-next}
use Rattle.sc_types_elab.proofs.typing.note_decls.Goals as goal

pub loop-decl-preserved : goal.loop-decl-preserved
loop-decl-preserved c =
    noted-next (decl_type_lines c.args.section.now (called c.args.scope.now.callees)) c.args.decls.now
    c.loop-decl.decl-index
    _ _ _ c.decl-item.result c.loop-decl-test.true c.decl-item.is c.in_ok-note_decl.ensures c.loop-decl.invariant

pub returns : goal.returns
returns c =
    noted-all (decl_type_lines c.args.section.now (called c.args.scope.now.callees)) c.args.decls.now
    c.loop-decl.decl-index
    _ _ c.loop-decl-test.false c.loop-decl.invariant
