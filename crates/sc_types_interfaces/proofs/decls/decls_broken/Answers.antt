use Rattle.sc_types_interfaces.proofs.Common.{ap, decls_broken, drop}
use Rattle.sc_types_interfaces.proofs.Steps.{decls_turn, reported_end, drop_past}
use Rattle.sc_types_interfaces.proofs.decls.decls_broken.Goals as goal

pub loop-decl-preserved : goal.loop-decl-preserved
loop-decl-preserved c =
    decls_turn c.args.table.now c.args.imported.now c.args.mains c.loop-decl.known c.decl_broken.new.known
    c.args.decls.now c.loop-decl.decl-index c.decl-item.result
    c.loop-decl.lines c.decl_broken.new.lines _ c.loop-decl-test.true c.decl-item.is
    c.in_ok-decl_broken.ensures.reported
    c.in_ok-decl_broken.ensures.added c.loop-decl.invariant

pub returns : goal.returns
returns c =
    reported_end c.loop-decl.lines _ (decls_broken c.args.table.now c.args.imported.now c.args.mains c.loop-decl.known
    (drop c.loop-decl.decl-index c.args.decls.now))
    (ap (decls_broken c.args.table.now c.args.imported.now c.args.mains c.loop-decl.known)
    (drop_past c.args.decls.now c.loop-decl.decl-index c.loop-decl-test.false)) c.loop-decl.invariant
