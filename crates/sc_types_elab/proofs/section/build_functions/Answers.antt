-- What is made of each declaration of a kind.
use Rattle.sc_types_elab.proofs.Common.{called, function_in, typed_function}
use Rattle.sc_types_elab.proofs.Gathered.{gather_more, gather_end}
use Rattle.sc_types_elab.proofs.section.build_functions.Goals as goal

pub loop-decl-preserved : goal.loop-decl-preserved
loop-decl-preserved c =
    gather_more function_in (typed_function c.args.section.now
    (called c.args.scope.now.callees)) c.args.decls.now c.loop-decl.decl-index c.decl-item.result
    c.loop-decl.functions c.in_ok-functions.functions _ c.loop-decl-test.true c.decl-item.is
    c.in_ok-functions.ensures c.loop-decl.invariant

pub returns : goal.returns
returns c =
    gather_end function_in (typed_function c.args.section.now
    (called c.args.scope.now.callees)) c.args.decls.now c.loop-decl.decl-index c.loop-decl.functions _
    c.loop-decl-test.false c.loop-decl.invariant
