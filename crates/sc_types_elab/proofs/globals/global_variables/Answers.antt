-- What is made of each declaration of a kind.
use Rattle.sc_types_elab.proofs.Common.{global_in, global_variable}
use Rattle.sc_types_elab.proofs.Gathered.{gather_more, gather_end}
use Rattle.sc_types_elab.proofs.globals.global_variables.Goals as goal

pub loop-decl-preserved : goal.loop-decl-preserved
loop-decl-preserved c =
    gather_more global_in (global_variable c.args.tags.now) c.args.decls.now c.loop-decl.decl-index c.decl-item.result
    c.loop-decl.variables c.in_ok-variables.variables _ c.loop-decl-test.true c.decl-item.is
    c.in_ok-variables.ensures c.loop-decl.invariant

pub returns : goal.returns
returns c =
    gather_end global_in (global_variable c.args.tags.now) c.args.decls.now c.loop-decl.decl-index c.loop-decl.variables
    _ c.loop-decl-test.false c.loop-decl.invariant
