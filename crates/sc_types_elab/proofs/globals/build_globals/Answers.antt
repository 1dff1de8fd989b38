-- What is made of each declaration of a kind.
use Rattle.sc_types_elab.proofs.Common.{global_in, typed_global}
use Rattle.sc_types_elab.proofs.Gathered.{gather_more, gather_end}
use Rattle.sc_types_elab.proofs.globals.build_globals.Goals as goal

pub loop-decl-preserved : goal.loop-decl-preserved
loop-decl-preserved c =
    gather_more global_in (typed_global c.args.tags.now) c.args.decls.now c.loop-decl.decl-index c.decl-item.result
    c.loop-decl.globals c.in_ok-globals.globals _ c.loop-decl-test.true c.decl-item.is c.in_ok-globals.ensures
    c.loop-decl.invariant

pub returns : goal.returns
returns c =
    gather_end global_in (typed_global c.args.tags.now) c.args.decls.now c.loop-decl.decl-index c.loop-decl.globals _
    c.loop-decl-test.false c.loop-decl.invariant
