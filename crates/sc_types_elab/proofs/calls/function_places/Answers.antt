-- What is made of each declaration of a kind.
use Rattle.sc_types_elab.proofs.Common.{function_in, function_name}
use Rattle.sc_types_elab.proofs.Gathered.{gather_more, gather_end}
use Rattle.sc_types_elab.proofs.calls.function_places.Goals as goal

pub loop-decl-preserved : goal.loop-decl-preserved
loop-decl-preserved c =
    gather_more function_in function_name c.args.decls.now c.loop-decl.decl-index c.decl-item.result c.loop-decl.places
    c.push_function_name.new.places _ c.loop-decl-test.true c.decl-item.is c.in_ok-push_function_name.ensures
    c.loop-decl.invariant

pub returns : goal.returns
returns c =
    gather_end function_in function_name c.args.decls.now c.loop-decl.decl-index c.loop-decl.places _
    c.loop-decl-test.false c.loop-decl.invariant
