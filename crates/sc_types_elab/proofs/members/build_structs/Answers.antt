-- Structs over those before them.
use Rattle.sc_types_elab.proofs.Offsets.{structs_more, structs_end}
use Rattle.sc_types_elab.proofs.members.build_structs.Goals as goal

pub loop-decl-preserved : goal.loop-decl-preserved
loop-decl-preserved c =
    structs_more c.args.tags.now c.args.decls.now c.loop-decl.decl-index c.decl-item.result c.loop-decl.structs
    c.in_ok-structs.structs _ c.loop-decl-test.true c.decl-item.is c.in_ok-structs.ensures c.loop-decl.invariant

pub returns : goal.returns
returns c =
    structs_end c.args.tags.now c.args.decls.now c.loop-decl.decl-index c.loop-decl.structs _ c.loop-decl-test.false
    c.loop-decl.invariant
