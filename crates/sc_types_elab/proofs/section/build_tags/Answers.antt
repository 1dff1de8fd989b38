-- What is made of each declaration of a kind.
use Rattle.sc_types_elab.proofs.Common.{struct_in, struct_name}
use Rattle.sc_types_elab.proofs.Gathered.{gather_more, gather_end}
use Rattle.sc_types_elab.proofs.section.build_tags.Goals as goal

pub loop-decl-preserved : goal.loop-decl-preserved
loop-decl-preserved c =
    gather_more struct_in struct_name c.args.decls.now c.loop-decl.decl-index c.decl-item.result c.loop-decl.tags
    c.push_tag.new.tags _ c.loop-decl-test.true c.decl-item.is c.in_ok-push_tag.ensures c.loop-decl.invariant

pub returns : goal.returns
returns c =
    gather_end struct_in struct_name c.args.decls.now c.loop-decl.decl-index c.loop-decl.tags _ c.loop-decl-test.false
    c.loop-decl.invariant
