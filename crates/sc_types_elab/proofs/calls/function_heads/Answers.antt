-- The heads of declarations, one after another.
use Rattle.sc_types_elab.proofs.Common.{function_in, function_name, function_signature}
use Rattle.sc_types_elab.proofs.Gathered.{gather_more, gather_end}
use Rattle.sc_types_elab.proofs.calls.function_heads.Goals as goal

pub loop-decl-preserved : goal.loop-decl-preserved
loop-decl-preserved c = record {
  names = gather_more function_in function_name c.args.decls.now c.loop-decl.decl-index c.decl-item.result
      c.loop-decl.heads.names c.in_ok-heads.heads.names _ c.loop-decl-test.true c.decl-item.is
      c.in_ok-heads.ensures.names c.loop-decl.invariant.names;
  signatures = gather_more function_in (function_signature c.args.tags.now) c.args.decls.now c.loop-decl.decl-index
      c.decl-item.result c.loop-decl.heads.signatures c.in_ok-heads.heads.signatures _ c.loop-decl-test.true
      c.decl-item.is c.in_ok-heads.ensures.signatures c.loop-decl.invariant.signatures;
}

pub returns : goal.returns
returns c = record {
  names = gather_end function_in function_name c.args.decls.now c.loop-decl.decl-index c.loop-decl.heads.names _
      c.loop-decl-test.false c.loop-decl.invariant.names;
  signatures = gather_end function_in (function_signature c.args.tags.now) c.args.decls.now c.loop-decl.decl-index
      c.loop-decl.heads.signatures _ c.loop-decl-test.false c.loop-decl.invariant.signatures;
}
