-- The heads of declarations, one after another.
use Rattle.sc_types_elab.proofs.Common.{FunctionTree, ap, function_decls, head_in, head_name, head_of, heads_in, map}
use Rattle.sc_types_elab.proofs.Common.{signature_by, ◌++◌, ◌∙◌}
use Rattle.sc_types_elab.proofs.Gathered.{gather_more, gather_end, made_of_both}
use Rattle.sc_types_elab.proofs.calls.calling_heads.Goals as goal

pub loop-decl-init : goal.loop-decl-init
loop-decl-init c = record {
  names = ap (λ l. l ++ map head_name (heads_in c.args.decls.now)) c.in_ok-heads.ensures.names ∙
      made_of_both head_name (λ (tree : FunctionTree). head_of tree.head) (function_decls c.args.decls.now)
      (heads_in c.args.decls.now);
  signatures = ap (λ l. l ++ map (signature_by c.args.tags.now)
      (heads_in c.args.decls.now)) c.in_ok-heads.ensures.signatures ∙
      made_of_both (signature_by c.args.tags.now) (λ (tree : FunctionTree). head_of tree.head)
      (function_decls c.args.decls.now) (heads_in c.args.decls.now);
}

pub loop-decl-preserved : goal.loop-decl-preserved
loop-decl-preserved c = record {
  names = gather_more head_in head_name c.args.decls.now c.loop-decl.decl-index c.decl-item.result
      c.loop-decl.heads.names c.in_ok-heads-2.heads.names _ c.loop-decl-test.true c.decl-item.is
      c.in_ok-heads-2.ensures.names c.loop-decl.invariant.names;
  signatures = gather_more head_in (signature_by c.args.tags.now) c.args.decls.now c.loop-decl.decl-index
      c.decl-item.result c.loop-decl.heads.signatures c.in_ok-heads-2.heads.signatures _ c.loop-decl-test.true
      c.decl-item.is c.in_ok-heads-2.ensures.signatures c.loop-decl.invariant.signatures;
}

pub returns : goal.returns
returns c = record {
  names = gather_end head_in head_name c.args.decls.now c.loop-decl.decl-index c.loop-decl.heads.names _
      c.loop-decl-test.false c.loop-decl.invariant.names;
  signatures = gather_end head_in (signature_by c.args.tags.now) c.args.decls.now c.loop-decl.decl-index
      c.loop-decl.heads.signatures _ c.loop-decl-test.false c.loop-decl.invariant.signatures;
}
