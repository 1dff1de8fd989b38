use Rattle.sc_top.proofs.Common.{Interfaces, IsCompiling, IsFault, IsNamed, ap, inl, of_compile_fault, subst, sym, ◌∙◌}
use Rattle.sc_top.proofs.Large.{named_fault, why_not_compiled}
use Rattle.sc_top.proofs.account.explain_failure.Goals as goal

pub compile_failure-requires : goal.compile_failure-requires
compile_failure-requires c =
    subst (λ (names : Interfaces). IsNamed names c.in-CompileFault.fault) (sym c.interfaces.ensures)
    (named_fault c.args.program.now c.tree-tree.ensures.typed c.in-CompileFault.fault
    (inl (subst (IsFault c.args.program.now) c.in-CompileFault.is c.requires)))

pub returns-in-CompileFault : goal.returns-in-CompileFault
returns-in-CompileFault c =
    subst (IsCompiling c.args.program.now) (sym (c.compile_failure.ensures ∙
    ap (λ (names : Interfaces). of_compile_fault names c.in-CompileFault.fault) c.interfaces.ensures))
    (why_not_compiled c.args.program.now c.in-CompileFault.fault
    (inl (subst (IsFault c.args.program.now) c.in-CompileFault.is c.requires)))
