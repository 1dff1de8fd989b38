use Rattle.sc_top.proofs.Common.{Interfaces, IsCompiling, IsNamed, ap, of_compile_fault, subst, sym, ◌∙◌}
use Rattle.sc_top.proofs.Large.{in_two_cases, named_fault, why_not_compiled}
use Rattle.sc_top.proofs.object.compiled_object.Goals as goal

pub compile_failure-requires : goal.compile_failure-requires
compile_failure-requires c =
    subst (λ (names : Interfaces). IsNamed names c.in-Err.fault) (sym c.interfaces.ensures)
    (named_fault c.args.program.now c.tree-tree.ensures.typed c.in-Err.fault
    (in_two_cases c.args.program.now c.in-Err.fault c.in-Err.ensures.fault))

pub returns-in-Err-clause-cause : goal.returns-in-Err-clause-cause
returns-in-Err-clause-cause c =
    subst (IsCompiling c.args.program.now) (sym (c.compile_failure.ensures ∙
    ap (λ (names : Interfaces). of_compile_fault names c.in-Err.fault) c.interfaces.ensures))
    (why_not_compiled c.args.program.now c.in-Err.fault
    (in_two_cases c.args.program.now c.in-Err.fault c.in-Err.ensures.fault))
