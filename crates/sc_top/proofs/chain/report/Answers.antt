use Rattle.sc_top.proofs.Common.{All, Interfaces, IsKnown, IsWellTyped, ProgramTree, ap, subst, sym, ◌∙◌}
use Rattle.sc_top.proofs.Known.{legal_known}
use Rattle.sc_top.proofs.chain.report.Goals as goal

pub explain_text-requires : goal.explain_text-requires
explain_text-requires c =
    let program = c.program-program.ensures.program in
    subst (λ (names : Interfaces). All (IsKnown names) c.args.explanation.now.trace)
    (sym (c.interfaces-interfaces.ensures ∙ ap (λ (program : ProgramTree). program.interfaces) program))
    (legal_known c.args.source.now.program c.args.explanation.now.trace
    (subst IsWellTyped program c.tree-tree.ensures.typed) c.requires)
