use Rattle.sc_compile.proofs.Common.{All, IsCounted, ap, subst, sym, ◌∙◌}
use Rattle.sc_compile.proofs.Counted.{are_counted}
use Rattle.sc_compile.proofs.passes.check.Goals as goal

pub check_sizes-requires-clause-counted : goal.check_sizes-requires-clause-counted
check_sizes-requires-clause-counted c =
    subst (All IsCounted) (sym (c.as_slice.ensures ∙ ap (λ p. p.sections) c.tree.ensures.tree))
    (are_counted c.args.program.now c.tree.ensures.typed)
