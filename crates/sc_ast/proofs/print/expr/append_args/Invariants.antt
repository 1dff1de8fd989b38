use Rattle.sc_ast.proofs.Common.{comma, drop, expr_words, flat_map, text_of, ◌++◌, ◌≡◌}
use Rattle.sc_ast.proofs.print.expr.append_args.Given as goal

-- what is there and what is left of the arguments is what is to be there
abbrev pub invariant-loop-arg : goal.invariant-loop-arg
invariant-loop-arg l = l.out ++ text_of (flat_map (λ arg. comma ++ expr_words arg) (drop l.arg-index l.rest)) ≡
    l.initial.out ++ text_of (flat_map (λ arg. comma ++ expr_words arg) l.rest)
