use Rattle.sc_ast.proofs.Common.{comma, drop, flat_map, param_words, text_of, ◌++◌, ◌≡◌}
use Rattle.sc_ast.proofs.print.decl.append_params.Given as goal

-- what is there and what is left to add is what is to be there
abbrev pub invariant-loop-param : goal.invariant-loop-param
invariant-loop-param l = l.out ++ text_of (flat_map (λ param. comma ++ param_words param) (drop l.param-index l.rest)) ≡
    l.initial.out ++ text_of (flat_map (λ param. comma ++ param_words param) l.rest)
