use Rattle.sc_ast.proofs.Common.{comma, const_words, drop, flat_map, text_of, ◌++◌, ◌≡◌}
use Rattle.sc_ast.proofs.print.decl.append_consts.Given as goal

-- what is there and what is left to add is what is to be there
abbrev pub invariant-loop-constant : goal.invariant-loop-constant
invariant-loop-constant l = l.out ++ text_of (flat_map (λ constant. comma ++ const_words constant)
    (drop l.constant-index l.rest)) ≡ l.initial.out ++
    text_of (flat_map (λ constant. comma ++ const_words constant) l.rest)
