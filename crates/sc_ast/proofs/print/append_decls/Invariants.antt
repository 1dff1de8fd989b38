use Rattle.sc_ast.proofs.Common.{decl_words, drop, flat_map, text_of, ◌++◌, ◌≡◌}
use Rattle.sc_ast.proofs.print.append_decls.Given as goal

-- what is there and what is left to add is what is to be there
abbrev pub invariant-loop-decl : goal.invariant-loop-decl
invariant-loop-decl l = l.out ++ text_of (flat_map decl_words (drop l.decl-index l.decl-items)) ≡ l.initial.out ++
    text_of (flat_map decl_words l.decls)
