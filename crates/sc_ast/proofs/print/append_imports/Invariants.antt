use Rattle.sc_ast.proofs.Common.{drop, flat_map, import_words, text_of, ◌++◌, ◌≡◌}
use Rattle.sc_ast.proofs.print.append_imports.Given as goal

-- what is there and what is left to add is what is to be there
abbrev pub invariant-loop-import : goal.invariant-loop-import
invariant-loop-import l = l.out ++ text_of (flat_map import_words (drop l.import-index l.import-items)) ≡
    l.initial.out ++ text_of (flat_map import_words l.imports)
