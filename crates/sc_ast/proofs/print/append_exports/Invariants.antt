use Rattle.sc_ast.proofs.Common.{drop, export_words, flat_map, text_of, ◌++◌, ◌≡◌}
use Rattle.sc_ast.proofs.print.append_exports.Given as goal

-- what is there and what is left to add is what is to be there
abbrev pub invariant-loop-export : goal.invariant-loop-export
invariant-loop-export l = l.out ++ text_of (flat_map export_words (drop l.export-index l.export-items)) ≡
    l.initial.out ++ text_of (flat_map export_words l.exports)
