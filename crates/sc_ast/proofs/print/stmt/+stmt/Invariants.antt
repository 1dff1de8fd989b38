use Rattle.sc_ast.proofs.Common.{chain_words, drop, layouts, lines_at, text_of, ◌++◌, ◌≡◌}
use Rattle.sc_ast.proofs.print.stmt.+stmt.Given as goal

-- what is there and what is left of the lines is what is to be there
abbrev pub invariant-append_lines-loop-stmt : goal.invariant-append_lines-loop-stmt
invariant-append_lines-loop-stmt l = l.out ++ text_of (lines_at l.depth (layouts (drop l.stmt-index l.stmt-items))) ≡
    l.initial.out ++ text_of (lines_at l.depth (layouts l.stmts))

abbrev pub invariant-append_chain-loop-stmt : goal.invariant-append_chain-loop-stmt
invariant-append_chain-loop-stmt l = l.out ++ text_of (chain_words l.depth (layouts (drop l.stmt-index l.stmt-items))) ≡
    l.initial.out ++ text_of (chain_words l.depth (layouts l.stmts))
