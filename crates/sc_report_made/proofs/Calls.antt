-- The statements of `main`: a call of each function, what it gives is written, and the end.
use Rattle.sc_report_made.proofs.Common.{AllByRecursion, Even, ExprTree, List, Nested, Number, Piece, StmtTree, [], ap}
use Rattle.sc_report_made.proofs.Common.{append-nil, append_assoc, argument, arith, blank, call_kind, made_call}
use Rattle.sc_report_made.proofs.Common.{calls_tree, codes, decimal, digits, even_equal, even_ident, even_keyword}
use Rattle.sc_report_made.proofs.Common.{even_literal, even_semicolon, expr_height, expr_words, fits, flat_map}
use Rattle.sc_report_made.proofs.Common.{function_name, is_ident, is_kept, is_kept_stmt, line_of, literal, literal_text}
use Rattle.sc_report_made.proofs.Common.{nested_blank, nested_even, nested_level, nested_line, nested_none}
use Rattle.sc_report_made.proofs.Common.{nested_parens, output_kind, refl, return_kind, return_words, rules, stmt_at}
use Rattle.sc_report_made.proofs.Common.{stmt_height, stmt_layout, subst, suc, sym, text_of, true, word, ℕ, ◌++◌, ◌<◌}
use Rattle.sc_report_made.proofs.Common.{◌∙◌, ◌∷◌, ◌≡◌, ◌≤◌}
unfoldable use Rattle.sc_base.specs.Prelude.{is_name, is_reserved}
use Rattle.sc_ast.specs.declared.expr.ExprTree as exprs
use Rattle.sc_ast.specs.declared.expr.ExprTree.TheVariants as expr
use Rattle.sc_ast.specs.declared.stmt.StmtTree as stmts
use Rattle.sc_ast.specs.declared.stmt.StmtKind as kinds
use Rattle.sc_ast.specs.declared.stmt.StmtKind.TheVariants as stmt
use Rattle.sc_parse_expr.specs.declared.mark.Keyword.TheVariants as keyword
unfoldable use Rattle.sc_parse_print_laws.specs.Prelude.{word_symbol}
use Rattle.sc_report_made.proofs.Spelled.{argument_fits, function_ident, literal_number}
use Rattle.sc_report_made.proofs.Lines.{AreLines, IsLine, more_lines, no_lines, printed_line}

r_ident : is_ident (codes "r") ≡ true
unfolding is_name is_reserved
r_ident = refl

pub output_ident : is_ident (codes "output") ≡ true
unfolding is_name is_reserved
output_ident = refl

-- `r = f0(7);`

abbrev called : List ℕ → Number → StmtTree
called name n = stmt_at 0 (stmt.AssignCall (expr.Variable (codes "r"))
    (record { name = name; args = expr.Literal n ∷ [] }))

abbrev called_pieces : List ℕ → Number → List Piece
called_pieces name n = word (codes "r") ∷ blank ∷ word (codes "=") ∷ blank ∷ word name ∷ word (codes "(") ∷
    word (literal_text n) ∷ word (codes ")") ∷ word (codes ";") ∷ []

called_laid : (name : List ℕ) (n : Number) → (stmt_layout (called name n)).words 1 ≡ called_pieces name n
called_laid name n = search (rules, exprs.the_lemmas, kinds.the_lemmas, stmts.the_lemmas)

called_kept : (name : List ℕ) (n : Number) → is_ident name ≡ true → fits n ≡ true → is_ident (codes "r") ≡ true →
    is_kept_stmt (called name n) ≡ true
called_kept name n k i r = search (rules, exprs.the_lemmas, kinds.the_lemmas, stmts.the_lemmas, k, i, r)

called_low : (name : List ℕ) (n : Number) → stmt_height (called name n) ≡ 2
called_low name n = search (arith, rules, exprs.the_lemmas, kinds.the_lemmas, stmts.the_lemmas)

called_nested : (name : List ℕ) (n : Number) → is_ident name ≡ true → fits n ≡ true →
    Nested 3 (line_of 1 (called_pieces name n))
called_nested name n k i = nested_level 1 (nested_even (even_ident (codes "r") r_ident) (nested_blank
    (nested_even even_equal (nested_blank (nested_even (even_ident name k) (nested_parens
    (nested_even (even_literal n i) nested_none) (nested_even even_semicolon (nested_line nested_none))))))))

call_line : (seed j : ℕ) → j < 1000 → IsLine (stmt_at 0 (call_kind seed j))
    (codes "  r = " ++ (function_name j ++ (codes "(" ++ (decimal (argument seed j) ++ codes ");\n"))))
call_line seed j low =
    let n = literal_number (argument seed j) in
    let name = function_name j in
    let k = function_ident j low in
    let i = argument_fits seed j in
    printed_line (called name n)
    (codes "  r = " ++ (name ++ (codes "(" ++ (decimal (argument seed j) ++ codes ");\n"))))
    (called_kept name n k i r_ident) (omega (arith, called_low name n))
    (ap (λ ps. text_of (line_of 1 ps)) (called_laid name n) ∙
    ap (λ d. codes "  r = " ++ (name ++ (codes "(" ++ (d ++ codes ");\n")))) (append-nil (decimal (argument seed j))))
    (subst (λ ps. Nested 3 (line_of 1 ps)) (sym (called_laid name n)) (called_nested name n k i))

-- `output(r);`

abbrev written : StmtTree
written = stmt_at 0 output_kind

abbrev written_pieces : List Piece
written_pieces = word (codes "output") ∷ word (codes "(") ∷ word (codes "r") ∷ word (codes ")") ∷ word (codes ";") ∷ []

written_laid : (stmt_layout written).words 1 ≡ written_pieces
written_laid = search (rules, exprs.the_lemmas, kinds.the_lemmas, stmts.the_lemmas)

written_kept : is_ident (codes "output") ≡ true → is_ident (codes "r") ≡ true → is_kept_stmt written ≡ true
written_kept k r = search (rules, exprs.the_lemmas, kinds.the_lemmas, stmts.the_lemmas, k, r)

written_low : stmt_height written ≡ 2
written_low = search (arith, rules, exprs.the_lemmas, kinds.the_lemmas, stmts.the_lemmas)

written_nested : Nested 3 (line_of 1 written_pieces)
written_nested = nested_level 1 (nested_even (even_ident (codes "output") output_ident) (nested_parens
    (nested_even (even_ident (codes "r") r_ident) nested_none) (nested_even even_semicolon (nested_line nested_none))))

output_line : IsLine written (codes "  output(r);\n")
output_line = printed_line written (codes "  output(r);\n") (written_kept output_ident r_ident)
    (omega (arith, written_low)) (ap (λ ps. text_of (line_of 1 ps)) written_laid)
    (subst (λ ps. Nested 3 (line_of 1 ps)) (sym written_laid) written_nested)

-- `return 0;`

return_laid : (e : ExprTree) → (stmt_layout (stmt_at 0 (return_kind e))).words 1 ≡ return_words (expr_words e)
return_laid e = search (rules, exprs.the_lemmas, kinds.the_lemmas, stmts.the_lemmas)

return_kept : (e : ExprTree) → is_kept e ≡ true → is_kept_stmt (stmt_at 0 (return_kind e)) ≡ true
return_kept e k = search (rules, exprs.the_lemmas, kinds.the_lemmas, stmts.the_lemmas, k)

return_low : (e : ExprTree) → stmt_height (stmt_at 0 (return_kind e)) ≡ suc (expr_height e)
return_low e = search (arith, rules, exprs.the_lemmas, kinds.the_lemmas, stmts.the_lemmas)

-- what is returned is one word
pub return_line : (e : ExprTree) (text : List ℕ) → is_kept e ≡ true → expr_height e ≤ 1 →
    expr_words e ≡ word text ∷ [] → Even (word_symbol text) →
    IsLine (stmt_at 0 (return_kind e)) (codes "  return " ++ (text ++ codes ";\n"))
return_line e text kept low is even =
    let laid : (stmt_layout (stmt_at 0 (return_kind e))).words 1 ≡ return_words (word text ∷ []) =
    return_laid e ∙ ap return_words is in
    printed_line (stmt_at 0 (return_kind e)) (codes "  return " ++ (text ++ codes ";\n")) (return_kept e kept)
    (omega (arith, return_low e, low)) (ap (λ ps. text_of (line_of 1 ps)) laid)
    (subst (λ ps. Nested 3 (line_of 1 ps)) (sym laid) (nested_level 1 (nested_even (even_keyword keyword.Return)
    (nested_blank (nested_even even (nested_even even_semicolon (nested_line nested_none)))))))

zero_words : expr_words (literal 0) ≡ word (literal_text (literal_number 0)) ∷ []
zero_words = search (rules, exprs.the_lemmas)

zero_kept : is_kept (literal 0) ≡ true
zero_kept = search (rules, exprs.the_lemmas)

zero_low : expr_height (literal 0) ≡ 1
zero_low = search (rules, exprs.the_lemmas)

zero_text : codes "  return " ++ (literal_text (literal_number 0) ++ codes ";\n") ≡ codes "  return 0;\n"
unfolding digits
zero_text = refl

end_line : IsLine (stmt_at 0 (return_kind (literal 0))) (codes "  return 0;\n")
end_line = subst (IsLine (stmt_at 0 (return_kind (literal 0)))) zero_text (return_line (literal 0)
    (literal_text (literal_number 0)) zero_kept (omega (arith, zero_low)) zero_words
    (even_literal (literal_number 0) refl))

-- a text of four parts, and what follows it
pub four_parts : (a m b r more : List ℕ) → (a ++ (m ++ (b ++ r))) ++ more ≡ a ++ (m ++ (b ++ (r ++ more)))
four_parts a m b r more = append_assoc a (m ++ (b ++ r)) more ∙ ap (λ t. a ++ t)
    (append_assoc m (b ++ r) more ∙ ap (λ t. m ++ t) (append_assoc b r more))

-- the statements of `main` from these functions on
pub calls_are : (seed : ℕ) (js : List ℕ) → AllByRecursion (λ j. j < 1000) js →
    AreLines (flat_map (calls_tree seed) js ++ stmt_at 0 (return_kind (literal 0)) ∷ [])
    (flat_map (made_call seed) js ++ codes "  return 0;\n")
calls_are seed [] low = more_lines end_line no_lines
calls_are seed (j ∷ js) low =
    let texts : List ℕ = flat_map (made_call seed) js in
    let rest : List ℕ = texts ++ codes "  return 0;\n" in
    let d : List ℕ = decimal (argument seed j) in
    let text : codes "  r = f" ++ ((decimal j ++ (codes "(" ++ (d ++ codes ");\n"))) ++
    (codes "  output(r);\n" ++ rest)) ≡ (made_call seed j ++ texts) ++ codes "  return 0;\n" =
    ap (λ t. codes "  r = f" ++ t) (four_parts (decimal j) (codes "(") d (codes ");\n")
    (codes "  output(r);\n" ++ rest) ∙
    sym (four_parts (decimal j) (codes "(") d (codes ");\n  output(r);\n") rest)) ∙
    sym (append_assoc (made_call seed j) texts (codes "  return 0;\n")) in
    subst (AreLines (flat_map (calls_tree seed) (j ∷ js) ++ stmt_at 0 (return_kind (literal 0)) ∷ [])) text
    (more_lines (call_line seed j low.0) (more_lines output_line (calls_are seed js low.1)))
