-- The loop in a worker's function, whose `i++` is the words of no tree.
use Rattle.sc_report_made.proofs.Common.{ExprTree, Free, List, Nested, Part, Piece, Reading, Some, StmtTree, []}
use Rattle.sc_report_made.proofs.Common.{add_kind, all_at, and_from, ap, are_kept, arith, at_level, below, blank}
use Rattle.sc_report_made.proofs.Common.{block_words, codes, digits, even_binary, even_equal, even_ident, even_keyword}
use Rattle.sc_report_made.proofs.Common.{even_literal, even_semicolon, even_step, everywhere, expr_tidy, expr_words}
use Rattle.sc_report_made.proofs.Common.{first_line, first_words, fixed, for_with, gap, indent, is_ident, is_kept}
use Rattle.sc_report_made.proofs.Common.{is_kept_stmt, is_place, kept_option, layouts, line_end, line_of, line_symbols}
use Rattle.sc_report_made.proofs.Common.{lines_at, literal_text, lone, loop_kind, nested_blank, nested_curly}
use Rattle.sc_report_made.proofs.Common.{nested_even, nested_level, nested_line, nested_more, nested_none}
use Rattle.sc_report_made.proofs.Common.{nested_parens, nested_square, newline, next, next_at, no_lines, none, part}
use Rattle.sc_report_made.proofs.Common.{place_words, reads, refl, rules, simple_tidy, start_at, stmt_at, stmt_height}
use Rattle.sc_report_made.proofs.Common.{stmt_layout, stmts_tidy, store_kind, subst, sym, text_of, tidy_append, tidy_at}
use Rattle.sc_report_made.proofs.Common.{true, variable, word, written, ◌++◌, ◌∙◌, ◌∷◌, ◌≡◌, ◌≤◌}
use Rattle.sc_base.specs.declared.op.BinaryOp.TheVariants as binary
unfoldable use Rattle.sc_base.specs.Prelude.{is_name, is_reserved}
use Rattle.sc_ast.specs.declared.expr.ExprTree as exprs
use Rattle.sc_ast.specs.declared.stmt.StmtTree as stmts
use Rattle.sc_ast.specs.declared.stmt.StmtKind as kinds
use Rattle.sc_parse_expr.specs.declared.mark.Keyword.TheVariants as keyword
use Rattle.sc_parse_expr.specs.declared.mark.Mark.TheVariants as mark
use Rattle.sc_parse.specs.Statements as spell
use Rattle.sc_parse_print_laws.proofs.Spacing as apart
use Rattle.sc_parse_print_laws.proofs.Spelling.{spelled_at}
use Rattle.sc_parse_print_laws.proofs.Tables as tables
use Rattle.sc_report_made.proofs.Spelled.{literal_number}
use Rattle.sc_report_made.proofs.Lines.{IsLine, Spelled}

-- names

pub i_ident : is_ident (codes "i") ≡ true
unfolding is_name is_reserved
i_ident = refl

pub s_ident : is_ident (codes "s") ≡ true
unfolding is_name is_reserved
s_ident = refl

pub t_ident : is_ident (codes "t") ≡ true
unfolding is_name is_reserved
t_ident = refl

pub x_ident : is_ident (codes "x") ≡ true
unfolding is_name is_reserved
x_ident = refl

-- the body of the loop

abbrev store : StmtTree
store = stmt_at 0 store_kind

abbrev add : StmtTree
add = stmt_at 0 add_kind

abbrev body : List StmtTree
body = store ∷ add ∷ []

-- `t[i & 15]`, and what follows it
abbrev element_pieces : List Piece → List Piece
element_pieces more = word (codes "t") ∷ word (codes "[") ∷ word (codes "i") ∷ blank ∷ word (codes "&") ∷ blank ∷
    word (literal_text (literal_number 15)) ∷ word (codes "]") ∷ more

abbrev store_pieces : List Piece
store_pieces = element_pieces (blank ∷ word (codes "=") ∷ blank ∷ word (codes "x") ∷ blank ∷ word (codes "+") ∷ blank ∷
    word (codes "i") ∷ word (codes ";") ∷ [])

abbrev add_pieces : List Piece
add_pieces = word (codes "s") ∷ blank ∷ word (codes "=") ∷ blank ∷ word (codes "s") ∷ blank ∷ word (codes "+") ∷ blank ∷
    element_pieces (word (codes ";") ∷ [])

store_laid : (stmt_layout store).words 2 ≡ store_pieces
store_laid = search (rules, exprs.the_lemmas, kinds.the_lemmas, stmts.the_lemmas)

add_laid : (stmt_layout add).words 2 ≡ add_pieces
add_laid = search (rules, exprs.the_lemmas, kinds.the_lemmas, stmts.the_lemmas)

store_kept : is_ident (codes "i") ≡ true → is_ident (codes "t") ≡ true → is_ident (codes "x") ≡ true →
    is_kept_stmt store ≡ true
store_kept i t x = search (rules, exprs.the_lemmas, kinds.the_lemmas, stmts.the_lemmas, i, t, x)

add_kept : is_ident (codes "i") ≡ true → is_ident (codes "s") ≡ true → is_ident (codes "t") ≡ true →
    is_kept_stmt add ≡ true
add_kept i s t = search (rules, exprs.the_lemmas, kinds.the_lemmas, stmts.the_lemmas, i, s, t)

body_kept : are_kept body ≡ true
body_kept = and_from (is_kept_stmt store) (are_kept (add ∷ [])) (store_kept i_ident t_ident x_ident)
    (and_from (is_kept_stmt add) true (add_kept i_ident s_ident t_ident) refl)

-- the head of the loop

abbrev i_tree : ExprTree
i_tree = variable (codes "i")

i_words : place_words i_tree ≡ word (codes "i") ∷ []
i_words = search (rules, exprs.the_lemmas)

i_kept : is_ident (codes "i") ≡ true → is_kept i_tree ≡ true
i_kept i = search (rules, exprs.the_lemmas, i)

i_place : is_place i_tree ≡ true
i_place = search (rules, exprs.the_lemmas)

start_kept : is_ident (codes "i") ≡ true → kept_option (Some (start_at 0)) ≡ true
start_kept i = search (rules, exprs.the_lemmas, i)

start_words : first_words (Some (start_at 0)) ≡ word (codes "i") ∷ blank ∷ word (codes "=") ∷ blank ∷
    word (literal_text (literal_number 0)) ∷ []
start_words = search (rules, exprs.the_lemmas)

below_kept : is_ident (codes "i") ≡ true → is_kept below ≡ true
below_kept i = search (rules, exprs.the_lemmas, i)

below_words : expr_words below ≡ word (codes "i") ∷ blank ∷ word (codes "<") ∷ blank ∷
    word (literal_text (literal_number 64)) ∷ []
below_words = search (rules, exprs.the_lemmas)

-- ` i++`
abbrev turn : List Piece
turn = blank ∷ (place_words i_tree ++ word (codes "++") ∷ [])

turn_reads : Reading turn (λ ts. Part ts (Some (next_at 0)))
turn_reads = reads (fixed blank ∷ part (place_words i_tree) ∷ written (codes "++") ∷ [])
    (λ ts. Part ts (Some (next_at 0))) (λ ts said t is.
    record {
      other = Some (next_at (first_line (ts ++ t ∷ [])));
      spelled = spell.a_part (
        spell.step_after t mark.PlusPlus binary.Add (is ∙ tables.lone_says tables.plus_plus) refl
            (spelled_at i_tree (i_kept i_ident) [] 1 ts said, i_place),
        refl,
      );
      same = refl;
    })

-- The whole loop.

abbrev loop : StmtTree
loop = stmt_at 0 (loop_kind no_lines)

-- its words, by its parts
abbrev loop_words : List Piece
loop_words = word (codes "for") ∷ blank ∷ word (codes "(") ∷ (first_words (Some (start_at 0)) ++ word (codes ";") ∷
    blank ∷ (expr_words below ++ word (codes ";") ∷ (turn ++ word (codes ")") ∷ blank ∷ block_words 1 (layouts body))))

abbrev block_pieces : List Piece → List Piece
block_pieces more = word (codes "{") ∷ newline ∷ indent 2 ∷ (store_pieces ++ newline ∷ indent 2 ∷
    (add_pieces ++ newline ∷ indent 1 ∷ word (codes "}") ∷ more))

abbrev loop_pieces : List Piece → List Piece
loop_pieces more = word (codes "for") ∷ blank ∷ word (codes "(") ∷ word (codes "i") ∷ blank ∷ word (codes "=") ∷
    blank ∷ word (literal_text (literal_number 0)) ∷ word (codes ";") ∷ blank ∷ word (codes "i") ∷ blank ∷
    word (codes "<") ∷ blank ∷ word (literal_text (literal_number 64)) ∷ word (codes ";") ∷ blank ∷ word (codes "i") ∷
    word (codes "++") ∷ word (codes ")") ∷ blank ∷ block_pieces more

loop_is : line_of 1 loop_words ≡ indent 1 ∷ loop_pieces (newline ∷ [])
loop_is = rw (start_words, below_words, i_words, store_laid, add_laid)

loop_reads : Reading loop_words (λ ts. Spelled ts loop)
loop_reads ts said =
    let emitted = for_with (Some (start_at 0)) below (Some (next_at 0)) body turn (start_kept i_ident)
    (below_kept i_ident)
    turn_reads (everywhere body) (all_at body body_kept) 1 ts said in
    record { kind = emitted.kind; spelled = emitted.spelled; same = emitted.same }

loop_low : stmt_height loop ≤ 8
loop_low = search (arith, rules, exprs.the_lemmas, kinds.the_lemmas, stmts.the_lemmas)

block_tidy : Free (block_words 1 (layouts body))
block_tidy rest = lone tables.open_curly (line_end (tidy_append (lines_at 2 (layouts body))
    (indent 1 ∷ word (codes "}") ∷ []) rest (stmts_tidy body body_kept 2 _)
    (at_level 1 (lone tables.close_curly none))))

turn_tidy : Free turn
turn_tidy rest = gap (tidy_append (place_words i_tree) (word (codes "++") ∷ []) rest
    (tidy_at i_tree (i_kept i_ident) [] 1 _ refl).0 (lone tables.plus_plus none))

loop_tidy : Free loop_words
loop_tidy rest =
    let following : List Piece = word (codes ")") ∷ blank ∷ block_words 1 (layouts body) in
    let test : List Piece = word (codes ";") ∷ (turn ++ following) in
    next (apart.keyword_word keyword.For _ refl) (gap (lone tables.open_paren
    (tidy_append (first_words (Some (start_at 0))) (word (codes ";") ∷ blank ∷ (expr_words below ++ test)) rest
    (simple_tidy (start_at 0).kind (start_kept i_ident) _ refl) (lone tables.semicolon (gap
    (tidy_append (expr_words below) test rest (expr_tidy below (below_kept i_ident) _ refl)
    (lone tables.semicolon (tidy_append turn following rest (turn_tidy _) (lone tables.close_paren
    (gap (block_tidy rest)))))))))))

element_nested : {more : List Piece} → Nested 1 more → Nested 1 (element_pieces more)
element_nested n = nested_even (even_ident (codes "t") t_ident) (nested_square (nested_even
    (even_ident (codes "i") i_ident) (nested_blank (nested_even (even_binary binary.BitAnd) (nested_blank
    (nested_even (even_literal (literal_number 15) refl) nested_none))))) n)

store_nested : {more : List Piece} → Nested 1 more → Nested 1 (store_pieces ++ more)
store_nested n = element_nested (nested_blank (nested_even even_equal (nested_blank (nested_even
    (even_ident (codes "x") x_ident) (nested_blank (nested_even (even_binary binary.Add) (nested_blank (nested_even
    (even_ident (codes "i") i_ident) (nested_even even_semicolon n)))))))))

add_nested : {more : List Piece} → Nested 1 more → Nested 1 (add_pieces ++ more)
add_nested n = nested_even (even_ident (codes "s") s_ident) (nested_blank (nested_even even_equal (nested_blank
    (nested_even (even_ident (codes "s") s_ident) (nested_blank (nested_even (even_binary binary.Add) (nested_blank
    (element_nested (nested_even even_semicolon n)))))))))

-- what stands in the braces
abbrev inside : List Piece
inside = newline ∷ indent 2 ∷ (store_pieces ++ newline ∷ indent 2 ∷ (add_pieces ++ newline ∷ indent 1 ∷ []))

inside_nested : Nested 1 inside
inside_nested = nested_line (nested_level 2 (store_nested (nested_line (nested_level 2 (add_nested (nested_line
    (nested_level 1 nested_none)))))))

head_nested : Nested 1 (word (codes "i") ∷ blank ∷ word (codes "=") ∷ blank ∷
    word (literal_text (literal_number 0)) ∷ word (codes ";") ∷ blank ∷ word (codes "i") ∷ blank ∷ word (codes "<") ∷
    blank ∷ word (literal_text (literal_number 64)) ∷ word (codes ";") ∷ blank ∷ word (codes "i") ∷
    word (codes "++") ∷ [])
head_nested = nested_even (even_ident (codes "i") i_ident) (nested_blank (nested_even even_equal (nested_blank
    (nested_even (even_literal (literal_number 0) refl) (nested_even even_semicolon (nested_blank (nested_even
    (even_ident (codes "i") i_ident) (nested_blank (nested_even (even_binary binary.Less) (nested_blank (nested_even
    (even_literal (literal_number 64) refl) (nested_even even_semicolon (nested_blank (nested_even
    (even_ident (codes "i") i_ident) (nested_even even_step nested_none)))))))))))))))

loop_nested : Nested 3 (indent 1 ∷ loop_pieces (newline ∷ []))
loop_nested =
    let block : Nested 2 (word (codes "{") ∷ (inside ++ word (codes "}") ∷ newline ∷ [])) =
    nested_curly inside_nested (nested_line nested_none) in
    nested_level 1 (nested_more (omega arith) (nested_even (even_keyword keyword.For) (nested_blank
    (nested_parens head_nested (nested_blank block)))))

loop_text : text_of (indent 1 ∷ loop_pieces (newline ∷ [])) ≡
    codes "  for (i = 0; i < 64; i++) {\n    t[i & 15] = x + i;\n    s = s + t[i & 15];\n  }\n"
unfolding digits
loop_text = refl

pub loop_line : IsLine loop
    (codes "  for (i = 0; i < 64; i++) {\n    t[i & 15] = x + i;\n    s = s + t[i & 15];\n  }\n")
loop_line = record {
  pieces = line_of 1 loop_words;
  read = λ ts said. loop_reads ts (said ∙ line_symbols 1 loop_words);
  low = loop_low;
  tidy = λ rest. at_level 1 (tidy_append loop_words (newline ∷ []) rest (loop_tidy _) (line_end none));
  spelled = ap text_of loop_is ∙ loop_text;
  nested = subst (Nested 3) (sym loop_is) loop_nested;
}
