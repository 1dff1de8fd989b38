-- The declarations of a made text: prototypes, `main`, the table of a worker and its functions.
use Rattle.sc_report_made.proofs.Common.{AllByRecursion, Decl, List, Nested, Number, Piece, StmtTree, [], addend}
use Rattle.sc_report_made.proofs.Common.{and_from, ap, append-nil, append_assoc, arith, blank, codes, decimal}
use Rattle.sc_report_made.proofs.Common.{dense_decl, digits, even_equal, even_ident, even_keyword, even_literal}
use Rattle.sc_report_made.proofs.Common.{even_semicolon, expr_height, expr_words, fits, flat_map, function_at}
use Rattle.sc_report_made.proofs.Common.{function_name, made_function, head_of, head_words, is_ident, is_kept}
use Rattle.sc_report_made.proofs.Common.{is_kept_decl, is_kept_stmt, kept_head, kept_local, kept_param, line_of}
use Rattle.sc_report_made.proofs.Common.{list_all, literal_text, local_at, local_line, main_at, map, nested_blank}
use Rattle.sc_report_made.proofs.Common.{nested_even, nested_level, nested_line, nested_more, nested_none}
use Rattle.sc_report_made.proofs.Common.{nested_parens, nested_square, no_lines, output_proto, proto_at, made_proto}
use Rattle.sc_report_made.proofs.Common.{refl, return_kind, rules, set_kind, stmt_at, stmt_height, stmt_layout, subst}
use Rattle.sc_report_made.proofs.Common.{sym, table_at, text_of, true, variable, word, ℕ, ◌++◌, ◌<◌, ◌∙◌, ◌∷◌, ◌≡◌}
unfoldable use Rattle.sc_base.specs.Prelude.{is_name, is_reserved}
use Rattle.sc_ast.specs.declared.expr.ExprTree as exprs
use Rattle.sc_ast.specs.declared.expr.ExprTree.TheVariants as expr
use Rattle.sc_ast.specs.declared.section.Decl.TheVariants as decl
use Rattle.sc_ast.specs.declared.stmt.StmtTree as stmts
use Rattle.sc_ast.specs.declared.stmt.StmtKind as kinds
use Rattle.sc_ast.specs.declared.stmt.StmtKind.TheVariants as stmt
use Rattle.sc_parse_expr.specs.declared.mark.Keyword.TheVariants as keyword
use Rattle.sc_report_made.proofs.Spelled.{addend_fits, function_ident, literal_number}
use Rattle.sc_report_made.proofs.Lines as lines
use Rattle.sc_report_made.proofs.Lines.{AreLines, IsLine, more_lines, printed_line}
use Rattle.sc_report_made.proofs.Calls.{output_ident, return_line}
use Rattle.sc_report_made.proofs.Loops.{i_ident, loop_line, s_ident, t_ident, x_ident}
use Rattle.sc_report_made.proofs.Decls.{AreDecls, IsDecl, function_decl, more_decls, no_decls, printed_decl}

-- `int f0(int x)`

head_kept : (j : ℕ) → j < 1000 → kept_head (proto_at j 0) ≡ true
head_kept j low = and_from (is_ident (function_name j)) (list_all kept_param (proto_at j 0).params)
    (function_ident j low) (and_from (is_ident (codes "x")) true x_ident refl)

head_nested : (j : ℕ) → j < 1000 → Nested 1 (head_words (proto_at j 0))
head_nested j low = nested_even (even_keyword keyword.Int) (nested_blank (nested_even
    (even_ident (function_name j) (function_ident j low)) (nested_parens (nested_even (even_keyword keyword.Int)
    (nested_blank (nested_even (even_ident (codes "x") x_ident) nested_none))) nested_none)))

proto_nested : (j : ℕ) → j < 1000 → Nested 1 (dense_decl (decl.Proto (proto_at j 0)))
proto_nested j low = nested_even (even_keyword keyword.Int) (nested_blank (nested_even
    (even_ident (function_name j) (function_ident j low)) (nested_parens (nested_even (even_keyword keyword.Int)
    (nested_blank (nested_even (even_ident (codes "x") x_ident) nested_none)))
    (nested_even even_semicolon (nested_line nested_none)))))

proto_is : (j : ℕ) → j < 1000 → IsDecl (decl.Proto (proto_at j 0)) (made_proto j)
proto_is j low = printed_decl (decl.Proto (proto_at j 0)) (made_proto j) (head_kept j low) (omega arith) refl
    (nested_more (omega arith) (proto_nested j low))

pub protos_are : (js : List ℕ) → AllByRecursion (λ j. j < 1000) js → (ds : List Decl) (more : List ℕ) →
    AreDecls ds more → AreDecls (map (λ j. decl.Proto (proto_at j 0)) js ++ ds) (flat_map made_proto js ++ more)
protos_are [] low ds more rest = rest
protos_are (j ∷ js) low ds more rest =
    subst (AreDecls (map (λ j. decl.Proto (proto_at j 0)) (j ∷ js) ++ ds))
    (sym (append_assoc (made_proto j) (flat_map made_proto js) more))
    (more_decls (proto_is j low.0) (protos_are js low.1 ds more rest))

-- `void output(int v);`

v_ident : is_ident (codes "v") ≡ true
unfolding is_name is_reserved
v_ident = refl

output_kept : kept_head (output_proto 0) ≡ true
output_kept = and_from (is_ident (codes "output")) (list_all kept_param (output_proto 0).params) output_ident
    (and_from (is_ident (codes "v")) true v_ident refl)

output_nested : Nested 1 (dense_decl (decl.Proto (output_proto 0)))
output_nested = nested_even (even_keyword keyword.Void) (nested_blank (nested_even
    (even_ident (codes "output") output_ident) (nested_parens (nested_even (even_keyword keyword.Int)
    (nested_blank (nested_even (even_ident (codes "v") v_ident) nested_none)))
    (nested_even even_semicolon (nested_line nested_none)))))

pub output_is : IsDecl (decl.Proto (output_proto 0)) (codes "void output(int v);\n")
output_is = printed_decl (decl.Proto (output_proto 0)) (codes "void output(int v);\n") output_kept (omega arith) refl
    (nested_more (omega arith) output_nested)

-- A local of type `int`.

local_nested : {more : List Piece} (name : List ℕ) → is_ident name ≡ true → Nested 0 more →
    Nested 0 (local_line (local_at name 0) ++ more)
local_nested name k n = nested_level 1 (nested_even (even_keyword keyword.Int) (nested_blank
    (nested_even (even_ident name k) (nested_even even_semicolon (nested_line n)))))

local_kept : (name : List ℕ) → is_ident name ≡ true → kept_local (local_at name 0) ≡ true
local_kept name k = and_from (is_ident name) true k refl

-- `main`

main_ident : is_ident (codes "main") ≡ true
unfolding is_name is_reserved
main_ident = refl

local_ident : is_ident (codes "r") ≡ true
unfolding is_name is_reserved
local_ident = refl

main_nested : (body : List StmtTree) → Nested 1 (head_words (head_of (main_at 0 0 0 body).head))
main_nested body = nested_even (even_keyword keyword.Int) (nested_blank (nested_even
    (even_ident (codes "main") main_ident) (nested_parens (nested_even (even_keyword keyword.Void) nested_none)
    nested_none)))

pub main_is : (body : List StmtTree) (text : List ℕ) → AreLines body text →
    IsDecl (decl.Function (main_at 0 0 0 body)) (codes "int main(void) {\n  int r;\n" ++ (text ++ codes "}\n"))
main_is body text are = function_decl (main_at 0 0 0 body) (codes "int main(void)") (codes "  int r;\n") text
    (and_from (is_ident (codes "main")) true main_ident refl)
    (and_from (kept_local (local_at (codes "r") 0)) true (local_kept (codes "r") local_ident) refl) (omega arith) refl
    (nested_more (omega arith) (main_nested body)) refl
    (nested_more (omega arith) (local_nested (codes "r") local_ident nested_none)) are

-- `int t[16];`

table_kept : is_kept_decl (decl.Global (table_at 0)) ≡ true
table_kept = and_from (is_ident (codes "t")) true t_ident refl

table_text : text_of (dense_decl (decl.Global (table_at 0))) ≡ codes "int t[16];\n"
unfolding digits
table_text = refl

table_nested : Nested 1 (dense_decl (decl.Global (table_at 0)))
table_nested = nested_even (even_keyword keyword.Int) (nested_blank (nested_even (even_ident (codes "t") t_ident)
    (nested_square (nested_even (even_literal (literal_number 16) refl) nested_none)
    (nested_even even_semicolon (nested_line nested_none)))))

pub table_is : IsDecl (decl.Global (table_at 0)) (codes "int t[16];\n")
table_is = printed_decl (decl.Global (table_at 0)) (codes "int t[16];\n") table_kept (omega arith) table_text
    (nested_more (omega arith) table_nested)

-- `s = 7;`

abbrev setting : Number → StmtTree
setting n = stmt_at 0 (stmt.Assign (expr.Variable (codes "s")) (expr.Literal n))

abbrev setting_pieces : Number → List Piece
setting_pieces n = word (codes "s") ∷ blank ∷ word (codes "=") ∷ blank ∷ word (literal_text n) ∷ word (codes ";") ∷ []

setting_laid : (n : Number) → (stmt_layout (setting n)).words 1 ≡ setting_pieces n
setting_laid n = search (rules, exprs.the_lemmas, kinds.the_lemmas, stmts.the_lemmas)

setting_kept : (n : Number) → fits n ≡ true → is_ident (codes "s") ≡ true → is_kept_stmt (setting n) ≡ true
setting_kept n k s = search (rules, exprs.the_lemmas, kinds.the_lemmas, stmts.the_lemmas, k, s)

setting_low : (n : Number) → stmt_height (setting n) ≡ 2
setting_low n = search (arith, rules, exprs.the_lemmas, kinds.the_lemmas, stmts.the_lemmas)

setting_nested : (n : Number) → fits n ≡ true → Nested 0 (line_of 1 (setting_pieces n))
setting_nested n k = nested_level 1 (nested_even (even_ident (codes "s") s_ident) (nested_blank
    (nested_even even_equal (nested_blank (nested_even (even_literal n k) (nested_even even_semicolon
    (nested_line nested_none)))))))

set_line : (seed j : ℕ) → IsLine (stmt_at 0 (set_kind seed j))
    (codes "  s = " ++ (decimal (addend seed j) ++ codes ";\n"))
set_line seed j =
    let n = literal_number (addend seed j) in
    let k = addend_fits seed j in
    printed_line (setting n) (codes "  s = " ++ (decimal (addend seed j) ++ codes ";\n")) (setting_kept n k s_ident)
    (omega (arith, setting_low n))
    (ap (λ ps. text_of (line_of 1 ps)) (setting_laid n) ∙
    ap (λ d. codes "  s = " ++ (d ++ codes ";\n")) (append-nil (decimal (addend seed j))))
    (subst (λ ps. Nested 3 (line_of 1 ps)) (sym (setting_laid n)) (nested_more (omega arith) (setting_nested n k)))

-- `return s;`

sum_words : expr_words (variable (codes "s")) ≡ word (codes "s") ∷ []
sum_words = search (rules, exprs.the_lemmas)

sum_kept : is_ident (codes "s") ≡ true → is_kept (variable (codes "s")) ≡ true
sum_kept s = search (rules, exprs.the_lemmas, s)

sum_low : expr_height (variable (codes "s")) ≡ 1
sum_low = search (rules, exprs.the_lemmas)

sum_line : IsLine (stmt_at 0 (return_kind (variable (codes "s")))) (codes "  return s;\n")
sum_line = return_line (variable (codes "s")) (codes "s") (sum_kept s_ident) (omega (arith, sum_low)) sum_words
    (even_ident (codes "s") s_ident)

-- A function of a worker.

locals_kept : list_all kept_local (local_at (codes "i") 0 ∷ local_at (codes "s") 0 ∷ []) ≡ true
locals_kept = and_from (kept_local (local_at (codes "i") 0)) (list_all kept_local (local_at (codes "s") 0 ∷ []))
    (local_kept (codes "i") i_ident)
    (and_from (kept_local (local_at (codes "s") 0)) true (local_kept (codes "s") s_ident) refl)

abbrev after_set : List ℕ
after_set = codes
    "  for (i = 0; i < 64; i++) {\n    t[i & 15] = x + i;\n    s = s + t[i & 15];\n  }\n  return s;\n"

lines_are : (seed j : ℕ) → AreLines (function_at seed j no_lines).body
    ((codes "  s = " ++ (decimal (addend seed j) ++ codes ";\n")) ++ after_set)
lines_are seed j = more_lines (set_line seed j) (more_lines loop_line (more_lines sum_line lines.no_lines))

text_is : (seed j : ℕ) → (codes "int " ++ (function_name j ++ codes "(int x)")) ++ (codes " {\n" ++
    (codes "  int i;\n  int s;\n" ++ (((codes "  s = " ++ (decimal (addend seed j) ++ codes ";\n")) ++ after_set) ++
    codes "}\n"))) ≡ made_function seed j
text_is seed j =
    let d : List ℕ = decimal (addend seed j) in
    let prefix : List ℕ = codes " {\n  int i;\n  int s;\n  s = " in
    ap (λ t. codes "int f" ++ t) (append_assoc (decimal j) (codes "(int x)")
    (prefix ++ (((d ++ codes ";\n") ++ after_set) ++ codes "}\n")) ∙
    ap (λ t. decimal j ++ (codes "(int x)" ++ (prefix ++ t)))
    (ap (λ t. t ++ codes "}\n") (append_assoc d (codes ";\n") after_set) ∙
    append_assoc d (codes ";\n" ++ after_set) (codes "}\n")))

function_is : (seed j : ℕ) → j < 1000 → IsDecl (decl.Function (function_at seed j no_lines)) (made_function seed j)
function_is seed j low =
    subst (IsDecl (decl.Function (function_at seed j no_lines))) (text_is seed j)
    (function_decl (function_at seed j no_lines) (codes "int " ++ (function_name j ++ codes "(int x)"))
    (codes "  int i;\n  int s;\n") ((codes "  s = " ++ (decimal (addend seed j) ++ codes ";\n")) ++ after_set)
    (head_kept j low) locals_kept (omega arith) refl (nested_more (omega arith) (head_nested j low)) refl
    (nested_more (omega arith) (local_nested (codes "i") i_ident (local_nested (codes "s") s_ident nested_none)))
    (lines_are seed j))

pub functions_are : (seed : ℕ) (js : List ℕ) → AllByRecursion (λ j. j < 1000) js →
    AreDecls (map (λ j. decl.Function (function_at seed j no_lines)) js) (flat_map (made_function seed) js)
functions_are seed [] low = no_decls
functions_are seed (j ∷ js) low = more_decls (function_is seed j low.0) (functions_are seed js low.1)
