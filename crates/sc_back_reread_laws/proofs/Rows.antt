-- Rows as lines of a text: the same words as those of the tree, on one line.
use Rattle.sc_back_reread_laws.proofs.Common.{AllByRecursion, ExprTree, Free, Interfaces, IsSpoken, IsTrue, List}
use Rattle.sc_back_reread_laws.proofs.Common.{Number, Option, Piece, Row, Scalar, StmtTree, Tidy, [], action_kind}
use Rattle.sc_back_reread_laws.proofs.Common.{action_text, ap, append_assoc, ap₂, arith, at_level, blank, block_words}
use Rattle.sc_back_reread_laws.proofs.Common.{codes, condition_words, counter_name, expr_height, expr_words, fits}
use Rattle.sc_back_reread_laws.proofs.Common.{flat_map-append, gap, indent, is_ident, is_kept, is_kept_stmt, is_name}
use Rattle.sc_back_reread_laws.proofs.Common.{is_reserved, line_end, line_of, literal_kind, literal_some, literal_text}
use Rattle.sc_back_reread_laws.proofs.Common.{lone, max, name_kind, name_some, newline, next, piece_symbols, piece_text}
use Rattle.sc_back_reread_laws.proofs.Common.{refl, row_kind, row_text, rules, stmt_height, stmt_holds, stmt_layout}
use Rattle.sc_back_reread_laws.proofs.Common.{subst, suc, sym, symbols, text_of, tidy_append, true, unlined, word}
use Rattle.sc_back_reread_laws.proofs.Common.{word_symbol, ℕ, ◌++◌, ◌+◌, ◌<◌, ◌^◌, ◌∙◌, ◌∷◌, ◌≡◌, ◌≤◌}
use Rattle.sc_base.specs.declared.op.BinaryOp.TheVariants as binary
use Rattle.sc_ast.specs.declared.expr.ExprTree as exprs
use Rattle.sc_ast.specs.declared.expr.ExprTree.TheVariants as expr
use Rattle.sc_ast.specs.declared.stmt.StmtTree as stmts
use Rattle.sc_ast.specs.declared.stmt.StmtKind as kinds
use Rattle.sc_ast.specs.declared.stmt.StmtKind.TheVariants as stmt
use Rattle.sc_parse_expr.specs.declared.mark.Keyword.TheVariants as keyword
use Rattle.sc_parse_print_laws.proofs.Spacing as apart
use Rattle.sc_parse_print_laws.proofs.Tables as tables
use Rattle.sc_parse_print_laws.proofs.Spacing.{none}
use Rattle.sc_lex.specs.declared.token.TokenKind.TheVariants as kind
use Rattle.sc_back_reread_laws.proofs.Nesting.{Nested, even_binary, even_equal, even_ident, even_keyword, even_literal}
use Rattle.sc_back_reread_laws.proofs.Nesting.{even_semicolon, nested_append, nested_blank, nested_curly, nested_even}
use Rattle.sc_back_reread_laws.proofs.Nesting.{nested_level, nested_line, nested_none, nested_parens}
use Rattle.sc_back_reread_laws.proofs.Values.{unsigned_fits}
use Rattle.sc_back_reread_laws.proofs.Actions.{action_is}

abbrev pub counted : ℕ → Number
counted value = record { value = value; unsigned = true }

pub counter_ident : IsTrue (is_ident counter_name)
unfolding is_name is_reserved
counter_ident = refl

-- pieces that stand apart, come to this text, say what those of the tree say, and open at most `depth` brackets
pub record Same (depth : ℕ) (printed pieces : List Piece) (text : List ℕ) : Type 0 where
  pub tidy : Free pieces
  pub spelled : text_of pieces ≡ text
  pub says : symbols pieces ≡ symbols printed
  pub nested : Nested depth pieces

-- The test of a row, and what it begins with.

abbrev test : Number → ExprTree
test number = expr.Binary binary.Equal (expr.Variable counter_name) (expr.Literal number)

abbrev test_pieces : Number → List Piece
test_pieces number = word counter_name ∷ blank ∷ word (codes "==") ∷ blank ∷ word (literal_text number) ∷ []

test_words : (number : Number) → expr_words (test number) ≡ test_pieces number
test_words number = search (rules, exprs.the_lemmas)

test_kept : (number : Number) → fits number ≡ true → is_ident counter_name ≡ true → is_kept (test number) ≡ true
test_kept number k ident = search (rules, exprs.the_lemmas, k, ident)

test_low : (number : Number) → expr_height (test number) ≡ 2
test_low number = search (arith, rules, exprs.the_lemmas)

abbrev setting : Number → StmtTree
setting number = unlined (stmt.Assign (expr.Variable counter_name) (expr.Literal number))

abbrev setting_pieces : Number → List Piece
setting_pieces number = word counter_name ∷ blank ∷ word (codes "=") ∷ blank ∷ word (literal_text number) ∷
    word (codes ";") ∷ []

setting_laid : (number : Number) (depth : ℕ) → (stmt_layout (setting number)).words depth ≡ setting_pieces number
setting_laid number depth = search (rules, exprs.the_lemmas, kinds.the_lemmas, stmts.the_lemmas)

setting_kept : (number : Number) → fits number ≡ true → is_ident counter_name ≡ true →
    is_kept_stmt (setting number) ≡ true
setting_kept number k ident = search (rules, exprs.the_lemmas, kinds.the_lemmas, stmts.the_lemmas, k, ident)

setting_low : (number : Number) → stmt_height (setting number) ≡ 2
setting_low number = search (arith, rules, exprs.the_lemmas, kinds.the_lemmas, stmts.the_lemmas)

-- A row of any two statements.

abbrev choice : ExprTree → StmtTree → StmtTree → StmtTree
choice cond a b = unlined (stmt.If cond (a ∷ b ∷ []) [])

choice_laid : (cond : ExprTree) (a b : StmtTree) → (stmt_layout (choice cond a b)).words 1 ≡
    condition_words (codes "if") cond ++ (block_words 1 (stmt_layout a ∷ stmt_layout b ∷ []) ++ [])
choice_laid cond a b = search (rules, kinds.the_lemmas, stmts.the_lemmas)

choice_kept : (cond : ExprTree) (a b : StmtTree) → is_kept cond ≡ true → is_kept_stmt a ≡ true →
    is_kept_stmt b ≡ true → is_kept_stmt (choice cond a b) ≡ true
choice_kept cond a b k i j = search (rules, kinds.the_lemmas, stmts.the_lemmas, k, i, j)

choice_low : (cond : ExprTree) (a b : StmtTree) → stmt_height (choice cond a b) ≡
    max (expr_height cond) (max (max (stmt_height a) (max (stmt_height b) 0)) 0) + 1
choice_low cond a b = search (rules, kinds.the_lemmas, stmts.the_lemmas)

-- the end of a row
abbrev row_end : List Piece → List Piece
row_end action = action ++ blank ∷ word (codes "}") ∷ newline ∷ []

-- the line of a row
abbrev pub row_pieces : (n m : Number) → List Piece → List Piece
row_pieces n m action =
    indent 1 ∷ word (codes "if") ∷ blank ∷
    word (codes "(") ∷ (test_pieces n ++ word (codes ")") ∷ blank ∷
    word (codes "{") ∷ blank ∷ (setting_pieces m ++ blank ∷ row_end action))

-- the words of the action in the tree
end_says : (action : List Piece) → symbols (row_end action) ≡
    symbols
    (((((indent 2 ∷ (action ++ newline ∷ [])) ++ []) ++ indent 1 ∷ word (codes "}") ∷ []) ++ []) ++ newline ∷ [])
end_says [] = refl
end_says (p ∷ action) = ap (λ ss. piece_symbols p ++ ss) (end_says action)

row_says : (n m : Number) (action : List Piece) (b : StmtTree) → ((depth : ℕ) → (stmt_layout b).words depth ≡ action) →
    symbols (row_pieces n m action) ≡ symbols (line_of 1 ((stmt_layout (choice (test n) (setting m) b)).words 1))
row_says n m action b laid =
    let prefix : List Piece → List Piece = λ block. condition_words (codes "if") (test n) ++ block in
    ap (λ ss. word_symbol (codes "if") ∷ word_symbol (codes "(") ∷ word_symbol counter_name ∷
    word_symbol (codes "==") ∷ word_symbol (literal_text n) ∷ word_symbol (codes ")") ∷ word_symbol (codes "{") ∷
    word_symbol counter_name ∷ word_symbol (codes "=") ∷ word_symbol (literal_text m) ∷
    word_symbol (codes ";") ∷ ss) (end_says action) ∙
    sym (ap (λ ps. symbols (line_of 1 ps)) (choice_laid (test n) (setting m) b ∙
    ap₂ (λ t s. (word (codes "if") ∷ blank ∷ word (codes "(") ∷ (t ++ word (codes ")") ∷ blank ∷ [])) ++
    (word (codes "{") ∷ newline ∷ (((line_of 2 s) ++ ((line_of 2 ((stmt_layout b).words 2)) ++ [])) ++
    indent 1 ∷ word (codes "}") ∷ []) ++ [])) (test_words n) (setting_laid m 2) ∙
    ap (λ s. (word (codes "if") ∷ blank ∷ word (codes "(") ∷ (test_pieces n ++ word (codes ")") ∷ blank ∷ [])) ++
    (word (codes "{") ∷ newline ∷ (((line_of 2 (setting_pieces m)) ++ ((line_of 2 s) ++ [])) ++
    indent 1 ∷ word (codes "}") ∷ []) ++ [])) (laid 2)))

row_spelled : (n m : Number) (action : List Piece) (text : List ℕ) → text_of action ≡ text →
    text_of (row_pieces n m action) ≡
    codes "  if (bt_n == " ++ (literal_text n ++ (codes ") { bt_n = " ++ (literal_text m ++
    (codes "; " ++ (text ++ codes " }\n")))))
row_spelled n m action text spelled =
    ap (λ x. codes "  if (bt_n == " ++ (literal_text n ++ (codes ") { bt_n = " ++ (literal_text m ++
    (codes "; " ++ x))))) (flat_map-append piece_text action (blank ∷ word (codes "}") ∷ newline ∷ []) ∙
    ap (λ x. x ++ codes " }\n") spelled)

counter_word : (rest : List ℕ) → apart.Calm rest → apart.IsWord counter_name rest
counter_word rest calm = apart.plain_word counter_name rest kind.Ident (name_some counter_name counter_ident)
    (name_kind counter_name counter_ident) calm

pub literal_word : (n : Number) → fits n ≡ true → (rest : List ℕ) → apart.Calm rest → apart.IsWord (literal_text n) rest
literal_word n k rest calm = apart.plain_word (literal_text n) rest kind.Integer (literal_some n k)
    (literal_kind n k) calm

row_tidy : (n m : Number) (action : List Piece) → fits n ≡ true → fits m ≡ true → Free action →
    Free (row_pieces n m action)
row_tidy n m action k l free rest =
    at_level 1 (next (apart.keyword_word keyword.If _ refl) (gap (lone tables.open_paren
    (next (counter_word _ refl) (gap (next (apart.binary_word binary.Equal _) (gap (next (literal_word n k _ refl)
    (lone tables.close_paren (gap (lone tables.open_curly (gap (next (counter_word _ refl)
    (gap (next (apart.equal_word _) (gap (next (literal_word m l _ refl) (lone tables.semicolon (gap
    (tidy_append action (blank ∷ word (codes "}") ∷ newline ∷ []) rest (free _)
    (gap (lone tables.close_curly (line_end none)))))))))))))))))))))))

row_nested : (n m : Number) (action : List Piece) → fits n ≡ true → fits m ≡ true → Nested 1 action →
    Nested 2 (row_pieces n m action)
row_nested n m action k l nested =
    let inner : Nested 1 (blank ∷ (setting_pieces m ++ blank ∷ (action ++ blank ∷ []))) =
    nested_blank (nested_even (even_ident counter_name counter_ident) (nested_blank (nested_even even_equal
    (nested_blank (nested_even (even_literal m l) (nested_even even_semicolon (nested_blank
    (nested_append nested (nested_blank nested_none))))))))) in
    let flat : (action ++ blank ∷ []) ++ word (codes "}") ∷ newline ∷ [] ≡ row_end action =
    append_assoc action (blank ∷ []) (word (codes "}") ∷ newline ∷ []) in
    let block : Nested 2 (word (codes "{") ∷ blank ∷ (setting_pieces m ++ blank ∷ row_end action)) =
    subst (λ ps. Nested 2 (word (codes "{") ∷ blank ∷ (setting_pieces m ++ blank ∷ ps))) flat
    (nested_curly inner (nested_line nested_none)) in
    nested_level 1 (nested_even (even_keyword keyword.If) (nested_blank (nested_parens
    (nested_even (even_ident counter_name counter_ident) (nested_blank (nested_even (even_binary binary.Equal)
    (nested_blank (nested_even (even_literal n k) nested_none))))) (nested_blank block))))

-- Rows.

abbrev pub AreSpoken : Interfaces → List Row → Type 0
AreSpoken interfaces rows = AllByRecursion (λ row. IsSpoken interfaces row.action × (suc row.number < 2 ^ 32)) rows

-- a row as a statement that is kept and low, and as its line
pub record IsRow (kind : StmtTree) (pieces : List Piece) (text : List ℕ) : Type 0 where
  pub kept : is_kept_stmt kind ≡ true
  pub low : stmt_height kind ≤ 5
  pub same : Same 2 (line_of 1 ((stmt_layout kind).words 1)) pieces text

pub row_is : (interfaces : Interfaces) (result : Option Scalar) (row : Row) → IsSpoken interfaces row.action →
    suc row.number < 2 ^ 32 →
    (pieces : List Piece) × IsRow (unlined (row_kind interfaces result row)) pieces (row_text interfaces result row)
row_is interfaces result row h small =
    let n = counted row.number in
    let m = counted (suc row.number) in
    let k : fits n ≡ true = unsigned_fits row.number (omega arith) in
    let l : fits m ≡ true = unsigned_fits (suc row.number) small in
    let act = action_is interfaces result row.action h in
    let b = unlined (action_kind interfaces result row.action) in
    let free : Free act.words = λ rest. subst (λ ps. Tidy ps rest) (act.laid 1) (stmt_holds b act.kept 1 rest) in (
      row_pieces n m act.words,
      record {
        kept = choice_kept (test n) (setting m) b (test_kept n k counter_ident)
            (setting_kept m l counter_ident) act.kept;
        low = let low = act.low in omega (arith, choice_low (test n) (setting m) b, test_low n, setting_low m);
        same = record {
          tidy = row_tidy n m act.words k l free;
          spelled = row_spelled n m act.words (action_text interfaces result row.action) act.spelled;
          says = row_says n m act.words b act.laid;
          nested = row_nested n m act.words k l act.nested;
        };
      },
    )
