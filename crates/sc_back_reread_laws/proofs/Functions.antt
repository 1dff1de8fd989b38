-- Functions that perform: their words, and what these come to.
use Rattle.sc_back_reread_laws.proofs.Common.{Bool, Entry, FunctionTree, Interfaces, IsCalled, List, Option, Piece}
use Rattle.sc_back_reread_laws.proofs.Common.{Proto, Row, Scalar, StmtTree, [], and_from, ap, append_assoc, ap₂}
use Rattle.sc_back_reread_laws.proofs.Common.{are_kept, arith, at_level, blank, body_tree, codes, digits, false, filter}
use Rattle.sc_back_reread_laws.proofs.Common.{flat_map, flat_map-append, function_head, function_height, function_text}
use Rattle.sc_back_reread_laws.proofs.Common.{function_tree, function_words, gap, head_of, head_tidy, head_words}
use Rattle.sc_back_reread_laws.proofs.Common.{if◌then◌else◌, indent, is_kept_stmt, is_of, joined_symbols, kept_function}
use Rattle.sc_back_reread_laws.proofs.Common.{kept_head, layouts, line_end, line_of, lines_at, literal, literal_text}
use Rattle.sc_back_reread_laws.proofs.Common.{lone, newline, next, piece_text, proto_head, refl, row_kind, row_text}
use Rattle.sc_back_reread_laws.proofs.Common.{rules, stmt_height, stmt_layout, stmts_height, subst, sym, symbols}
use Rattle.sc_back_reread_laws.proofs.Common.{text_of, tidy_append, true, unlined, word, word_symbol, ℕ, ◌++◌, ◌∙◌, ◌∷◌}
use Rattle.sc_back_reread_laws.proofs.Common.{◌≡◌, ◌≤◌}
use Rattle.sc_ast.specs.declared.expr.ExprTree as exprs
use Rattle.sc_ast.specs.declared.stmt.StmtTree as stmts
use Rattle.sc_ast.specs.declared.stmt.StmtKind as kinds
use Rattle.sc_ast.specs.declared.stmt.StmtKind.TheVariants as stmt
use Rattle.sc_parse_expr.specs.declared.mark.Keyword.TheVariants as keyword
use Rattle.sc_parse_print_laws.proofs.Spacing as apart
use Rattle.sc_parse_print_laws.proofs.Tables as tables
use Rattle.sc_parse_print_laws.proofs.Spacing.{none}
use Rattle.sc_back_reread_laws.proofs.Nesting.{Nested, even_keyword, even_literal, nested_append, nested_blank}
use Rattle.sc_back_reread_laws.proofs.Nesting.{nested_curly, nested_even, nested_level, nested_line, nested_more}
use Rattle.sc_back_reread_laws.proofs.Nesting.{nested_none, nested_parens}
use Rattle.sc_back_reread_laws.proofs.Rows.{AreSpoken, Same, literal_word, row_is}
use Rattle.sc_back_reread_laws.proofs.Heads.{head_is, heads_same}
use Rattle.sc_back_reread_laws.proofs.Values.{literal_number}

pub same_append : {depth : ℕ} {p q a b : List Piece} {t u : List ℕ} → Same depth p a t → Same depth q b u →
    Same depth (p ++ q) (a ++ b) (t ++ u)
same_append {depth} {p} {q} {a} {b} {t} {u} x y = record {
  tidy = λ rest. tidy_append a b rest (x.tidy _) (y.tidy rest);
  spelled = flat_map-append piece_text a b ∙ ap₂ (λ v w. v ++ w) x.spelled y.spelled;
  says = joined_symbols a b ∙ ap₂ (λ v w. v ++ w) x.says y.says ∙ sym (joined_symbols p q);
  nested = nested_append x.nested y.nested;
}

pub same_none : {depth : ℕ} → Same depth [] [] []
same_none = record { tidy = λ rest. none; spelled = refl; says = refl; nested = nested_none }

-- The loop that never ends.

abbrev forever : StmtTree
forever = unlined (stmt.While (literal 1) [])

abbrev forever_pieces : List Piece
forever_pieces =
    indent 1 ∷ word (codes "while") ∷ blank ∷ word (codes "(") ∷ word (literal_text (literal_number 1)) ∷
    word (codes ")") ∷ blank ∷ word (codes "{") ∷ blank ∷ word (codes "}") ∷ newline ∷ []

forever_laid : (stmt_layout forever).words 1 ≡
    word (codes "while") ∷ blank ∷ word (codes "(") ∷ word (literal_text (literal_number 1)) ∷
    word (codes ")") ∷ blank ∷ word (codes "{") ∷ newline ∷ indent 1 ∷ word (codes "}") ∷ []
forever_laid = search (rules, exprs.the_lemmas, kinds.the_lemmas, stmts.the_lemmas)

forever_kept : is_kept_stmt forever ≡ true
forever_kept = search (rules, exprs.the_lemmas, kinds.the_lemmas, stmts.the_lemmas)

forever_low : stmt_height forever ≡ 2
forever_low = search (arith, rules, exprs.the_lemmas, kinds.the_lemmas, stmts.the_lemmas)

forever_text : text_of forever_pieces ≡ codes "  while (1) { }\n"
unfolding digits
forever_text = refl

forever_same : Same 2 (line_of 1 ((stmt_layout forever).words 1)) forever_pieces (codes "  while (1) { }\n")
forever_same = record {
  tidy = λ rest. at_level 1 (next (apart.keyword_word keyword.While _ refl) (gap (lone tables.open_paren
      (next (literal_word (literal_number 1) refl _ refl) (lone tables.close_paren (gap (lone tables.open_curly
      (gap (lone tables.close_curly (line_end none))))))))));
  spelled = forever_text;
  says = sym (ap (λ ps. symbols (line_of 1 ps)) forever_laid);
  nested = nested_level 1 (nested_even (even_keyword keyword.While) (nested_blank (nested_parens
      (nested_even (even_literal (literal_number 1) refl) nested_none) (nested_blank
      (nested_curly (nested_blank nested_none) (nested_line nested_none))))));
}

-- a body that is kept and low, and its lines
record IsBody (body : List StmtTree) (pieces : List Piece) (text : List ℕ) : Type 0 where
  kept : are_kept body ≡ true
  low : stmts_height body ≤ 5
  same : Same 2 (lines_at 1 (layouts body)) pieces text

body_is : (interfaces : Interfaces) (result : Option Scalar) (rows : List Row) → AreSpoken interfaces rows →
    (pieces : List Piece) × IsBody (body_tree interfaces result rows) pieces
    (flat_map (row_text interfaces result) rows ++ codes "  while (1) { }\n")
body_is interfaces result [] h = (
  forever_pieces ++ [],
  record {
    kept = and_from (is_kept_stmt forever) true forever_kept refl;
    low = omega (arith, forever_low);
    same = same_append forever_same same_none;
  },
)
body_is interfaces result (row ∷ rows) h =
    let r = row_is interfaces result row h.0.0 h.0.1 in
    let rest = body_is interfaces result rows h.1 in
    let first = r.1 in
    let more = rest.1 in
    let stmt : StmtTree = unlined (row_kind interfaces result row) in (
      r.0 ++ rest.0,
      record {
        kept = and_from (is_kept_stmt stmt) (are_kept (body_tree interfaces result rows)) first.kept more.kept;
        low = let a = first.low in let b = more.low in omega arith;
        same = subst (λ t. Same 2 (lines_at 1 (layouts (body_tree interfaces result (row ∷ rows)))) (r.0 ++ rest.0) t)
            (sym (append_assoc (row_text interfaces result row) (flat_map (row_text interfaces result) rows)
            (codes "  while (1) { }\n"))) (same_append first.same more.same);
      },
    )

-- the rows of an entry
own_spoken : (interfaces : Interfaces) (p : Row → Bool) (rows : List Row) → AreSpoken interfaces rows →
    AreSpoken interfaces (filter p rows)
own_spoken interfaces p [] h = tt
own_spoken interfaces p (row ∷ rows) h = by (p row) (own_spoken interfaces p rows h.1)
  where
    by : (b : Bool) → AreSpoken interfaces (filter p rows) →
        AreSpoken interfaces (if b then row ∷ filter p rows else filter p rows)
    by true rest = (h.0, rest)
    by false rest = rest

-- a function that is kept and low, and its words
pub record IsFunction (tree : FunctionTree) (pieces : List Piece) (text : List ℕ) : Type 0 where
  pub kept : kept_function tree ≡ true
  pub low : function_height tree ≤ 5
  pub same : Same 3 (function_words tree) pieces text

abbrev block : List Piece → List Piece
block body = blank ∷ word (codes "{") ∷ newline ∷ (body ++ word (codes "}") ∷ newline ∷ [])

block_says : (body printed : List Piece) → symbols body ≡ symbols printed →
    symbols (block body) ≡ symbols (block printed)
block_says body printed e = ap (λ ss. word_symbol (codes "{") ∷ ss)
    (joined_symbols body (word (codes "}") ∷ newline ∷ []) ∙
    ap (λ ss. ss ++ word_symbol (codes "}") ∷ []) e ∙ sym (joined_symbols printed (word (codes "}") ∷ newline ∷ [])))

block_nested : (body : List Piece) → Nested 2 body → Nested 3 (block body)
block_nested body n = nested_blank (nested_curly (nested_line n) (nested_line nested_none))

pub function_is : (interfaces : Interfaces) (rows : List Row) (entry : Entry) (f : Proto) → IsCalled f →
    AreSpoken interfaces rows →
    (pieces : List Piece) × IsFunction (function_tree interfaces rows entry f) pieces
    (function_text interfaces rows entry f)
function_is interfaces rows entry f called h =
    let head = head_is f called in
    let own = filter (is_of entry) rows in
    let b = body_is interfaces f.result own (own_spoken interfaces (is_of entry) rows h) in
    let body = b.1 in
    let tree : FunctionTree = function_tree interfaces rows entry f in
    let words : List Piece = head_words (proto_head f) in
    let pieces : List Piece = words ++ block b.0 in
    let printed : List Piece = lines_at 1 (layouts tree.body) in
    let kept : kept_head (head_of (function_head f)) ≡ true = ap kept_head (heads_same f) ∙ head.kept in
    let lines : List ℕ = flat_map (row_text interfaces f.result) own in
    let ending : text_of (b.0 ++ word (codes "}") ∷ newline ∷ []) ≡ lines ++ codes "  while (1) { }\n}\n" =
    flat_map-append piece_text b.0 (word (codes "}") ∷ newline ∷ []) ∙ ap (λ t. t ++ codes "}\n") body.same.spelled ∙
    append_assoc lines (codes "  while (1) { }\n") (codes "}\n") in (
      pieces,
      record {
        kept = and_from (kept_head (head_of (function_head f))) (are_kept tree.body) kept body.kept;
        low = let low = body.low in omega arith;
        same = record {
          tidy = λ rest. tidy_append words (block b.0) rest (head_tidy (proto_head f) head.kept _)
              (gap (lone tables.open_curly (line_end (tidy_append b.0 (word (codes "}") ∷ newline ∷ []) rest
              (body.same.tidy _) (lone tables.close_curly (line_end none))))));
          spelled = flat_map-append piece_text words (block b.0) ∙
              ap₂ (λ x y. x ++ (codes " {\n" ++ y)) head.spelled ending;
          says = joined_symbols words (block b.0) ∙
              ap₂ (λ x y. x ++ y) (ap (λ g. symbols (head_words g)) (sym (heads_same f)))
              (block_says b.0 printed body.same.says) ∙
              sym (joined_symbols (head_words (head_of (function_head f))) (block printed));
          nested = nested_append (nested_more (omega arith) head.nested) (block_nested b.0 body.same.nested);
        };
      },
    )
