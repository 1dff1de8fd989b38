-- Actions as statements: their words, and what these come to.
use Rattle.sc_back_reread_laws.proofs.Common.{AllByRecursion, ExprTree, Interfaces, IsSpoken, IsTrue, IsWord}
use Rattle.sc_back_reread_laws.proofs.Common.{IsWordOrNone, List, None, Option, Piece, Proto, Scalar, Some, []}
use Rattle.sc_back_reread_laws.proofs.Common.{action_kind, action_text, and_from, ap, append_assoc, ap₂, arith, blank}
use Rattle.sc_back_reread_laws.proofs.Common.{call_kind, call_text, call_words, codes, comma, ended, expr_height}
use Rattle.sc_back_reread_laws.proofs.Common.{expr_words, exprs_height, flat_map, flat_map-append, input_proto}
use Rattle.sc_back_reread_laws.proofs.Common.{is_ident, is_kept, is_kept_stmt, is_name, is_reserved, join_by, joined}
use Rattle.sc_back_reread_laws.proofs.Common.{list_all, output_proto, piece_text, recursion_from_All, refl, return_kind}
use Rattle.sc_back_reread_laws.proofs.Common.{return_text, return_words, rules, stmt_height, stmt_layout, suc, text_of}
use Rattle.sc_back_reread_laws.proofs.Common.{true, unlined, value_texts, value_tree, value_trees, word, ℕ, ◌&&◌, ◌++◌}
use Rattle.sc_back_reread_laws.proofs.Common.{◌∙◌, ◌∷◌, ◌≡◌, ◌≤◌}
use Rattle.sc_event.specs.Prelude.{export_at}
use Rattle.sc_ast.specs.declared.stmt.StmtKind.{StmtKind}
use Rattle.sc_event.specs.declared.interface.Scalar.TheVariants as scalar
use Rattle.sc_event.specs.declared.row.Action.{Action}
use Rattle.sc_event.specs.declared.row.Action.TheVariants as action
use Rattle.sc_ast.specs.declared.expr.CallTree.{CallTree}
use Rattle.sc_ast.specs.declared.expr.ExprTree as exprs
use Rattle.sc_ast.specs.declared.stmt.StmtTree as stmts
use Rattle.sc_ast.specs.declared.stmt.StmtKind as kinds
use Rattle.sc_ast.specs.declared.stmt.StmtKind.TheVariants as stmt
use Rattle.sc_parse_expr.specs.declared.mark.Keyword.TheVariants as keyword
use Rattle.sc_back_reread_laws.proofs.Nesting.{Nested, even_comma, even_ident, even_keyword, even_semicolon}
use Rattle.sc_back_reread_laws.proofs.Nesting.{nested_append, nested_blank, nested_even, nested_more, nested_none}
use Rattle.sc_back_reread_laws.proofs.Nesting.{nested_parens}
use Rattle.sc_back_reread_laws.proofs.Values.{value_is}

-- Arguments.

abbrev pub AreWords : List ℕ → Type 0
AreWords args = AllByRecursion IsWord args

args_kept : (types : List Scalar) (args : List ℕ) → AreWords args → list_all is_kept (value_trees types args) ≡ true
args_kept [] args h = refl
args_kept (ty ∷ types) [] h = refl
args_kept (ty ∷ types) (a ∷ args) h =
    and_from (is_kept (value_tree ty a)) (list_all is_kept (value_trees types args)) (value_is ty a h.0).kept
    (args_kept types args h.1)

args_low : (types : List Scalar) (args : List ℕ) → AreWords args → exprs_height (value_trees types args) ≤ 3
args_low [] args h = omega arith
args_low (ty ∷ types) [] h = omega arith
args_low (ty ∷ types) (a ∷ args) h =
    let first = (value_is ty a h.0).low in
    let rest = args_low types args h.1 in
    omega arith

-- an argument after another one
abbrev next_words : ExprTree → List Piece
next_words e = comma ++ expr_words e

abbrev next_text : List ℕ → List ℕ
next_text text = codes ", " ++ text

next_texts : (types : List Scalar) (args : List ℕ) → AreWords args →
    text_of (flat_map next_words (value_trees types args)) ≡ flat_map next_text (value_texts types args)
next_texts [] args h = refl
next_texts (ty ∷ types) [] h = refl
next_texts (ty ∷ types) (a ∷ args) h =
    flat_map-append piece_text (next_words (value_tree ty a)) (flat_map next_words (value_trees types args)) ∙
    ap₂ (λ x y. x ++ y) (ap next_text (value_is ty a h.0).spelled) (next_texts types args h.1)

args_text : (types : List Scalar) (args : List ℕ) → AreWords args →
    text_of (join_by expr_words comma (value_trees types args)) ≡ joined (value_texts types args)
args_text [] args h = refl
args_text (ty ∷ types) [] h = refl
args_text (ty ∷ types) (a ∷ args) h =
    flat_map-append piece_text (expr_words (value_tree ty a)) (flat_map next_words (value_trees types args)) ∙
    ap₂ (λ x y. x ++ y) (value_is ty a h.0).spelled (next_texts types args h.1)

next_nested : (types : List Scalar) (args : List ℕ) → AreWords args →
    Nested 0 (flat_map next_words (value_trees types args))
next_nested [] args h = nested_none
next_nested (ty ∷ types) [] h = nested_none
next_nested (ty ∷ types) (a ∷ args) h =
    nested_even even_comma (nested_blank (nested_append (value_is ty a h.0).nested (next_nested types args h.1)))

args_nested : (types : List Scalar) (args : List ℕ) → AreWords args →
    Nested 0 (join_by expr_words comma (value_trees types args))
args_nested [] args h = nested_none
args_nested (ty ∷ types) [] h = nested_none
args_nested (ty ∷ types) (a ∷ args) h = nested_append (value_is ty a h.0).nested (next_nested types args h.1)

-- Statements of one line.

pub record IsStmt (kind : StmtKind) (text : List ℕ) : Type 0 where
  pub kept : is_kept_stmt (unlined kind) ≡ true
  pub words : List Piece
  pub laid : (depth : ℕ) → (stmt_layout (unlined kind)).words depth ≡ words
  pub spelled : text_of words ≡ text
  pub nested : Nested 1 words
  pub low : stmt_height (unlined kind) ≤ 4

call_laid : (c : CallTree) (depth : ℕ) → (stmt_layout (unlined (stmt.Call c))).words depth ≡ ended (call_words c)
call_laid c depth = search (rules, exprs.the_lemmas, kinds.the_lemmas, stmts.the_lemmas)

call_kept : (c : CallTree) → (is_ident c.name && list_all is_kept c.args) ≡ true →
    is_kept_stmt (unlined (stmt.Call c)) ≡ true
call_kept c k = search (rules, exprs.the_lemmas, kinds.the_lemmas, stmts.the_lemmas, k)

call_low : (c : CallTree) → stmt_height (unlined (stmt.Call c)) ≡ suc (exprs_height c.args)
call_low c = search (arith, rules, exprs.the_lemmas, kinds.the_lemmas, stmts.the_lemmas)

pub call_is : (f : Proto) (args : List ℕ) → IsTrue (is_ident f.name) → AreWords args →
    IsStmt (call_kind args f) (call_text args f)
call_is f args ident h =
    let c : CallTree = record { name = f.name; args = value_trees f.params args } in
    let inner : List Piece = join_by expr_words comma c.args in
    let flat : ended (call_words c) ≡ word f.name ∷ word (codes "(") ∷ (inner ++ word (codes ")") ∷
    word (codes ";") ∷ []) =
    ap (λ ps. word f.name ∷ word (codes "(") ∷ ps) (append_assoc inner (word (codes ")") ∷ []) (word (codes ";") ∷ []))
    in
    record {
      kept = call_kept c (and_from (is_ident f.name) (list_all is_kept c.args) ident (args_kept f.params args h));
      words = word f.name ∷ word (codes "(") ∷ (inner ++ word (codes ")") ∷ word (codes ";") ∷ []);
      laid = λ depth. call_laid c depth ∙ flat;
      spelled = ap (λ x. f.name ++ (codes "(" ++ x))
          (flat_map-append piece_text inner (word (codes ")") ∷ word (codes ";") ∷ []) ∙
          ap (λ x. x ++ codes ");") (args_text f.params args h));
      nested = nested_even (even_ident f.name ident) (nested_parens (args_nested f.params args h)
          (nested_even even_semicolon nested_none));
      low = omega (arith, call_low c, args_low f.params args h);
    }

value_laid : (e : ExprTree) (depth : ℕ) →
    (stmt_layout (unlined (stmt.ReturnValue e))).words depth ≡ return_words (expr_words e)
value_laid e depth = search (rules, exprs.the_lemmas, kinds.the_lemmas, stmts.the_lemmas)

value_kept : (e : ExprTree) → is_kept e ≡ true → is_kept_stmt (unlined (stmt.ReturnValue e)) ≡ true
value_kept e k = search (rules, exprs.the_lemmas, kinds.the_lemmas, stmts.the_lemmas, k)

value_low : (e : ExprTree) → stmt_height (unlined (stmt.ReturnValue e)) ≡ suc (expr_height e)
value_low e = search (arith, rules, exprs.the_lemmas, kinds.the_lemmas, stmts.the_lemmas)

value_return_is : (ty : Scalar) (value : ℕ) → IsWord value →
    IsStmt (return_kind (Some ty) (Some value)) (return_text (Some ty) (Some value))
value_return_is ty value h =
    let e = value_tree ty value in
    let is = value_is ty value h in
    record {
      kept = value_kept e is.kept;
      words = word (codes "return") ∷ blank ∷ (expr_words e ++ word (codes ";") ∷ []);
      laid = value_laid e;
      spelled = ap (λ x. codes "return " ++ x) (flat_map-append piece_text (expr_words e) (word (codes ";") ∷ []) ∙
          ap (λ x. x ++ codes ";") is.spelled);
      nested = nested_even (even_keyword keyword.Return) (nested_blank
          (nested_append (nested_more (omega arith) is.nested) (nested_even even_semicolon nested_none)));
      low = let low = is.low in omega (arith, value_low e);
    }

plain_laid : (depth : ℕ) → (stmt_layout (unlined stmt.Return)).words depth ≡
    word (codes "return") ∷ word (codes ";") ∷ []
plain_laid depth = search (rules, exprs.the_lemmas, kinds.the_lemmas, stmts.the_lemmas)

plain_kept : is_kept_stmt (unlined stmt.Return) ≡ true
plain_kept = search (rules, exprs.the_lemmas, kinds.the_lemmas, stmts.the_lemmas)

plain_low : stmt_height (unlined stmt.Return) ≡ 1
plain_low = search (arith, rules, exprs.the_lemmas, kinds.the_lemmas, stmts.the_lemmas)

plain_return_is : IsStmt stmt.Return (codes "return;")
plain_return_is = record {
  kept = plain_kept;
  words = word (codes "return") ∷ word (codes ";") ∷ [];
  laid = plain_laid;
  spelled = refl;
  nested = nested_even (even_keyword keyword.Return) (nested_even even_semicolon nested_none);
  low = omega (arith, plain_low);
}

pub return_is : (result : Option Scalar) (value : Option ℕ) → IsWordOrNone value →
    IsStmt (return_kind result value) (return_text result value)
return_is (Some ty) (Some value) h = value_return_is ty value h
return_is (Some ty) None h = plain_return_is
return_is None value h = plain_return_is

output_ident : IsTrue (is_ident (codes "output"))
unfolding is_name is_reserved
output_ident = refl

input_ident : IsTrue (is_ident (codes "input"))
unfolding is_name is_reserved
input_ident = refl

called : (interfaces : Interfaces) (to index : ℕ) (args : List ℕ) (result : Option Scalar) (f : Proto) →
    export_at interfaces to index ≡ Some f → IsTrue (is_ident f.name) → AreWords args →
    IsStmt (action_kind interfaces result (action.Call to index args))
    (action_text interfaces result (action.Call to index args))
called interfaces to index args result f is ident h = rw is (call_is f args ident h)

pub action_is : (interfaces : Interfaces) (result : Option Scalar) (act : Action) → IsSpoken interfaces act →
    IsStmt (action_kind interfaces result act) (action_text interfaces result act)
action_is interfaces result (action.Call to index args) h =
    called interfaces to index args result h.1.0 h.1.1 h.1.2.name (recursion_from_All _ _ h.0)
action_is interfaces result (action.Ret value) h = return_is result value h
action_is interfaces result (action.Out value) h = call_is output_proto (value ∷ []) output_ident (h, tt)
action_is interfaces result (action.In value) h = call_is input_proto [] input_ident tt
action_is interfaces result (action.End value) h = value_return_is scalar.Int value h
