-- The statements of a performing section break no rule of names.
use Rattle.sc_back_performer_laws.proofs.Common.{Binary, Bool, CallTree, Equal, ExprTree, Int, Interfaces, Known, List}
use Rattle.sc_back_performer_laws.proofs.Common.{Minus, None, Option, Proto, Row, Scalar, Some, StmtTree, Sub, Text}
use Rattle.sc_back_performer_laws.proofs.Common.{Unary, Unsigned, Variable, [], action_kind, and_from, ap, ap₂}
use Rattle.sc_back_performer_laws.proofs.Common.{call_kind, call_known, counter_name, expr_known, false, if◌then◌else◌}
use Rattle.sc_back_performer_laws.proofs.Common.{is_callable, list_all, literal, nat_le, refl, return_kind, rules}
use Rattle.sc_back_performer_laws.proofs.Common.{stmt_name_lines, suc, true, unless, value_tree, value_trees, ℕ, ◌++◌}
use Rattle.sc_back_performer_laws.proofs.Common.{◌-◌}
use Rattle.sc_back_performer_laws.proofs.Common.{◌==◌, ◌^◌, ◌∙◌, ◌∷◌, ◌≡◌}
use Rattle.sc_ast.specs.declared.expr.ExprTree as exprs
use Rattle.sc_ast.specs.declared.stmt.StmtKind as kinds
use Rattle.sc_ast.specs.declared.stmt.StmtTree as stmts
use Rattle.sc_types_scope.proofs.Statements.{if-at, while-at}
use Rattle.sc_back_performer_laws.proofs.BackTree.{row_at, stmt_at, while_at}

module _ (own callables hiding : List Text) where
  -- what may be named in a body: the counter and the parameters, and functions
  abbrev pub known : Known
  known = record { tags = []; variables = counter_name ∷ own; functions = callables; hiding = hiding }

  literal_known : (word : ℕ) → expr_known known (literal word) ≡ true
  literal_known word = search (rules, exprs.the_lemmas)

  word_known : (word : ℕ) → expr_known known (value_tree Unsigned word) ≡ true
  word_known word = search (rules, exprs.the_lemmas)

  minus_known : (word : ℕ) → expr_known known (Unary Minus (literal word)) ≡ true
  minus_known word = search (rules, exprs.the_lemmas)

  least_known : expr_known known (Binary Sub (Unary Minus (literal 2147483647)) (literal 1)) ≡ true
  least_known = search (rules, exprs.the_lemmas)

  int_known : (a b : Bool) (word : ℕ) →
      expr_known known (if a then Binary Sub (Unary Minus (literal 2147483647)) (literal 1) else
      if b then literal word else Unary Minus (literal (2 ^ 32 - word))) ≡ true
  int_known true b word = least_known
  int_known false true word = literal_known word
  int_known false false word = minus_known (2 ^ 32 - word)

  value_known : (ty : Scalar) (word : ℕ) → expr_known known (value_tree ty word) ≡ true
  value_known Unsigned word = word_known word
  value_known Int word = int_known (word == 2147483648) (nat_le word 2147483647) word

  values_known : (types : List Scalar) (words : List ℕ) →
      list_all (expr_known known) (value_trees types words) ≡ true
  values_known [] words = refl
  values_known (ty ∷ types) [] = refl
  values_known (ty ∷ types) (word ∷ words) =
      and_from (expr_known known (value_tree ty word)) _ (value_known ty word) (values_known types words)

  test_known : (number : ℕ) →
      expr_known known (Binary Equal (Variable counter_name) (value_tree Unsigned number)) ≡ true
  test_known number = search (rules, exprs.the_lemmas)

  set_at : (line number : ℕ) (looping : Bool) →
      stmt_name_lines known (stmt_at line (kinds.Assign (Variable counter_name) (value_tree Unsigned number))) looping ≡
      []
  set_at line number looping = search (rules, exprs.the_lemmas, kinds.the_lemmas, stmts.the_lemmas)

  call_at : (line : ℕ) (call : CallTree) (looping : Bool) →
      stmt_name_lines known (stmt_at line (kinds.Call call)) looping ≡ unless (call_known known call) line
  call_at line call looping = search (rules, exprs.the_lemmas, kinds.the_lemmas, stmts.the_lemmas)

  value_at : (line : ℕ) (value : ExprTree) (looping : Bool) →
      stmt_name_lines known (stmt_at line (kinds.ReturnValue value)) looping ≡ unless (expr_known known value) line
  value_at line value looping = search (rules, exprs.the_lemmas, kinds.the_lemmas, stmts.the_lemmas)

  return_at : (line : ℕ) (looping : Bool) → stmt_name_lines known (stmt_at line kinds.Return) looping ≡ []
  return_at line looping = search (rules, exprs.the_lemmas, kinds.the_lemmas, stmts.the_lemmas)

  pub calls_known : (line : ℕ) (args : List ℕ) (f : Proto) (looping : Bool) → is_callable known f.name ≡ true →
      stmt_name_lines known (stmt_at line (call_kind args f)) looping ≡ []
  calls_known line args f looping h =
      call_at line (record { name = f.name; args = value_trees f.params args }) looping ∙
      ap (λ b. unless b line) (and_from (is_callable known f.name) _ h (values_known f.params args))

  pub returns_known : (line : ℕ) (result : Option Scalar) (value : Option ℕ) (looping : Bool) →
      stmt_name_lines known (stmt_at line (return_kind result value)) looping ≡ []
  returns_known line (Some ty) (Some word) looping =
      value_at line (value_tree ty word) looping ∙ ap (λ b. unless b line) (value_known ty word)
  returns_known line (Some ty) None looping = return_at line looping
  returns_known line None value looping = return_at line looping

  -- a row whose action names what may be called
  pub row_known : (interfaces : Interfaces) (result : Option Scalar) (row : Row) (line set_line action_line : ℕ) →
      stmt_name_lines known (stmt_at action_line (action_kind interfaces result row.action)) false ≡ [] →
      stmt_name_lines known (row_at interfaces result row line set_line action_line) false ≡ []
  row_known interfaces result row line set_line action_line h =
      if-at known false line _ _ [] ∙
      ap₂ (λ b x. unless b line ++ ((x ++ (stmt_name_lines known (stmt_at action_line
      (action_kind interfaces result row.action)) false ++ [])) ++ [])) (test_known row.number)
      (set_at set_line (suc row.number) false) ∙
      ap (λ x. (x ++ []) ++ []) h

  pub while_known : (line : ℕ) → stmt_name_lines known (while_at line) false ≡ []
  while_known line = while-at known false line (literal 1) [] ∙ ap (λ b. unless b line ++ []) (literal_known 1)
