-- The expressions and statements of a performing section with their types.
use Rattle.sc_back_performer_laws.proofs.Common.{Binary, Bool, CallTree, Callees, Equal, ExprTree, Int, List, Minus}
use Rattle.sc_back_performer_laws.proofs.Common.{None, Option, Param, Scalar, Some, StmtTree, Sub, Ty, TypedExpr}
use Rattle.sc_back_performer_laws.proofs.Common.{TypedParam, TypedStmtKind, Unary, Unsigned, Variable, Visible, [], ap}
use Rattle.sc_back_performer_laws.proofs.Common.{ap₂, arith, calls_out, counter, counter_is, counter_name, eqb-true}
use Rattle.sc_back_performer_laws.proofs.Common.{false, variable_named, variable_in, going_to, going_to_all}
use Rattle.sc_back_performer_laws.proofs.Common.{if◌then◌else◌}
use Rattle.sc_back_performer_laws.proofs.Common.{int_expr, least_int, leb-true, literal, map, minus, nat_le, or_else}
use Rattle.sc_back_performer_laws.proofs.Common.{refl, rules, scalar_ty, stmt_at, true, typed, typed_call, typed_stmt}
use Rattle.sc_back_performer_laws.proofs.Common.{value_tree, value_trees, waits, word_expr, word_exprs, ℕ, ◌-◌, ◌==◌}
use Rattle.sc_back_performer_laws.proofs.Common.{◌^◌, ◌∙◌, ◌∷◌, ◌≡◌}
use Rattle.sc_ast.specs.declared.expr.ExprTree as exprs
use Rattle.sc_ast.specs.declared.stmt.StmtKind as kinds
use Rattle.sc_ast.specs.declared.stmt.StmtTree as stmts
use Rattle.sc_core.specs.declared.expr.VarRef.TheVariants.{Global}
use Rattle.sc_core.specs.declared.stmt.TypedStmtKind as typed_stmt_kinds
use Rattle.sc_core.specs.declared.ty.Ty.TheVariants as ty
use Rattle.sc_back_replay_laws.specs.Texts as texts
use Rattle.sc_back_performer_laws.proofs.BackTree as back

-- a value on its way to a place of a scalar type stays what it is
pub goes : (type : Scalar) (e : TypedExpr) → going_to (scalar_ty type) e ≡ e
goes Int e = refl
goes Unsigned e = refl

module _ (params : List TypedParam) (absent : variable_in Param params counter_name ≡ None) (callees : Callees) where
  -- what is visible in a function: the counter, and parameters that aren't called so
  abbrev pub visible : Visible
  visible = record {
    tags = [];
    structs = [];
    globals = record { name = counter_name; ty = ty.Unsigned } ∷ [];
    params = params;
    locals = [];
  }

  -- Expressions.

  found_counter : variable_named visible counter_name ≡ Some (record { variable = Global 0; ty = ty.Unsigned })
  found_counter = ap (λ o. or_else o (Some (record { variable = Global 0; ty = ty.Unsigned }))) absent

  pub typed_counter : typed visible (Variable counter_name) ≡ counter
  typed_counter = search (rules, exprs.the_lemmas, found_counter)

  pub typed_literal : (word : ℕ) → typed visible (literal word) ≡ texts.literal ty.Int word
  typed_literal word = search (rules, exprs.the_lemmas)

  pub typed_word : (word : ℕ) → typed visible (value_tree Unsigned word) ≡ texts.literal ty.Unsigned word
  typed_word word = search (rules, exprs.the_lemmas)

  pub typed_minus : (word : ℕ) → typed visible (Unary Minus (literal word)) ≡ minus (texts.literal ty.Int word)
  typed_minus word = search (rules, exprs.the_lemmas)

  pub typed_least : typed visible (Binary Sub (Unary Minus (literal 2147483647)) (literal 1)) ≡ least_int
  typed_least = search (rules, exprs.the_lemmas)

  pub typed_test : (number : ℕ) →
      typed visible (Binary Equal (Variable counter_name) (value_tree Unsigned number)) ≡ counter_is number
  typed_test number = search (rules, exprs.the_lemmas, found_counter)

  pub not_small : (word : ℕ) → (word == 2147483648) ≡ true → nat_le word 2147483647 ≡ true → ⊥
  not_small word h k = let e = eqb-true word 2147483648 h in let l = leb-true word 2147483647 k in omega (arith, e, l)

  typed_int : (word : ℕ) (least small : Bool) → (word == 2147483648) ≡ least → nat_le word 2147483647 ≡ small →
      typed visible (if least then Binary Sub (Unary Minus (literal 2147483647)) (literal 1) else
      if small then literal word else Unary Minus (literal (2 ^ 32 - word))) ≡
      (if small then texts.literal ty.Int word else
      (if least then least_int else minus (texts.literal ty.Int (2 ^ 32 - word))))
  typed_int word true true h k = absurd (not_small word h k)
  typed_int word true false h k = typed_least
  typed_int word false true h k = typed_literal word
  typed_int word false false h k = typed_minus (2 ^ 32 - word)

  pub typed_value : (type : Scalar) (word : ℕ) → typed visible (value_tree type word) ≡ word_expr type word
  typed_value Unsigned word = typed_word word
  typed_value Int word = typed_int word (word == 2147483648) (nat_le word 2147483647) refl refl

  pub typed_values : (types : List Scalar) (words : List ℕ) →
      going_to_all (map scalar_ty types) (map (typed visible) (value_trees types words)) ≡ word_exprs types words
  typed_values [] words = refl
  typed_values (type ∷ types) [] = refl
  typed_values (type ∷ types) (word ∷ words) =
      ap₂ (λ x y. x ∷ y) (goes type (typed visible (value_tree type word)) ∙ typed_value type word)
      (typed_values types words)

  -- Statements.

  module _ (result : Option Ty) where
    pub assign_at : (line : ℕ) (number : ℕ) →
        typed_stmt visible callees result (back.stmt_at line (kinds.Assign (Variable counter_name)
        (value_tree Unsigned number))) ≡
        stmt_at line (typed_stmt_kinds.Assign counter (texts.literal ty.Unsigned number))
    assign_at line number = search (rules, exprs.the_lemmas, kinds.the_lemmas, stmts.the_lemmas, found_counter)

    pub call_at : (line : ℕ) (call : CallTree) →
        typed_stmt visible callees result (back.stmt_at line (kinds.Call call)) ≡
        stmt_at line (typed_stmt_kinds.Call (typed_call visible callees call))
    call_at line call = search (rules, exprs.the_lemmas, kinds.the_lemmas, stmts.the_lemmas)

    pub while_at : (line : ℕ) → typed_stmt visible callees result (back.while_at line) ≡ stmt_at line waits
    while_at line = search (rules, exprs.the_lemmas, kinds.the_lemmas, stmts.the_lemmas)

    pub return_at : (line : ℕ) → typed_stmt visible callees result (back.stmt_at line kinds.Return) ≡
        stmt_at line typed_stmt_kinds.Return
    return_at line = search (rules, exprs.the_lemmas, kinds.the_lemmas, stmts.the_lemmas)

    pub if_at : (line : ℕ) (test : ExprTree) (first : List StmtTree) →
        typed_stmt visible callees result (back.stmt_at line (kinds.If test first [])) ≡
        stmt_at line (typed_stmt_kinds.If (typed visible test) (map (typed_stmt visible callees result) first) [])
    if_at line test first = search (rules, exprs.the_lemmas, kinds.the_lemmas, stmts.the_lemmas)

  pub value_at : (type : Scalar) (line : ℕ) (value : ExprTree) →
      typed_stmt visible callees (Some (scalar_ty type)) (back.stmt_at line (kinds.ReturnValue value)) ≡
      stmt_at line (typed_stmt_kinds.ReturnValue (going_to (scalar_ty type) (typed visible value)))
  value_at type line value = search (rules, exprs.the_lemmas, kinds.the_lemmas, stmts.the_lemmas)
