-- How many nodes the statements of a performing section have.
use Rattle.sc_back_performer_laws.proofs.Common.{Action, Bool, Callees, Int, Interface, Interfaces, IsPerformer}
use Rattle.sc_back_performer_laws.proofs.Common.{IsUsable, List, MayDo, None, Option, Proto, Row, Scalar, Some, Ty}
use Rattle.sc_back_performer_laws.proofs.Common.{TypedExpr, TypedStmt, Unsigned, [], arith, calls_out, counter}
use Rattle.sc_back_performer_laws.proofs.Common.{counter_is, export_at, expr_nodes, false, false≢true, if◌then◌else◌}
use Rattle.sc_back_performer_laws.proofs.Common.{imports, input_proto, int_expr, is_function, least_int, length, map}
use Rattle.sc_back_performer_laws.proofs.Common.{minus, nat_le, option_map_or, or_int, output_proto, refl, rules}
use Rattle.sc_back_performer_laws.proofs.Common.{stmt_at, stmt_nodes, suc, total, true, waits, word_expr, word_exprs, ℕ}
use Rattle.sc_back_performer_laws.proofs.Common.{◌*◌, ◌+◌, ◌-◌, ◌==◌, ◌^◌, ◌∷◌, ◌≡◌, ◌≤◌}
use Rattle.sc_event.specs.declared.interface.Import.TheVariants as import
use Rattle.sc_event.specs.declared.row.Action.TheVariants as action
use Rattle.sc_core.specs.declared.expr.CallTarget.{CallTarget}
use Rattle.sc_core.specs.declared.expr.TypedExpr as typed_exprs
use Rattle.sc_core.specs.declared.expr.TypedKind as typed_kinds
use Rattle.sc_core.specs.declared.stmt.TypedStmt as typed_stmts
use Rattle.sc_core.specs.declared.stmt.TypedStmtKind as kind
use Rattle.sc_core.specs.declared.ty.Ty.TheVariants as ty
use Rattle.sc_back_replay_laws.specs.Texts.{literal}
use Rattle.sc_back_performer_laws.proofs.SectionFacts.{use_holds, uses_usable}
use Rattle.sc_back_performer_laws.proofs.BackTree.{uses}
use Rattle.sc_back_performer_laws.proofs.TypedRows.{IsTypedBody, action_typed, row_typed, then_does, waits_on}
use Rattle.sc_back_performer_laws.proofs.Uses.{AllFit, calls_use}

-- Expressions.

literal_nodes : (type : Ty) (word : ℕ) → expr_nodes (literal type word) ≡ 1
literal_nodes type word = search (rules, typed_exprs.the_lemmas, typed_kinds.the_lemmas)

minus_nodes : (word : ℕ) → expr_nodes (minus (literal ty.Int word)) ≡ 2
minus_nodes word = search (rules, typed_exprs.the_lemmas, typed_kinds.the_lemmas)

least_nodes : expr_nodes least_int ≡ 4
least_nodes = search (rules, typed_exprs.the_lemmas, typed_kinds.the_lemmas)

test_nodes : (number : ℕ) → expr_nodes (counter_is number) ≡ 3
test_nodes number = search (rules, typed_exprs.the_lemmas, typed_kinds.the_lemmas)

int_nodes : (word : ℕ) → expr_nodes (int_expr word) ≤ 4
int_nodes word = by (nat_le word 2147483647) (word == 2147483648) where
  by : (small least : Bool) → expr_nodes (if small then literal ty.Int word else
      (if least then least_int else minus (literal ty.Int (2 ^ 32 - word)))) ≤ 4
  by true least = omega (arith, literal_nodes ty.Int word)
  by false true = omega (arith, least_nodes)
  by false false = omega (arith, minus_nodes (2 ^ 32 - word))

word_nodes : (type : Scalar) (word : ℕ) → expr_nodes (word_expr type word) ≤ 4
word_nodes Int word = int_nodes word
word_nodes Unsigned word = omega (arith, literal_nodes ty.Unsigned word)

words_nodes : (types : List Scalar) (words : List ℕ) →
    total (map expr_nodes (word_exprs types words)) ≤ 4 * length types
words_nodes [] words = omega arith
words_nodes (type ∷ types) [] = omega arith
words_nodes (type ∷ types) (word ∷ words) = omega (arith, word_nodes type word, words_nodes types words)

-- Statements.

call_at : (line : ℕ) (target : CallTarget) (args : List TypedExpr) →
    stmt_nodes (stmt_at line (calls_out target args)) ≡ suc (total (map expr_nodes args))
call_at line target args = search (rules, typed_stmts.the_lemmas, kind.the_lemmas)

value_at : (line : ℕ) (value : TypedExpr) → stmt_nodes (stmt_at line (kind.ReturnValue value)) ≡ suc (expr_nodes value)
value_at line value = search (rules, typed_stmts.the_lemmas, kind.the_lemmas)

return_at : (line : ℕ) → stmt_nodes (stmt_at line kind.Return) ≡ 1
return_at line = search (rules, typed_stmts.the_lemmas, kind.the_lemmas)

set_at : (line number : ℕ) →
    stmt_nodes (stmt_at line (kind.Assign counter (literal ty.Unsigned number))) ≡ 3
set_at line number = search (
  rules,
  typed_exprs.the_lemmas,
  typed_kinds.the_lemmas,
  typed_stmts.the_lemmas,
  kind.the_lemmas,
)

waits_at : (line : ℕ) → stmt_nodes (stmt_at line waits) ≡ 2
waits_at line = search (
  rules,
  typed_exprs.the_lemmas,
  typed_kinds.the_lemmas,
  typed_stmts.the_lemmas,
  kind.the_lemmas,
)

if_at : (line : ℕ) (test : TypedExpr) (a b : TypedStmt) →
    stmt_nodes (stmt_at line (kind.If test (a ∷ b ∷ []) [])) ≡
    suc (expr_nodes test + (stmt_nodes a + (stmt_nodes b + 0)) + 0)
if_at line test a b = search (rules, typed_stmts.the_lemmas, kind.the_lemmas)

module _ (callees : Callees) (interfaces : Interfaces) (comp : ℕ) (all : List Row) (interface : Interface)
    (is : IsPerformer interfaces comp all interface) where
  cross_nodes : (line to index : ℕ) (args : List ℕ) → imports interfaces comp (is_function to index) ≡ true →
      (o : Option Proto) → export_at interfaces to index ≡ o →
      option_map_or (λ found. length found.params == length args) o false ≡ true →
      stmt_nodes (stmt_at line (option_map_or (λ f. calls_out (callees.target f.name) (word_exprs f.params args)) o
      kind.Empty)) ≤ 33
  cross_nodes line to index args h None at t = absurd (false≢true t)
  cross_nodes line to index args h (Some f) at t =
      let usable : IsUsable f =
      use_holds IsUsable (import.Function to index, f) (uses interfaces interface.imports)
      (uses_usable interfaces comp all interface is) (calls_use interfaces comp all interface is to index f h at) in
      omega (
        arith,
        call_at line (callees.target f.name) (word_exprs f.params args),
        words_nodes f.params args,
        usable.few,
      )

  action_nodes : (result : Option Scalar) (a : Action) (line : ℕ) → MayDo interfaces comp result a →
      stmt_nodes (stmt_at line (action_typed callees interfaces result a)) ≤ 33
  action_nodes result (action.Call to index args) line h =
      cross_nodes line to index args h.0 (export_at interfaces to index) refl h.1
  action_nodes result (action.Ret None) line h = omega (arith, return_at line)
  action_nodes result (action.Ret (Some word)) line h =
      omega (arith, value_at line (word_expr (or_int result) word), word_nodes (or_int result) word)
  action_nodes result (action.Out word) line h =
      omega (arith, call_at line (callees.target output_proto.name) (int_expr word ∷ []), int_nodes word)
  action_nodes result (action.In word) line h = omega (arith, call_at line (callees.target input_proto.name) [])
  action_nodes result (action.End word) line h = omega (arith, value_at line (int_expr word), int_nodes word)

  row_nodes : (result : Option Scalar) (row : Row) (line set_line action_line : ℕ) →
      MayDo interfaces comp result row.action →
      stmt_nodes (row_typed callees interfaces result row line set_line action_line) ≤ 40
  row_nodes result row line set_line action_line may =
      let act = stmt_at action_line (action_typed callees interfaces result row.action) in
      let set = stmt_at set_line (kind.Assign counter (literal ty.Unsigned (suc row.number))) in
      omega (
        arith,
        if_at line (counter_is row.number) set act,
        test_nodes row.number,
        set_at set_line (suc row.number),
        action_nodes result row.action action_line may,
      )

  -- a row has at most 40 nodes
  pub body_nodes : (result : Option Scalar) (done : List Row) (stmts : List TypedStmt) →
      IsTypedBody callees interfaces result done stmts → AllFit interfaces comp result done →
      total (map stmt_nodes stmts) ≤ 40 * length done + 2
  body_nodes result done stmts (waits_on line) h = omega (arith, waits_at line)
  body_nodes result done stmts (then_does row others rest line set_line action_line b) h =
      omega (arith, row_nodes result row line set_line action_line h.0.may, body_nodes result others rest b h.1)
