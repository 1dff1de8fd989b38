-- The statements by which a function performs its part of a trace. A counter holds the number of the compartment's next
-- row; a row of the function is done where it is the next one, and where none is, the function waits for ever.
use Rattle.sc_event.specs.Prelude.{export_at}
use Rattle.std.specs.Prelude.{◌≡◌, ℕ, suc, ◌-◌, ◌^◌, nat_le, ◌==◌, if◌then◌else◌, List, [], ◌∷◌, Option, Some, None}
use Rattle.std.specs.Option.{option_map_or}
use Rattle.sc_base.specs.declared.op.BinaryOp.TheVariants as op
use Rattle.sc_base.specs.declared.op.UnaryOp.TheVariants as unary
use Rattle.sc_event.specs.declared.interface.Interfaces.{Interfaces}
use Rattle.sc_event.specs.declared.interface.Scalar.{Scalar}
use Rattle.sc_event.specs.declared.interface.Scalar.TheVariants as scalar
use Rattle.sc_event.specs.declared.row.Action.{Action}
use Rattle.sc_event.specs.declared.row.Action.TheVariants as act
use Rattle.sc_event.specs.declared.row.Entry.{Entry}
use Rattle.sc_event.specs.declared.row.Row.{Row}
use Rattle.sc_core.specs.declared.expr.CallTarget.{CallTarget}
use Rattle.sc_core.specs.declared.expr.CallTarget.TheVariants.{Cross, Input, Output}
use Rattle.sc_core.specs.declared.expr.TypedExpr.{TypedExpr}
use Rattle.sc_core.specs.declared.expr.TypedKind
use Rattle.sc_core.specs.declared.expr.VarRef.TheVariants.{Global}
use Rattle.sc_core.specs.declared.stmt.TypedStmt.{TypedStmt}
use Rattle.sc_core.specs.declared.stmt.TypedStmtKind.{TypedStmtKind}
use Rattle.sc_core.specs.declared.stmt.TypedStmtKind as kind
use Rattle.sc_core.specs.declared.ty.Ty.{Ty}
use Rattle.sc_core.specs.declared.ty.Ty.TheVariants as ty

-- WORDS
abbrev pub literal : Ty → ℕ → TypedExpr
literal type word = record { ty = type; kind = TypedKind.Literal word }

abbrev pub minus : TypedExpr → TypedExpr
minus e = record { ty = ty.Int; kind = TypedKind.Unary unary.Minus e }

-- `-2147483647 - 1`: no literal with a minus is the least `int`
abbrev pub least_int : TypedExpr
least_int =
    record { ty = ty.Int; kind = TypedKind.Binary op.Sub (minus (literal ty.Int 2147483647)) (literal ty.Int 1) }

-- a word as an `int`: a literal, or minus one
abbrev pub int_expr : ℕ → TypedExpr
int_expr word =
    if nat_le word 2147483647 then literal ty.Int word else
    (if word == 2147483648 then least_int else minus (literal ty.Int (2 ^ 32 - word)))

abbrev pub word_expr : Scalar → ℕ → TypedExpr
word_expr scalar.Int word = int_expr word
word_expr scalar.Unsigned word = literal ty.Unsigned word

-- words for parameters of these types
abbrev pub word_exprs : List Scalar → List ℕ → List TypedExpr
word_exprs [] words = []
word_exprs (param ∷ params) [] = []
word_exprs (param ∷ params) (word ∷ words) = word_expr param word ∷ word_exprs params words

-- ACTIONS
abbrev pub params_at : Interfaces → (comp index : ℕ) → List Scalar
params_at interfaces comp index = option_map_or (λ proto. proto.params) (export_at interfaces comp index) []

-- a word is returned as the type of the result says
abbrev pub or_int : Option Scalar → Scalar
or_int None = scalar.Int
or_int (Some promised) = promised

abbrev pub calls_out : CallTarget → List TypedExpr → TypedStmtKind
calls_out target args = kind.Call (record { target = target; args = args })

-- what a statement does that performs an action, in a function with this result
abbrev pub action_kind : Interfaces → Option Scalar → Action → TypedStmtKind
action_kind interfaces result (act.Call to index words) =
    calls_out (Cross to index) (word_exprs (params_at interfaces to index) words)
action_kind interfaces result (act.Ret None) = kind.Return
action_kind interfaces result (act.Ret (Some word)) = kind.ReturnValue (word_expr (or_int result) word)
action_kind interfaces result (act.Out word) = calls_out Output (int_expr word ∷ [])
action_kind interfaces result (act.In word) = calls_out Input []
action_kind interfaces result (act.End word) = kind.ReturnValue (int_expr word)

-- BODIES
-- `bt_n`, the only global of its section
abbrev pub counter : TypedExpr
counter = record { ty = ty.Unsigned; kind = TypedKind.Variable (Global 0) }

-- `bt_n == number`
abbrev pub counter_is : ℕ → TypedExpr
counter_is number = record { ty = ty.Int; kind = TypedKind.Binary op.Equal counter (literal ty.Unsigned number) }

abbrev pub stmt_at : ℕ → TypedStmtKind → TypedStmt
stmt_at line kind = record { line = line; kind = kind }

-- `if (bt_n == number) { bt_n = number + 1; action }`
abbrev pub row_kind : Interfaces → Option Scalar → Row → (set_line action_line : ℕ) → TypedStmtKind
row_kind interfaces result row set_line action_line =
    kind.If (counter_is row.number)
    (stmt_at set_line (kind.Assign counter (literal ty.Unsigned (suc row.number))) ∷
    stmt_at action_line (action_kind interfaces result row.action) ∷ []) []

-- `while (1) { }`
abbrev pub waits : TypedStmtKind
waits = kind.While (literal ty.Int 1) []

-- the statements, on any lines, that perform those of a compartment's rows that are of this entry
pub data IsPerforming (interfaces : Interfaces) (entry : Entry) (result : Option Scalar) :
    List Row → List TypedStmt → Type 0 where
  ends : (line : ℕ) → IsPerforming interfaces entry result [] (stmt_at line waits ∷ [])
  skips : (row : Row) (rows : List Row) (stmts : List TypedStmt) → (row.entry ≡ entry → ⊥) →
      IsPerforming interfaces entry result rows stmts → IsPerforming interfaces entry result (row ∷ rows) stmts
  performs : (row : Row) (rows : List Row) (stmts : List TypedStmt) (line set_line action_line : ℕ) →
      row.entry ≡ entry → IsPerforming interfaces entry result rows stmts →
      IsPerforming interfaces entry result (row ∷ rows)
      (stmt_at line (row_kind interfaces result row set_line action_line) ∷ stmts)
