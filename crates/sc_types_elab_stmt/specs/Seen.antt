-- Helping: what values and statements are in a function's body.
use Rattle.sc_types_elab_stmt.specs.Common.{CallTree, ExprTree, SimpleKind, SimpleTree, StmtKind, StmtTree, Ty}
use Rattle.sc_types_elab_stmt.specs.Common.{TypedCall, TypedExpr, TypedSimple, TypedSimpleKind, TypedStmt}
use Rattle.sc_types_elab_stmt.specs.Common.{TypedStmtKind, called, fold-StmtKind, going_to, typed, visible}
use Rattle.std.specs.Prelude.{List, Option, map}
use Rattle.std.specs.Option.{option_map}
use Rattle.sc_types_elab_stmt.specs.Statements.{going_to_some, going_to_all, typed_call, typed_count}
use Rattle.sc_types_elab_stmt.specs.Statements.{typed_simple, typed_simple_kind, typed_stmt, kind_typed, stmt_typed}
use Rattle.sc_types_elab_expr.specs.declared.scope.SectionScope.{SectionScope}
use Rattle.sc_types_elab_expr.specs.declared.scope.FunctionScope.{FunctionScope}

module _ (section : SectionScope) (function : FunctionScope) where
  -- on its way to a place of a type
  unfoldable pub value_in : Ty → ExprTree → TypedExpr
  value_in place value = going_to place (typed (visible section function) value)

  -- on its way out of the function
  unfoldable pub returned_in : ExprTree → TypedExpr
  returned_in value = going_to_some function.result (typed (visible section function) value)

  -- how many elements are allocated
  unfoldable pub count_in : Option ExprTree → Option TypedExpr
  count_in = typed_count (visible section function) (called section.callees)

  -- on their way to parameters
  unfoldable pub args_in : List Ty → List ExprTree → List TypedExpr
  args_in params args = going_to_all params (map (typed (visible section function)) args)

  unfoldable pub call_in : CallTree → TypedCall
  call_in = typed_call (visible section function) (called section.callees)

  unfoldable pub simple_in : SimpleKind → TypedSimpleKind
  simple_in = typed_simple_kind (visible section function) (called section.callees)

  unfoldable pub part_in : Option SimpleTree → Option TypedSimple
  part_in = option_map (typed_simple (visible section function) (called section.callees))

  unfoldable pub kind_in : StmtKind → TypedStmtKind
  kind_in =
      fold-StmtKind TypedStmtKind TypedStmt (kind_typed (visible section function)
      (called section.callees) function.result) (stmt_typed (visible section function)
      (called section.callees) function.result)

  unfoldable pub stmt_in : StmtTree → TypedStmt
  stmt_in = typed_stmt (visible section function) (called section.callees) function.result
