-- Helping: what is visible in a function's body, and what its expressions are there.
use Rattle.sc_types_elab_expr.specs.Common.{ExprTree, TypedExpr}
use Rattle.sc_types_elab_expr.specs.Scopes.{Visible}
use Rattle.sc_types_elab_expr.specs.declared.scope.SectionScope.{SectionScope}
use Rattle.sc_types_elab_expr.specs.declared.scope.FunctionScope.{FunctionScope}
use Rattle.sc_types_elab_expr.specs.Expressions.{typed}

abbrev pub visible : SectionScope → FunctionScope → Visible
visible section function = record {
  tags = section.tags;
  structs = section.structs;
  globals = section.globals;
  params = function.params;
  locals = function.locals;
}

module _ (section : SectionScope) (function : FunctionScope) where
  unfoldable pub expr_in : ExprTree → TypedExpr
  expr_in = typed (visible section function)
