-- The names from below that several definitions of this crate cite, passed on from one place. Declares nothing.
pub use Rattle.sc_ast.specs.declared.expr.CallTree.{CallTree}
pub use Rattle.sc_ast.specs.declared.expr.ExprTree.{ExprTree}
pub use Rattle.sc_ast.specs.declared.stmt.SimpleKind.{SimpleKind}
pub use Rattle.sc_ast.specs.declared.stmt.SimpleTree.{SimpleTree}
pub use Rattle.sc_ast.specs.declared.stmt.StmtKind.{StmtKind, StmtKind-F, fold-StmtKind}
pub use Rattle.sc_ast.specs.declared.stmt.StmtTree.{StmtTree, StmtTree-F, fold-StmtTree}
pub use Rattle.sc_ast.specs.declared.types.TypeName.{TypeName}
pub use Rattle.sc_core.specs.Prelude.{Judged, Scope, Signature, args_fit, assign_fits, count_fits, goes_into, is_scalar}
pub use Rattle.sc_core.specs.Prelude.{is_target, is_type, judged, pointer_to, points, result_goes, returned_fits}
pub use Rattle.sc_core.specs.declared.expr.TypedCall.{TypedCall}
pub use Rattle.sc_core.specs.declared.expr.TypedExpr.{TypedExpr}
pub use Rattle.sc_core.specs.declared.stmt.TypedSimple.{TypedSimple}
pub use Rattle.sc_core.specs.declared.stmt.TypedSimpleKind.{TypedSimpleKind}
pub use Rattle.sc_core.specs.declared.stmt.TypedStmt.{TypedStmt}
pub use Rattle.sc_core.specs.declared.stmt.TypedStmtKind.{TypedStmtKind}
pub use Rattle.sc_core.specs.declared.ty.Ty.{Ty}
pub use Rattle.sc_types_elab_expr.specs.Prelude.{Callees, Visible, called, cells_under, going_to, type_of_name}
pub use Rattle.sc_types_elab_expr.specs.Prelude.{typed, visible}
