-- The names from below that several definitions of this crate cite, passed on from one place. Declares nothing.
pub use Rattle.sc_base.specs.Prelude.{number_by_name}
pub use Rattle.sc_ast.specs.declared.expr.ExprTree.{ExprTree, ExprTree-F, fold-ExprTree}
pub use Rattle.sc_ast.specs.declared.types.TypeName.{TypeName}
pub use Rattle.sc_core.specs.Prelude.{Scope, Signature, cells_of, common, decayed, has_member, is_pointer, is_type}
pub use Rattle.sc_core.specs.Prelude.{most_cells, pointer_to, starred, target, variable_ty}
pub use Rattle.sc_core.specs.declared.expr.CallTarget.{CallTarget}
pub use Rattle.sc_core.specs.declared.expr.CallTarget.TheVariants.{Own}
pub use Rattle.sc_core.specs.declared.expr.TypedExpr.{TypedExpr, fold-TypedExpr}
pub use Rattle.sc_core.specs.declared.expr.VarRef.TheVariants.{Global, Local, Param}
pub use Rattle.sc_core.specs.declared.section.TypedMember.{TypedMember}
pub use Rattle.sc_core.specs.declared.section.TypedParam.{TypedParam}
pub use Rattle.sc_core.specs.declared.section.TypedStruct.{TypedStruct}
pub use Rattle.sc_core.specs.declared.ty.Ty.{Ty}
