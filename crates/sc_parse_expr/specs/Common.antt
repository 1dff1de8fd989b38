-- The names from below that several definitions of this crate cite, passed on from one place. Declares nothing.
pub use Rattle.sc_base.specs.Prelude.{level_of, loosest_level, name_of, postfix_level, unary_level}
pub use Rattle.sc_base.specs.declared.op.BinaryOp.{BinaryOp}
pub use Rattle.sc_ast.specs.Prelude.{Number, expr_height, ident_of, number_typed}
pub use Rattle.sc_ast.specs.declared.expr.ExprTree.{ExprTree}
pub use Rattle.sc_ast.specs.declared.types.BaseTree.{BaseTree}
pub use Rattle.sc_ast.specs.declared.types.TypeName.{TypeName}
