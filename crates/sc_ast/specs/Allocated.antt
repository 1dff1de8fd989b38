-- What stands in the parentheses of `malloc` (C11 7.22.3.4).
use Rattle.std.specs.Prelude.{Option, Some, None}
use Rattle.sc_base.specs.declared.op.BinaryOp.TheVariants as binary
use Rattle.sc_ast.specs.declared.expr.ExprTree.{ExprTree}
use Rattle.sc_ast.specs.declared.expr.ExprTree.TheVariants as expr
use Rattle.sc_ast.specs.declared.types.TypeName.{TypeName}

-- the size of a type, or a multiple of it
abbrev pub malloc_argument : Option ExprTree → TypeName → ExprTree
malloc_argument None of = expr.SizeOf of
malloc_argument (Some count) of = expr.Binary binary.Mul count (expr.SizeOf of)
