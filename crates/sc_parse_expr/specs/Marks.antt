-- What marks mean between, before and after expressions.
use Rattle.sc_parse_expr.specs.Common.{BinaryOp, ExprTree, level_of, postfix_level}
use Rattle.std.specs.Prelude.{ℕ, Option, Some, None}
use Rattle.std.specs.Option.{option_map}
use Rattle.sc_ast.specs.declared.expr.ExprTree.TheVariants as expr
use Rattle.sc_base.specs.declared.op.UnaryOp.TheVariants as unary
use Rattle.sc_base.specs.declared.op.BinaryOp.TheVariants as binary
use Rattle.sc_parse_expr.specs.declared.mark.Mark.{Mark}
use Rattle.sc_parse_expr.specs.declared.mark.Mark.TheVariants as mark
use Rattle.sc_parse_expr.specs.declared.operator.Prefix.{Prefix}
use Rattle.sc_parse_expr.specs.declared.operator.Prefix.TheVariants as prefix
use Rattle.sc_parse_expr.specs.declared.operator.Extension.{Extension}
use Rattle.sc_parse_expr.specs.declared.operator.Extension.TheVariants as extension

-- the operator that a mark is between two operands
abbrev pub binary_of : Mark → Option BinaryOp
binary_of mark.Plus = Some binary.Add
binary_of mark.Minus = Some binary.Sub
binary_of mark.Star = Some binary.Mul
binary_of mark.Slash = Some binary.Div
binary_of mark.Percent = Some binary.Rem
binary_of mark.LessLess = Some binary.ShiftLeft
binary_of mark.GreaterGreater = Some binary.ShiftRight
binary_of mark.Less = Some binary.Less
binary_of mark.Greater = Some binary.Greater
binary_of mark.LessEqual = Some binary.LessEqual
binary_of mark.GreaterEqual = Some binary.GreaterEqual
binary_of mark.EqualEqual = Some binary.Equal
binary_of mark.NotEqual = Some binary.NotEqual
binary_of mark.And = Some binary.BitAnd
binary_of mark.Caret = Some binary.BitXor
binary_of mark.Or = Some binary.BitOr
binary_of mark.AndAnd = Some binary.AndAlso
binary_of mark.OrOr = Some binary.OrElse
binary_of _ = None

-- the unary operator that a mark is before an operand
abbrev pub prefix_of : Mark → Option Prefix
prefix_of mark.Minus = Some (prefix.Operator unary.Minus)
prefix_of mark.Plus = Some (prefix.Operator unary.Plus)
prefix_of mark.Not = Some (prefix.Operator unary.Not)
prefix_of mark.Tilde = Some (prefix.Operator unary.BitNot)
prefix_of mark.Star = Some prefix.Dereference
prefix_of mark.And = Some prefix.Address
prefix_of _ = None

-- an operator before its operand
abbrev pub prefixed : Prefix → ExprTree → ExprTree
prefixed (prefix.Operator op) of = expr.Unary op of
prefixed prefix.Dereference of = expr.Deref of
prefixed prefix.Address of = expr.Address of

-- the extension that a mark after an expression begins
abbrev pub extension_of : Mark → Option Extension
extension_of mark.OpenSquare = Some extension.Index
extension_of mark.Dot = Some extension.Member
extension_of mark.Arrow = Some extension.Arrow
extension_of m = option_map (λ op. extension.Operator op) (binary_of m)

-- the level of the expressions that are made so
abbrev pub extension_level : Extension → ℕ
extension_level (extension.Operator op) = level_of op
extension_level _ = postfix_level
