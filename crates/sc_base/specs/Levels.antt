-- The levels of expressions, the tightest first: postfix expressions (C11 6.5.2), unary expressions (6.5.3), and those
-- of the binary operators (6.5.5 to 6.5.14), of which the last holds every expression.
use Rattle.std.specs.Prelude.{ℕ}
use Rattle.sc_base.specs.declared.op.BinaryOp.{BinaryOp}
use Rattle.sc_base.specs.declared.op.BinaryOp.TheVariants as binary

abbrev pub postfix_level : ℕ
postfix_level = 0

abbrev pub unary_level : ℕ
unary_level = 1

abbrev pub loosest_level : ℕ
loosest_level = 11

-- the level of the expressions that an operator joins
abbrev pub level_of : BinaryOp → ℕ
level_of binary.Mul = 2
level_of binary.Div = 2
level_of binary.Rem = 2
level_of binary.Add = 3
level_of binary.Sub = 3
level_of binary.ShiftLeft = 4
level_of binary.ShiftRight = 4
level_of binary.Less = 5
level_of binary.Greater = 5
level_of binary.LessEqual = 5
level_of binary.GreaterEqual = 5
level_of binary.Equal = 6
level_of binary.NotEqual = 6
level_of binary.BitAnd = 7
level_of binary.BitXor = 8
level_of binary.BitOr = 9
level_of binary.AndAlso = 10
level_of binary.OrElse = 11
