-- How expressions are printed: with the parentheses that the grammar needs, and no more.
use Rattle.sc_base.specs.Prelude.{level_of, loosest_level, postfix_level, unary_level}
use Rattle.std.specs.Prelude.{ℕ, ◌-◌, nat_lt, Bool, ◌&&◌, ◌||◌, bytes_eq, codes, List, [], ◌∷◌, ◌++◌, if◌then◌else◌}
use Rattle.std.specs.Fmt.{decimal}
use Rattle.std.specs.List.{join_by}
use Rattle.sc_ast.specs.Numbers.{Number}
use Rattle.sc_ast.specs.Pieces.{Piece, word, blank, in_parens, comma}
use Rattle.sc_ast.specs.TypeWords.{type_words}
use Rattle.sc_base.specs.declared.op.UnaryOp.{UnaryOp}
use Rattle.sc_base.specs.declared.op.UnaryOp.TheVariants as unary
use Rattle.sc_base.specs.declared.op.BinaryOp.{BinaryOp}
use Rattle.sc_base.specs.declared.op.BinaryOp.TheVariants as binary
use Rattle.sc_ast.specs.declared.expr.ExprTree.{ExprTree, ExprTree-F, fold-ExprTree}
use Rattle.sc_ast.specs.declared.expr.ExprTree.TheOpen as term
use Rattle.sc_ast.specs.declared.expr.CallTree.{CallTree}
use Rattle.sc_ast.specs.declared.types.TypeName.{TypeName}

abbrev pub unary_text : UnaryOp → List ℕ
unary_text unary.Minus = codes "-"
unary_text unary.Plus = codes "+"
unary_text unary.Not = codes "!"
unary_text unary.BitNot = codes "~"

abbrev pub binary_text : BinaryOp → List ℕ
binary_text binary.OrElse = codes "||"
binary_text binary.AndAlso = codes "&&"
binary_text binary.BitOr = codes "|"
binary_text binary.BitXor = codes "^"
binary_text binary.BitAnd = codes "&"
binary_text binary.Equal = codes "=="
binary_text binary.NotEqual = codes "!="
binary_text binary.Less = codes "<"
binary_text binary.Greater = codes ">"
binary_text binary.LessEqual = codes "<="
binary_text binary.GreaterEqual = codes ">="
binary_text binary.ShiftLeft = codes "<<"
binary_text binary.ShiftRight = codes ">>"
binary_text binary.Add = codes "+"
binary_text binary.Sub = codes "-"
binary_text binary.Mul = codes "*"
binary_text binary.Div = codes "/"
binary_text binary.Rem = codes "%"

-- a decimal, with the suffix `u` where its type is `unsigned int`
abbrev pub literal_text : Number → List ℕ
literal_text number = decimal number.value ++ (if number.unsigned then codes "u" else [])

-- `-`, `+` and `&` twice in a row would be one other operator
abbrev pub is_doubled : List ℕ → Bool
is_doubled sign = bytes_eq sign (codes "-") || bytes_eq sign (codes "+") || bytes_eq sign (codes "&")

-- what stands between an operator and what is right before it
abbrev pub apart : List ℕ → List ℕ → List Piece
apart before sign = if bytes_eq before sign && is_doubled sign then blank ∷ [] else []

-- The words of an expression right after an operator (`[]` where there is none), where an expression of this level
-- or a tighter one needs no parentheses.
abbrev pub Printed : Type 0
Printed = List ℕ → ℕ → List Piece

-- a unary operator before its operand
abbrev pub prefix_words : List ℕ → Printed → Printed
prefix_words sign of before level = in_parens (nat_lt level unary_level)
    (apart before sign ++ word sign ∷ of sign unary_level)

-- an operator between its operands, of which the right one is of the next tighter level
abbrev pub binary_words : BinaryOp → Printed → Printed → Printed
binary_words op left right before level =
    in_parens (nat_lt level (level_of op)) (left [] (level_of op) ++ blank ∷ word (binary_text op) ∷ blank ∷
    right [] (level_of op - 1))

-- `sizeof(int *)`
abbrev pub sizeof_words : TypeName → List Piece
sizeof_words of = word (codes "sizeof") ∷ word (codes "(") ∷ (type_words of ++ word (codes ")") ∷ [])

-- the words of an expression, by those of its parts
abbrev pub expr_step : ExprTree-F Printed → Printed
expr_step (term.Literal literal) before level = word (literal_text literal) ∷ []
expr_step (term.Variable name) before level = word name ∷ []
expr_step (term.Unary op of) before level = prefix_words (unary_text op) of before level
expr_step (term.Binary op left right) before level = binary_words op left right before level
expr_step (term.Index base index) before level = base [] postfix_level ++
    word (codes "[") ∷ (index [] loosest_level ++ word (codes "]") ∷ [])
expr_step (term.Member base name) before level = base [] postfix_level ++ word (codes ".") ∷ word name ∷ []
expr_step (term.Arrow base name) before level = base [] postfix_level ++ word (codes "->") ∷ word name ∷ []
expr_step (term.Deref of) before level = prefix_words (codes "*") of before level
expr_step (term.Address of) before level = prefix_words (codes "&") of before level
expr_step (term.SizeOf of) before level = sizeof_words of

abbrev pub words_at : ExprTree → Printed
words_at = fold-ExprTree Printed expr_step

-- the words of an expression that needs no parentheses
abbrev pub expr_words : ExprTree → List Piece
expr_words expr = words_at expr [] loosest_level

-- the words of a place, which is of the unary level
abbrev pub place_words : ExprTree → List Piece
place_words place = words_at place [] unary_level

-- `f(a, b)`
abbrev pub call_words : CallTree → List Piece
call_words call = word call.name ∷ word (codes "(") ∷ (join_by expr_words comma call.args ++ word (codes ")") ∷ [])
