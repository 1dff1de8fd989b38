-- What each fixed word says.
use Rattle.sc_parse_print_laws.proofs.Common.{BinaryOp, Keyword, List, Mark, Some, UnaryOp, arith, binary_of}
use Rattle.sc_parse_print_laws.proofs.Common.{binary_text, codes, is_integer_constant, is_mark, is_name}
use Rattle.sc_parse_print_laws.proofs.Common.{is_number_within, is_reserved, keyword_of, token_kind, level_of, mark_of}
use Rattle.sc_parse_print_laws.proofs.Common.{prefix_of, refl, says, suc, unary_text, word_kind, word_symbol, ℕ, ◌-◌}
use Rattle.sc_parse_print_laws.proofs.Common.{◌≡◌, ◌≤◌}
use Rattle.sc_base.specs.Levels as levels
use Rattle.sc_base.specs.declared.op.UnaryOp.TheVariants as unary
use Rattle.sc_base.specs.declared.op.BinaryOp.TheVariants as binary
use Rattle.sc_parse_expr.specs.declared.mark.Keyword.TheVariants as keyword
use Rattle.sc_parse_expr.specs.declared.mark.Mark.TheVariants as mark
use Rattle.sc_parse_expr.specs.declared.operator.Prefix.TheVariants as prefix
use Rattle.sc_parse_expr.specs.declared.lexeme.Symbol.TheVariants as symbol

-- the word says this mark
abbrev pub SaysMark : List ℕ → Mark → Type 0
SaysMark text m = word_symbol text ≡ symbol.Mark m

-- the marks that no longer mark begins with
pub data Lone : List ℕ → Mark → Type 0 where
  open_paren : Lone (codes "(") mark.OpenParen
  close_paren : Lone (codes ")") mark.CloseParen
  open_square : Lone (codes "[") mark.OpenSquare
  close_square : Lone (codes "]") mark.CloseSquare
  dot : Lone (codes ".") mark.Dot
  arrow : Lone (codes "->") mark.Arrow
  plus_plus : Lone (codes "++") mark.PlusPlus
  semicolon : Lone (codes ";") mark.Semicolon
  comma_mark : Lone (codes ",") mark.Comma
  open_curly : Lone (codes "{") mark.OpenCurly
  close_curly : Lone (codes "}") mark.CloseCurly

pub lone_says : {text : List ℕ} {m : Mark} → Lone text m → SaysMark text m
unfolding word_symbol token_kind word_kind is_reserved is_name is_integer_constant is_number_within is_mark says mark_of
lone_says open_paren = refl
lone_says _ = refl

abbrev pub unary_mark : UnaryOp → Mark
unary_mark unary.Minus = mark.Minus
unary_mark unary.Plus = mark.Plus
unary_mark unary.Not = mark.Not
unary_mark unary.BitNot = mark.Tilde

pub unary_says : (op : UnaryOp) → SaysMark (unary_text op) (unary_mark op)
unfolding word_symbol token_kind word_kind is_reserved is_name is_integer_constant is_number_within is_mark says mark_of
unary_says unary.Minus = refl
unary_says _ = refl

pub unary_prefix : (op : UnaryOp) → prefix_of (unary_mark op) ≡ Some (prefix.Operator op)
unary_prefix unary.Minus = refl
unary_prefix _ = refl

abbrev pub binary_mark : BinaryOp → Mark
binary_mark binary.OrElse = mark.OrOr
binary_mark binary.AndAlso = mark.AndAnd
binary_mark binary.BitOr = mark.Or
binary_mark binary.BitXor = mark.Caret
binary_mark binary.BitAnd = mark.And
binary_mark binary.Equal = mark.EqualEqual
binary_mark binary.NotEqual = mark.NotEqual
binary_mark binary.Less = mark.Less
binary_mark binary.Greater = mark.Greater
binary_mark binary.LessEqual = mark.LessEqual
binary_mark binary.GreaterEqual = mark.GreaterEqual
binary_mark binary.ShiftLeft = mark.LessLess
binary_mark binary.ShiftRight = mark.GreaterGreater
binary_mark binary.Add = mark.Plus
binary_mark binary.Sub = mark.Minus
binary_mark binary.Mul = mark.Star
binary_mark binary.Div = mark.Slash
binary_mark binary.Rem = mark.Percent

pub binary_says : (op : BinaryOp) → SaysMark (binary_text op) (binary_mark op)
unfolding word_symbol token_kind word_kind is_reserved is_name is_integer_constant is_number_within is_mark says mark_of
binary_says binary.OrElse = refl
binary_says _ = refl

pub binary_operator : (op : BinaryOp) → binary_of (binary_mark op) ≡ Some op
binary_operator binary.OrElse = refl
binary_operator _ = refl

-- an operator's level, and the next tighter one
pub own_level : (op : BinaryOp) → suc (levels.level_of op - 1) ≡ levels.level_of op
own_level binary.OrElse = refl
own_level _ = refl

pub at_most_loosest : (op : BinaryOp) → levels.level_of op ≤ 11
at_most_loosest binary.OrElse = omega arith
at_most_loosest _ = omega arith

pub at_least_2 : (op : BinaryOp) → 2 ≤ levels.level_of op
at_least_2 binary.OrElse = omega arith
at_least_2 _ = omega arith

pub equal : SaysMark (codes "=") mark.Equal
unfolding word_symbol token_kind word_kind is_reserved is_name is_integer_constant is_number_within is_mark says mark_of
equal = refl

-- the word says this reserved word
abbrev pub SaysKeyword : List ℕ → Keyword → Type 0
SaysKeyword text w = word_symbol text ≡ symbol.Keyword w

-- how each is written; `auto` is one that nothing is spelled with
abbrev pub keyword_text : Keyword → List ℕ
keyword_text keyword.Break = codes "break"
keyword_text keyword.Continue = codes "continue"
keyword_text keyword.Else = codes "else"
keyword_text keyword.For = codes "for"
keyword_text keyword.Free = codes "free"
keyword_text keyword.If = codes "if"
keyword_text keyword.Int = codes "int"
keyword_text keyword.Malloc = codes "malloc"
keyword_text keyword.Return = codes "return"
keyword_text keyword.Signed = codes "signed"
keyword_text keyword.Sizeof = codes "sizeof"
keyword_text keyword.Struct = codes "struct"
keyword_text keyword.Unsigned = codes "unsigned"
keyword_text keyword.Void = codes "void"
keyword_text keyword.While = codes "while"
keyword_text keyword.Unused = codes "auto"

pub keyword_says : (w : Keyword) → SaysKeyword (keyword_text w) w
unfolding word_symbol token_kind word_kind is_reserved is_name is_integer_constant is_number_within is_mark says
    keyword_of
keyword_says keyword.Break = refl
keyword_says _ = refl
