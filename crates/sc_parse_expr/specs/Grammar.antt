-- The grammar of expressions (C11 6.5.1 to 6.5.14).
use Rattle.sc_parse_expr.specs.Common.{BinaryOp, ExprTree, Number, level_of, loosest_level, postfix_level, unary_level}
use Rattle.std.specs.Prelude.{◌≡◌, ℕ, suc, List, [], ◌∷◌, ◌++◌, Some}
use Rattle.sc_ast.specs.declared.expr.ExprTree.TheVariants as expr
use Rattle.sc_ast.specs.declared.types.TypeName.{TypeName}
use Rattle.sc_parse_expr.specs.declared.mark.Mark.{Mark}
use Rattle.sc_parse_expr.specs.declared.mark.Mark.TheVariants as mark
use Rattle.sc_parse_expr.specs.declared.mark.Keyword.TheVariants as word
use Rattle.sc_parse_expr.specs.declared.operator.Prefix.{Prefix}
use Rattle.sc_parse_expr.specs.declared.lexeme.Symbol.TheVariants as symbol
use Rattle.sc_parse_expr.specs.declared.lexeme.Lexeme.{Lexeme}
use Rattle.sc_parse_expr.specs.Lexemes.{IsIdent, IsKeyword, IsMark}
use Rattle.sc_parse_expr.specs.Marks.{binary_of, prefix_of, prefixed}
use Rattle.sc_parse_expr.specs.Types.{SpellsTypeName}

-- The lexemes spell this expression at this level.
pub data Spells : ℕ → List Lexeme → ExprTree → Type 0 where
  -- an integer, an identifier, an expression in parentheses, which leave no mark, or the size of a type
  literal : (t : Lexeme) (number : Number) → t.symbol ≡ symbol.Integer number →
      Spells postfix_level (t ∷ []) (expr.Literal number)
  variable : (t : Lexeme) (name : List ℕ) → IsIdent name t → Spells postfix_level (t ∷ []) (expr.Variable name)
  parenthesised : {ts : List Lexeme} {e : ExprTree} (t u : Lexeme) → IsMark mark.OpenParen t →
      IsMark mark.CloseParen u → Spells loosest_level ts e → Spells postfix_level (t ∷ (ts ++ u ∷ [])) e
  size_of : {ts : List Lexeme} {of : TypeName} (t u v : Lexeme) → IsKeyword word.Sizeof t → IsMark mark.OpenParen u →
      IsMark mark.CloseParen v → SpellsTypeName ts of → Spells postfix_level (t ∷ u ∷ (ts ++ v ∷ [])) (expr.SizeOf of)
  -- a postfix expression, and an index or the name of a member after it
  index : {ts us : List Lexeme} {e f : ExprTree} (t u : Lexeme) → IsMark mark.OpenSquare t → IsMark mark.CloseSquare u →
      Spells postfix_level ts e → Spells loosest_level us f →
      Spells postfix_level (ts ++ t ∷ (us ++ u ∷ [])) (expr.Index e f)
  member : {ts : List Lexeme} {e : ExprTree} (t u : Lexeme) (name : List ℕ) → IsMark mark.Dot t → IsIdent name u →
      Spells postfix_level ts e → Spells postfix_level (ts ++ t ∷ u ∷ []) (expr.Member e name)
  arrow : {ts : List Lexeme} {e : ExprTree} (t u : Lexeme) (name : List ℕ) → IsMark mark.Arrow t → IsIdent name u →
      Spells postfix_level ts e → Spells postfix_level (ts ++ t ∷ u ∷ []) (expr.Arrow e name)
  -- a unary operator before a unary expression
  prefix : {ts : List Lexeme} {e : ExprTree} (t : Lexeme) (m : Mark) (p : Prefix) → IsMark m t → prefix_of m ≡ Some p →
      Spells unary_level ts e → Spells unary_level (t ∷ ts) (prefixed p e)
  -- a left part of an operator's own level, the operator, and a right part of the next tighter level
  joined : {level : ℕ} {ts us : List Lexeme} {e f : ExprTree} (t : Lexeme) (m : Mark) (op : BinaryOp) → IsMark m t →
      binary_of m ≡ Some op → level_of op ≡ suc level → Spells (suc level) ts e → Spells level us f →
      Spells (suc level) (ts ++ t ∷ us) (expr.Binary op e f)
  -- each level holds the next tighter one
  looser : {level : ℕ} {ts : List Lexeme} {e : ExprTree} → Spells level ts e → Spells (suc level) ts e
