-- Reading types from left to right.
use Rattle.sc_parse_expr.specs.Common.{BaseTree, TypeName}
use Rattle.std.specs.Prelude.{ℕ, Bool, true, false, List, Option, Some, None, drop, if◌then◌else◌}
use Rattle.std.specs.List.{prefix_len}
use Rattle.sc_ast.specs.declared.types.BaseTree.TheVariants as base
use Rattle.sc_parse_expr.specs.declared.lexeme.Lexeme.{Lexeme}
use Rattle.sc_parse_expr.specs.declared.mark.Keyword.{Keyword}
use Rattle.sc_parse_expr.specs.declared.mark.Keyword.TheVariants as word
use Rattle.sc_parse_expr.specs.declared.mark.Mark.TheVariants as mark
use Rattle.sc_parse_expr.specs.Prefixes.{following, is_mark, keyword_at, name_at, ◌>>=◌}

-- what is read at the start, and the lexemes after it
abbrev pub Reader : Type 0 → Type 0
Reader A = List Lexeme → Option (A × List Lexeme)

abbrev pub is_int : Option Keyword → Bool
is_int (Some word.Int) = true
is_int _ = false

-- the lexemes without an `int` that may come first
abbrev pub past_int : List Lexeme → List Lexeme
past_int ts = if is_int (keyword_at ts) then drop 1 ts else ts

-- how many `*` are at the start
unfoldable pub star_count : List Lexeme → ℕ
star_count ts = prefix_len (λ t. is_mark mark.Star t.symbol) ts

abbrev pub base_by : Option Keyword → Reader BaseTree
base_by (Some word.Int) ts = Some (base.Int, ts)
base_by (Some word.Signed) ts = Some (base.Int, past_int ts)
base_by (Some word.Unsigned) ts = Some (base.Unsigned, past_int ts)
base_by (Some word.Struct) ts = name_at ts >>= (λ x. Some (base.Struct x.0, x.1))
base_by _ ts = None

unfoldable pub base_at : Reader BaseTree
base_at ts = base_by (keyword_at ts) (drop 1 ts)

unfoldable pub type_name_at : Reader TypeName
type_name_at ts = base_at ts >>= (λ x. Some (record { base = x.0; stars = star_count x.1 }, drop (star_count x.1) x.1))

-- a type in parentheses
unfoldable pub type_in_parens : Reader TypeName
type_in_parens ts = following mark.OpenParen ts >>= (λ us. type_name_at us >>= (λ x.
    following mark.CloseParen x.1 >>= (λ rest. Some (x.0, rest))))
