-- Helping: what the leaves of every tree of the program keep: names are identifiers and no reserved words, and literals
-- fit their type.
use Rattle.sc_parse_print_laws.specs.Common.{ExprTree, ExprTree-F, fits, fold-ExprTree, is_ident}
use Rattle.std.specs.Prelude.{Bool, true, ◌&&◌, Option, Some, None}
use Rattle.sc_ast.specs.declared.expr.ExprTree.TheOpen as term
use Rattle.sc_ast.specs.declared.types.BaseTree.{BaseTree}
use Rattle.sc_ast.specs.declared.types.BaseTree.TheVariants as base

abbrev pub kept_base : BaseTree → Bool
kept_base (base.Struct tag) = is_ident tag
kept_base _ = true

abbrev pub kept_step : ExprTree-F Bool → Bool
kept_step (term.Literal literal) = fits literal
kept_step (term.Variable name) = is_ident name
kept_step (term.Unary op of) = of
kept_step (term.Binary op left right) = left && right
kept_step (term.Index base index) = base && index
kept_step (term.Member base name) = base && is_ident name
kept_step (term.Arrow base name) = base && is_ident name
kept_step (term.Deref of) = of
kept_step (term.Address of) = of
kept_step (term.SizeOf of) = kept_base of.base

abbrev pub is_kept : ExprTree → Bool
is_kept = fold-ExprTree Bool kept_step

-- of an expression that may be absent
abbrev pub kept_value : Option ExprTree → Bool
kept_value None = true
kept_value (Some value) = is_kept value
