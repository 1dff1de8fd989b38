-- Which expressions name a place (C11 6.3.2.1).
use Rattle.std.specs.Prelude.{Bool, true, false, Result, Ok, Err, if◌then◌else◌}
use Rattle.sc_ast.specs.declared.expr.ExprTree.{ExprTree, ExprTree-F, fold-ExprTree}
use Rattle.sc_ast.specs.declared.expr.ExprTree.TheOpen as term

-- a variable, an index, a member, an arrow or a `*`, whatever stands inside
abbrev pub place_step : ExprTree-F Bool → Bool
place_step (term.Variable name) = true
place_step (term.Index base index) = true
place_step (term.Member base name) = true
place_step (term.Arrow base name) = true
place_step (term.Deref of) = true
place_step _ = false

abbrev pub is_place : ExprTree → Bool
is_place = fold-ExprTree Bool place_step

-- the expression as a place, or as what it was where it is none
abbrev pub place_of : ExprTree → Result ExprTree ExprTree
place_of expr = if is_place expr then Ok expr else Err expr
