-- Which expressions name a place (C11 6.3.2.1).
use Rattle.std.specs.Prelude.{Bool, true, false, Result, Ok, Err, if◌then◌else◌}
use Rattle.sc_core.specs.declared.expr.TypedExpr.{TypedExpr, fold-TypedExpr}
use Rattle.sc_core.specs.declared.expr.TypedKind.{TypedKind-F}
use Rattle.sc_core.specs.declared.expr.TypedKind.TheOpen as term

-- a variable, an index, a member, an arrow or a `*`, whatever stands inside
abbrev pub place_step : TypedKind-F Bool Bool → Bool
place_step (term.Variable v) = true
place_step (term.Index base index) = true
place_step (term.Member base offset) = true
place_step (term.Arrow base offset) = true
place_step (term.Deref of) = true
place_step _ = false

abbrev pub is_place : TypedExpr → Bool
is_place = fold-TypedExpr Bool Bool place_step (λ e. e.kind)

-- the expression as a place, or as what it was where it is none
abbrev pub place_of : TypedExpr → Result TypedExpr TypedExpr
place_of expr = if is_place expr then Ok expr else Err expr
