use Rattle.sc_lower.proofs.Common.{TypedParam, cells_of, drop, map, ◌++◌, ◌≡◌}
use Rattle.sc_lower.proofs.function.param_cells.Given as goal

abbrev pub invariant-loop-param : goal.invariant-loop-param
invariant-loop-param l =
    l.cells ++ map {A = TypedParam} (λ param. cells_of l.structs param.ty) (drop l.param-index l.params)
    ≡ map {A = TypedParam} (λ param. cells_of l.structs param.ty) l.params
