use Rattle.sc_lower.proofs.Common.{TypedLocal, cells_of, drop, map, variables, ◌++◌, ◌≡◌}
use Rattle.sc_lower.proofs.function.object_cells.Given as goal

abbrev pub invariant-loop-local : goal.invariant-loop-local
invariant-loop-local l =
    l.cells ++ map {A = TypedLocal} (λ local. cells_of l.structs local.ty) (drop l.local-index l.function.locals)
    ≡ variables l.structs l.function
