use Rattle.sc_compile.proofs.Common.{TypedGlobal, cells_of, drop, map, total, ◌+◌, ◌≡◌}
use Rattle.sc_compile.proofs.sizes.cells.Given as goal

-- what is summed and what is left to sum is all
abbrev pub invariant-loop-global : goal.invariant-loop-global
invariant-loop-global l =
    l.sum + total (map {A = TypedGlobal} (λ g. cells_of l.structs g.ty) (drop l.global-index l.globals))
    ≡ total (map {A = TypedGlobal} (λ g. cells_of l.structs g.ty) l.globals)
