use Rattle.sc_compile.proofs.Common.{cells_of, drop, map, total, ◌+◌, ◌≡◌}
use Rattle.sc_core.specs.declared.section.TypedLocal.{TypedLocal}
use Rattle.sc_compile.proofs.sizes.local_cells.Given as goal

-- what is summed and what is left to sum is all
abbrev pub invariant-loop-local : goal.invariant-loop-local
invariant-loop-local l =
    l.sum + total (map {A = TypedLocal} (λ v. cells_of l.structs v.ty) (drop l.local-index l.locals))
    ≡ total (map {A = TypedLocal} (λ v. cells_of l.structs v.ty) l.locals)
