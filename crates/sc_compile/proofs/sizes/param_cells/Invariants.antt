use Rattle.sc_compile.proofs.Common.{cells_of, drop, map, total, ◌+◌, ◌≡◌}
use Rattle.sc_core.specs.declared.section.TypedParam.{TypedParam}
use Rattle.sc_compile.proofs.sizes.param_cells.Given as goal

-- what is summed and what is left to sum is all
abbrev pub invariant-loop-param : goal.invariant-loop-param
invariant-loop-param l =
    l.sum + total (map {A = TypedParam} (λ v. cells_of l.structs v.ty) (drop l.param-index l.params))
    ≡ total (map {A = TypedParam} (λ v. cells_of l.structs v.ty) l.params)
