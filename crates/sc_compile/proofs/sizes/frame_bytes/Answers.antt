use Rattle.sc_compile.proofs.Common.{List, TypedFunction, TypedStruct, arith, cells_of, map, nodes, subst, sym, total}
use Rattle.sc_compile.proofs.Common.{variables, ℕ, ◌+◌, ◌<◌, ◌^◌, ◌∙◌, ◌≡◌}
use Rattle.sc_core.specs.declared.section.TypedLocal.{TypedLocal}
use Rattle.sc_core.specs.declared.section.TypedParam.{TypedParam}
use Rattle.sc_compile.proofs.Lists.{total_append}
use Rattle.sc_compile.proofs.sizes.frame_bytes.Goals as goal

cells_are : (structs : List TypedStruct) (f : TypedFunction) (ps : List TypedParam) (ls : List TypedLocal)
    (params locals : ℕ) → ps ≡ f.params → ls ≡ f.locals →
    params ≡ total (map {A = TypedParam} (λ p. cells_of structs p.ty) ps) →
    locals ≡ total (map {A = TypedLocal} (λ l. cells_of structs l.ty) ls) →
    params + locals ≡ total (variables structs f)
cells_are structs f ps ls params locals of_params of_locals first second =
    (λ i. first i + second i)
    ∙ (λ i. total (map {A = TypedParam} (λ p. cells_of structs p.ty) (of_params i))
    + total (map {A = TypedLocal} (λ l. cells_of structs l.ty) (of_locals i)))
    ∙ sym (total_append (map {A = TypedParam} (λ p. cells_of structs p.ty) f.params)
    (map {A = TypedLocal} (λ l. cells_of structs l.ty) f.locals))

module _ (structs : List TypedStruct) (f : TypedFunction) (few : total (variables structs f) + nodes f < 2 ^ 60) where
  sum : total (variables structs f)
      ≡ total (map {A = TypedParam} (λ p. cells_of structs p.ty) f.params)
      + total (map {A = TypedLocal} (λ l. cells_of structs l.ty) f.locals)
  sum = total_append (map {A = TypedParam} (λ p. cells_of structs p.ty) f.params)
      (map {A = TypedLocal} (λ l. cells_of structs l.ty) f.locals)

  params_few : (ps : List TypedParam) → ps ≡ f.params →
      total (map {A = TypedParam} (λ p. cells_of structs p.ty) ps) < 2 ^ 60
  params_few ps is =
      subst (λ ps. total (map {A = TypedParam} (λ p. cells_of structs p.ty) ps) < 2 ^ 60) (sym is)
      (omega (arith, few, sum))

  locals_few : (ls : List TypedLocal) → ls ≡ f.locals →
      total (map {A = TypedLocal} (λ l. cells_of structs l.ty) ls) < 2 ^ 60
  locals_few ls is =
      subst (λ ls. total (map {A = TypedLocal} (λ l. cells_of structs l.ty) ls) < 2 ^ 60) (sym is)
      (omega (arith, few, sum))

pub param_cells-params-requires : goal.param_cells-params-requires
param_cells-params-requires c =
    params_few c.args.structs.now c.args.function.now c.requires.cells c.as_slice.result.now c.as_slice.ensures

pub local_cells-locals-requires : goal.local_cells-locals-requires
local_cells-locals-requires c =
    locals_few c.args.structs.now c.args.function.now c.requires.cells c.as_slice-2.result.now c.as_slice-2.ensures

pub overflow_add-result : goal.overflow_add-result
overflow_add-result c =
    omega (
      arith,
      c.requires.cells,
      cells_are c.args.structs.now c.args.function.now c.as_slice.result.now c.as_slice-2.result.now
          c.param_cells-params.result c.local_cells-locals.result c.as_slice.ensures c.as_slice-2.ensures
          c.param_cells-params.ensures c.local_cells-locals.ensures,
    )

pub overflow_add-result-2 : goal.overflow_add-result-2
overflow_add-result-2 c =
    omega (
      arith,
      c.requires.cells,
      cells_are c.args.structs.now c.args.function.now c.as_slice.result.now c.as_slice-2.result.now
          c.param_cells-params.result c.local_cells-locals.result c.as_slice.ensures c.as_slice-2.ensures
          c.param_cells-params.ensures c.local_cells-locals.ensures,
      c.from.ensures,
      c.nodes.ensures,
    )

pub overflow_mul-result : goal.overflow_mul-result
overflow_mul-result c =
    omega (
      arith,
      c.requires.cells,
      cells_are c.args.structs.now c.args.function.now c.as_slice.result.now c.as_slice-2.result.now
          c.param_cells-params.result c.local_cells-locals.result c.as_slice.ensures c.as_slice-2.ensures
          c.param_cells-params.ensures c.local_cells-locals.ensures,
      c.from.ensures,
      c.nodes.ensures,
    )

pub overflow_add-result-3 : goal.overflow_add-result-3
overflow_add-result-3 c =
    omega (
      arith,
      c.requires.cells,
      cells_are c.args.structs.now c.args.function.now c.as_slice.result.now c.as_slice-2.result.now
          c.param_cells-params.result c.local_cells-locals.result c.as_slice.ensures c.as_slice-2.ensures
          c.param_cells-params.ensures c.local_cells-locals.ensures,
      c.from.ensures,
      c.nodes.ensures,
    )

pub returns : goal.returns
returns c =
    omega (
      arith,
      c.requires.cells,
      cells_are c.args.structs.now c.args.function.now c.as_slice.result.now c.as_slice-2.result.now
          c.param_cells-params.result c.local_cells-locals.result c.as_slice.ensures c.as_slice-2.ensures
          c.param_cells-params.ensures c.local_cells-locals.ensures,
      c.from.ensures,
      c.nodes.ensures,
    )
