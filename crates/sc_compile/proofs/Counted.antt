-- No count of a program passes a word of 64 bits, and where nothing is too large each function fits.
use Rattle.sc_compile.proofs.Common.{All, Bool, CanBeCompiled, CompileFault, EachEmits, EmitsAll, EmitsSo}
use Rattle.sc_compile.proofs.Common.{Fits as FitsIn, IsCounted, IsCountedFunction, IsWellTyped, List, None, Option}
use Rattle.sc_compile.proofs.Common.{ProgramTree, Some, TacSection, TypedFunction, TypedGlobal}
use Rattle.sc_compile.proofs.Common.{TypedSection, TypedStruct, [], all_at as of_all, all_by, and_first}
use Rattle.sc_compile.proofs.Common.{and_rest, ap, arith, callable_in, cells_in, cells_of, decl_count}
use Rattle.sc_compile.proofs.Common.{flat_map, frame_bound, function_fits, function_tac}
use Rattle.sc_compile.proofs.Common.{functions_or_none, global_fits, large_frame}
use Rattle.sc_compile.proofs.Common.{leb-true, length, length-map, list_all, local_fits, local_nodes, map}
use Rattle.sc_compile.proofs.Common.{most_cells, most_frame, most_nodes, most_params, nat_le, nodes, of_section}
use Rattle.sc_compile.proofs.Common.{params_fit, passed_fits, program_tac, refl, result_fits, scope_of}
use Rattle.sc_compile.proofs.Common.{section_fits, slice_get, structs_fit, subst, suc, sym, too_large, total}
use Rattle.sc_compile.proofs.Common.{true, variable_fits, variables, zero, ℕ, ◌&&◌, ◌*◌, ◌++◌, ◌+◌, ◌<◌, ◌^◌, ◌∙◌}
use Rattle.sc_compile.proofs.Common.{◌∷◌, ◌≡◌, ◌≤◌}
use Rattle.sc_compile.specs.Prelude.{Fits}
use Rattle.sc_core_kind_laws.proofs.Sections.{all_at}
use Rattle.sc_core.specs.declared.section.TypedLocal.{TypedLocal}
use Rattle.sc_core.specs.declared.section.TypedParam.{TypedParam}
use Rattle.sc_compile.proofs.Fitting.{code_fits, frames_fit, prefix_none, rest_none, within}
use Rattle.sc_compile.proofs.Lists.{mapped, total_append}
use Rattle.sc_lower.proofs.Beyond.{locals_few}
use Rattle.sc_lower.proofs.Rules.{lowerable}

-- LISTS

total_below : (xs : List ℕ) → ((i x : ℕ) → slice_get xs i ≡ Some x → x ≤ most_cells) →
    total xs ≤ length xs * most_cells
total_below [] h = omega arith
total_below (x ∷ xs) h =
    let one : x ≤ most_cells = h 0 x refl in
    let rest : total xs ≤ length xs * most_cells = total_below xs (λ i y is. h (suc i) y is) in
    omega (arith, one, rest)

member_below : (xs : List ℕ) (i x : ℕ) → slice_get xs i ≡ Some x → x ≤ total xs
member_below [] i x is = absurd (cc)
member_below (y ∷ ys) zero x is = let same : y ≡ x = cc in omega (arith, same)
member_below (y ∷ ys) (suc i) x is = let rest : x ≤ total ys = member_below ys i x is in omega (arith, rest)

none_at : {X : Type 0} (find : X → List CompileFault) (xs : List X) (i : ℕ) (x : X) → flat_map find xs ≡ [] →
    slice_get xs i ≡ Some x → find x ≡ []
none_at find [] i x none is = absurd (cc)
none_at find (y ∷ ys) zero x none is =
    let same : y ≡ x = cc in subst (λ z. find z ≡ []) same (prefix_none (find y) (flat_map find ys) none)
none_at find (y ∷ ys) (suc i) x none is = none_at find ys i x (rest_none (find y) (flat_map find ys) none) is

-- COUNTS

variable_few : (structs : List TypedStruct) (ty : _) → variable_fits structs ty ≡ true →
    cells_of structs ty ≤ most_cells
variable_few structs ty h = leb-true (cells_of structs ty) most_cells (and_rest _ _ h)

module _ (program : ProgramTree) (typed : IsWellTyped program) (comp : ℕ) (source : TypedSection)
    (is : slice_get program.sections comp ≡ Some source) where
  there : FitsIn program comp
  there = of_section program typed comp source is

  own : section_fits program.interfaces comp there.interface source ≡ true
  own = let two : Some there.section ≡ Some source = sym there.is ∙ is in
      let same : there.section ≡ source = cc two in
      subst (λ s. section_fits program.interfaces comp there.interface s ≡ true) same there.fits

  abbrev structs_kept : Bool
  structs_kept = structs_fit source.structs 0 source.structs

  abbrev globals_kept : Bool
  globals_kept = list_all (global_fits source.structs) source.globals

  abbrev functions_kept : Bool
  functions_kept = list_all (function_fits (callable_in program.interfaces there.interface source) source)
      source.functions

  globals_so : globals_kept ≡ true
  globals_so = and_first globals_kept _ (and_rest structs_kept _ own)

  functions_so : functions_kept ≡ true
  functions_so = and_first functions_kept _ (and_rest globals_kept _ (and_rest structs_kept _ own))

  counts_so : (nat_le (total (map nodes source.functions)) most_nodes && nat_le (decl_count source) most_nodes) ≡ true
  counts_so = and_rest functions_kept _ (and_rest globals_kept _ (and_rest structs_kept _ own))

  few_nodes : total (map nodes source.functions) ≤ most_nodes
  few_nodes =
      leb-true (total (map nodes source.functions)) most_nodes
      (and_first (nat_le (total (map nodes source.functions)) most_nodes) _ counts_so)

  few_declared : decl_count source ≤ most_nodes
  few_declared =
      leb-true (decl_count source) most_nodes
      (and_rest (nat_le (total (map nodes source.functions)) most_nodes) _ counts_so)

  few_cells : cells_in source < 2 ^ 60
  few_cells =
      let sizes : List ℕ = map {A = TypedGlobal} (λ g. cells_of source.structs g.ty) source.globals in
      let most : total sizes ≤ length sizes * most_cells =
      total_below sizes (λ i size at.
      let found = mapped {A = TypedGlobal} (λ g. cells_of source.structs g.ty) source.globals i size at in
      subst (λ n. n ≤ most_cells) found.1.1
      (variable_few source.structs found.0.ty
      (and_first _ _ (all_at (global_fits source.structs) source.globals globals_so i found.0 found.1.0)))) in
      let count : length sizes ≡ length source.globals =
      length-map source.globals (λ g. cells_of source.structs g.ty) in
      omega (arith, most, count, few_declared)

  module _ (f : TypedFunction) (number : ℕ) (its : slice_get source.functions number ≡ Some f) where
    fits : function_fits (callable_in program.interfaces there.interface source) source f ≡ true
    fits = all_at (function_fits (callable_in program.interfaces there.interface source) source) source.functions
        functions_so number f its

    few_params : length f.params ≤ most_params
    few_params =
        leb-true (length f.params) most_params (and_first (nat_le (length f.params) most_params) _ fits)

    params_so : params_fit source.structs f.params ≡ true
    params_so =
        and_first (params_fit source.structs f.params) _ (and_rest (nat_le (length f.params) most_params) _ fits)

    locals_so : list_all (local_fits (scope_of source f)) f.locals ≡ true
    locals_so =
        and_first (list_all (local_fits (scope_of source f)) f.locals) _
        (and_rest (result_fits source.structs f.result) _
        (and_rest (params_fit source.structs f.params) _ (and_rest (nat_le (length f.params) most_params) _ fits)))

    own_nodes : nodes f ≤ most_nodes
    own_nodes =
        let at : slice_get (map nodes source.functions) number ≡ Some (nodes f) =
        mapped_at nodes source.functions number f its in
        let one : nodes f ≤ total (map nodes source.functions) =
        member_below (map nodes source.functions) number (nodes f) at in omega (arith, one, few_nodes) where
          mapped_at : {A B : Type 0} (g : A → B) (xs : List A) (n : ℕ) (x : A) → slice_get xs n ≡ Some x →
              slice_get (map g xs) n ≡ Some (g x)
          mapped_at g [] n x is = absurd (cc)
          mapped_at g (y ∷ ys) zero x is = let same : y ≡ x = cc in ap (λ z. Some (g z)) same
          mapped_at g (y ∷ ys) (suc n) x is = mapped_at g ys n x is

    few_objects : total (variables source.structs f) + nodes f < 2 ^ 60
    few_objects =
        let params : List ℕ = map {A = TypedParam} (λ p. cells_of source.structs p.ty) f.params in
        let locals : List ℕ = map {A = TypedLocal} (λ l. cells_of source.structs l.ty) f.locals in
        let of_params : total params ≤ length params * most_cells =
        total_below params (λ i size at.
        let found = mapped {A = TypedParam} (λ p. cells_of source.structs p.ty) f.params i size at in
        subst (λ n. n ≤ most_cells) found.1.1 (variable_few source.structs found.0.ty (and_rest _ _
        (all_at {A = TypedParam} (λ p. passed_fits source.structs p.ty) f.params params_so i found.0 found.1.0)))) in
        let of_locals : total locals ≤ length locals * most_cells =
        total_below locals (λ i size at.
        let found = mapped {A = TypedLocal} (λ l. cells_of source.structs l.ty) f.locals i size at in
        subst (λ n. n ≤ most_cells) found.1.1 (variable_few source.structs found.0.ty (and_first _ _
        (all_at (local_fits (scope_of source f)) f.locals locals_so i found.0 found.1.0)))) in
        let param_count : length params ≡ length f.params =
        length-map f.params (λ p. cells_of source.structs p.ty) in
        let local_count : length locals ≡ length f.locals =
        length-map f.locals (λ l. cells_of source.structs l.ty) in
        let each : length f.locals ≤ total (map local_nodes f.locals) = locals_few f.locals in
        let both : total (params ++ locals) ≡ total params + total locals = total_append params locals in
        omega (arith, of_params, of_locals, param_count, local_count, each, both, few_params, own_nodes)

  counted : IsCounted source
  counted = record {
    cells = few_cells;
    functions = all_by (IsCountedFunction source.structs) source.functions (λ i f at. record {
      few_params = few_params f i at;
      few_nodes = own_nodes f i at;
      cells = few_objects f i at;
    });
    nodes = omega (arith, few_nodes);
  }

  module _ (small : too_large program ≡ None) where
    function_fits_so : (f : TypedFunction) (number : ℕ) → slice_get source.functions number ≡ Some f →
        Fits (function_tac program.interfaces comp source.structs f)
    function_fits_so f number its = record {
      code = omega (
        arith,
        few (nodes f) (map nodes source.functions) number (at number f its),
        code_fits program small
            comp source is,
      );
      frame = within most_frame (frame_bound (variables source.structs f) (nodes f)) _
          (none_at (large_frame comp source) source.functions number f (frames_fit program small comp source is) its);
    } where
      few : (n : ℕ) (ns : List ℕ) (i : ℕ) → slice_get ns i ≡ Some n → n ≤ total ns
      few n ns i at = member_below ns i n at

      at : (n : ℕ) (f : TypedFunction) → slice_get source.functions n ≡ Some f →
          slice_get (map nodes source.functions) n ≡ Some (nodes f)
      at n f its = found source.functions n f its where
        found : (fs : List TypedFunction) (n : ℕ) (f : TypedFunction) → slice_get fs n ≡ Some f →
            slice_get (map nodes fs) n ≡ Some (nodes f)
        found [] n f is = absurd (cc)
        found (g ∷ fs) zero f is = let same : g ≡ f = cc in ap (λ h. Some (nodes h)) same
        found (g ∷ fs) (suc n) f is = found fs n f is

    -- so that it can be compiled from its source
    pub can_be_compiled : All (CanBeCompiled program.interfaces comp source.structs) source.functions
    can_be_compiled = all_by (CanBeCompiled program.interfaces comp source.structs) source.functions (λ i f at. record {
      lowerable = lowerable program typed comp source is i f at;
      fits = function_fits_so f i at;
    })

-- ALL SECTIONS
module _ (program : ProgramTree) (typed : IsWellTyped program) where
  pub are_counted : All IsCounted program.sections
  are_counted = all_by IsCounted program.sections (λ comp section at. counted program typed comp section at)

  pub each_emits : All EmitsAll (program_tac program).sections → EachEmits program
  each_emits all comp number f at = by (slice_get (program_tac program).sections comp) refl at where
    by : (o : Option TacSection) → slice_get (program_tac program).sections comp ≡ o →
        slice_get (functions_or_none o) number ≡ Some f → EmitsSo f
    by None is at = absurd (cc)
    by (Some section) is at =
        of_all EmitsSo section.functions number f
        (of_all EmitsAll (program_tac program).sections comp section all is) at
