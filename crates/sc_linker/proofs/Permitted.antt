-- A linked image lets each compartment call what its interface imports.
use Rattle.sc_linker.proofs.Common.{CodeTree, CompPart, Import, ImportPart, ImportsStand, Interface, List, None, Option}
use Rattle.sc_linker.proofs.Common.{ProgramTree, Some, [], ap, comp_at, comp_part, false, flat_map, import_part}
use Rattle.sc_linker.proofs.Common.{imports, is_function, is_input, is_output, linked_image, list_any, may_call_export}
use Rattle.sc_linker.proofs.Common.{may_input, may_output, option_map, option_map_or, refl, sym, ℕ, ◌&&◌, ◌==◌, ◌||◌}
use Rattle.sc_linker.proofs.Common.{◌∙◌, ◌∷◌, ◌≡◌}
use Rattle.sc_event.specs.declared.interface.Import.TheVariants as import
use Rattle.sc_linker.proofs.Comps.{part_at}

any_function : (to index : ℕ) (imports : List Import) →
    list_any {X = ImportPart} (λ import. import.comp == to && import.index == index) (flat_map import_part imports)
    ≡ list_any (is_function to index) imports
any_function to index [] = refl
any_function to index (import.Input ∷ imports) = any_function to index imports
any_function to index (import.Output ∷ imports) = any_function to index imports
any_function to index (import.Function comp place ∷ imports) =
    ap (λ b. (comp == to && place == index) || b) (any_function to index imports)

module _ (program : ProgramTree) (codes : List CodeTree) where
  function_by : (from to index : ℕ) (o : Option Interface) →
      list_any {X = ImportPart} (λ import. import.comp == to && import.index == index)
      (option_map_or (λ (comp : CompPart). comp.imports) (option_map (comp_part program codes from) o) [])
      ≡ list_any (is_function to index) (option_map_or (λ (found : Interface). found.imports) o [])
  function_by from to index None = refl
  function_by from to index (Some interface) = any_function to index interface.imports

  function : (from to index : ℕ) → may_call_export (linked_image program codes) from to index
      ≡ imports program.interfaces from (is_function to index)
  function from to index =
      ap (λ o. list_any {X = ImportPart} (λ import. import.comp == to && import.index == index)
      (option_map_or (λ (comp : CompPart). comp.imports) o [])) (part_at program codes from)
      ∙ function_by from to index (comp_at program.interfaces from)

  input : (c : ℕ) → may_input (linked_image program codes) c ≡ imports program.interfaces c is_input
  input c =
      ap (λ o. option_map_or (λ (comp : CompPart). comp.input) o false) (part_at program codes c)
      ∙ by (comp_at program.interfaces c) refl where
        by : (o : Option Interface) → comp_at program.interfaces c ≡ o →
            option_map_or (λ (comp : CompPart). comp.input) (option_map (comp_part program codes c) o) false
            ≡ imports program.interfaces c is_input
        by None at =
            sym (ap (λ o. list_any is_input (option_map_or (λ (found : Interface). found.imports) o [])) at)
        by (Some interface) at = refl

  output : (c : ℕ) → may_output (linked_image program codes) c ≡ imports program.interfaces c is_output
  output c =
      ap (λ o. option_map_or (λ (comp : CompPart). comp.output) o false) (part_at program codes c)
      ∙ by (comp_at program.interfaces c) refl where
        by : (o : Option Interface) → comp_at program.interfaces c ≡ o →
            option_map_or (λ (comp : CompPart). comp.output) (option_map (comp_part program codes c) o) false
            ≡ imports program.interfaces c is_output
        by None at =
            sym (ap (λ o. list_any is_output (option_map_or (λ (found : Interface). found.imports) o [])) at)
        by (Some interface) at = refl

  pub imports_stand : ImportsStand program codes
  imports_stand = record { function = function; input = input; output = output }
