-- A program's interfaces allow the traces of its image: whether a trace is legal depends neither on the types of
-- scalars nor on the order of imports.
use Rattle.sc_compile.proofs.Common.{All, Bool, CodeTree, Entry, Event, Export, Interface, Interfaces, IsWellFormed}
use Rattle.sc_compile.proofs.Common.{IsWord, List, Main, None, Option, ProgramTree, Proto, Some, Standing, [], ap, ap₂}
use Rattle.sc_compile.proofs.Common.{at_start, awaits, comp_at, comp_part, export_at, export_part, false, fits_result}
use Rattle.sc_compile.proofs.Common.{flat_map, if◌then◌else◌, image_import, import_part, imports, image_interface}
use Rattle.sc_compile.proofs.Common.{image_interfaces, is_function, is_input, is_legal_from, is_output, is_some, legal}
use Rattle.sc_compile.proofs.Common.{length, length-replicate, linked_image, list_any, machine, map, may_perform}
use Rattle.sc_compile.proofs.Common.{may_return, option_and_then, option_map_or, part_at, part_first, performer}
use Rattle.sc_compile.proofs.Common.{image_proto, refl, slice_get, slice_get-map, stands_after, sym, takes, true, ℕ}
use Rattle.sc_compile.proofs.Common.{◌&&◌}
use Rattle.sc_compile.proofs.Common.{◌++◌, ◌==◌, ◌||◌, ◌∙◌, ◌∷◌, ◌≡◌}
use Rattle.std.proofs.Common.{option_map}
use Rattle.sc_event.specs.declared.event.Event.TheVariants.{Call, Ret, Out, In, End}
use Rattle.sc_event.specs.declared.interface.Import.{Import}
use Rattle.sc_event.specs.declared.interface.Import.TheVariants.{Input, Output, Function}
use Rattle.sc_event.specs.declared.interface.Scalar.{Scalar}
use Rattle.sc_event.specs.declared.interface.Scalar.TheVariants.{Int}
use Rattle.sc_image.specs.Prelude.{ImportPart}

-- IMPORTS
-- as an image says them: input, output, and then functions
abbrev image_imports : (input output : Bool) → List ImportPart → List Import
image_imports input output parts =
    (if input then Input ∷ [] else []) ++ ((if output then Output ∷ [] else []) ++ map image_import parts)

no_input : (parts : List ImportPart) → list_any is_input (map image_import parts) ≡ false
no_input [] = refl
no_input (part ∷ parts) = no_input parts

no_output : (parts : List ImportPart) → list_any is_output (map image_import parts) ≡ false
no_output [] = refl
no_output (part ∷ parts) = no_output parts

same_input_import : (input output : Bool) (parts : List ImportPart) →
    list_any is_input (image_imports input output parts) ≡ input
same_input_import true output parts = refl
same_input_import false true parts = no_input parts
same_input_import false false parts = no_input parts

same_output_import : (input output : Bool) (parts : List ImportPart) →
    list_any is_output (image_imports input output parts) ≡ output
same_output_import true true parts = refl
same_output_import false true parts = refl
same_output_import true false parts = no_output parts
same_output_import false false parts = no_output parts

same_function_imports : (to index : ℕ) (each : List Import) →
    list_any (is_function to index) (map image_import (flat_map import_part each)) ≡ list_any (is_function to index)
    each
same_function_imports to index [] = refl
same_function_imports to index (Input ∷ each) = same_function_imports to index each
same_function_imports to index (Output ∷ each) = same_function_imports to index each
same_function_imports to index (Function comp place ∷ each) =
    ap (λ b. (comp == to && place == index) || b) (same_function_imports to index each)

same_function_import : (to index : ℕ) (input output : Bool) (each : List Import) →
    list_any (is_function to index) (image_imports input output (flat_map import_part each))
    ≡ list_any (is_function to index) each
same_function_import to index true true each = same_function_imports to index each
same_function_import to index true false each = same_function_imports to index each
same_function_import to index false true each = same_function_imports to index each
same_function_import to index false false each = same_function_imports to index each

-- EXPORTS
fits_by : (result : Option Scalar) (value : Option ℕ) →
    fits_result (if is_some result then Some Int else None) value ≡ fits_result result value
fits_by None None = refl
fits_by None (Some word) = refl
fits_by (Some type) None = refl
fits_by (Some type) (Some word) = refl

module _ (program : ProgramTree) (codes : List CodeTree) where
  abbrev observed : Interfaces
  observed = image_interfaces (linked_image program codes)

  abbrev wanted : Interfaces
  wanted = program.interfaces

  abbrev part_interface : (comp : ℕ) → Interface → Interface
  part_interface comp interface = image_interface (comp_part program codes comp interface)

  interface_by : (comp : ℕ) (found : Option Interface) →
      option_map image_interface (option_map (comp_part program codes comp) found) ≡ option_map (part_interface comp)
      found
  interface_by comp None = refl
  interface_by comp (Some interface) = refl

  same_comp : (comp : ℕ) → comp_at observed comp ≡ option_map (part_interface comp) (comp_at wanted comp)
  same_comp comp =
      slice_get-map image_interface (linked_image program codes).comps comp
      ∙ ap (option_map image_interface) (part_at program codes comp) ∙ interface_by comp (comp_at wanted comp)

  abbrev any_import : (Import → Bool) → Option Interface → Bool
  any_import is_it found = list_any is_it (option_map_or (λ (i : Interface). i.imports) found [])

  same_input : (comp : ℕ) → imports observed comp is_input ≡ imports wanted comp is_input
  same_input comp = ap (any_import is_input) (same_comp comp) ∙ by (comp_at wanted comp) refl where
    by : (o : Option Interface) → comp_at wanted comp ≡ o →
        any_import is_input (option_map (part_interface comp) o) ≡ imports wanted comp is_input
    by None at = sym (ap (any_import is_input) at)
    by (Some interface) at =
        same_input_import (imports wanted comp is_input) (imports wanted comp is_output) (flat_map import_part
        interface.imports)

  same_output : (comp : ℕ) → imports observed comp is_output ≡ imports wanted comp is_output
  same_output comp = ap (any_import is_output) (same_comp comp) ∙ by (comp_at wanted comp) refl where
    by : (o : Option Interface) → comp_at wanted comp ≡ o →
        any_import is_output (option_map (part_interface comp) o) ≡ imports wanted comp is_output
    by None at = sym (ap (any_import is_output) at)
    by (Some interface) at =
        same_output_import (imports wanted comp is_input) (imports wanted comp is_output) (flat_map import_part
        interface.imports)

  same_function : (comp to index : ℕ) →
      imports observed comp (is_function to index) ≡ imports wanted comp (is_function to index)
  same_function comp to index =
      ap (any_import (is_function to index)) (same_comp comp) ∙ by (comp_at wanted comp) where
        by : (o : Option Interface) →
            any_import (is_function to index) (option_map (part_interface comp) o) ≡ any_import (is_function to index) o
        by None = refl
        by (Some interface) =
            same_function_import to index (imports wanted comp is_input) (imports wanted comp is_output)
            interface.imports

  -- exports

  abbrev export_in : ℕ → Option Interface → Option Proto
  export_in index found = option_and_then (λ (i : Interface). slice_get i.exports index) found

  part_by : (comp index : ℕ) (found : Option Proto) →
      option_map image_proto (option_map (export_part comp index) found)
      ≡ option_map (λ proto. image_proto (export_part comp index proto)) found
  part_by comp index None = refl
  part_by comp index (Some proto) = refl

  export_by : (comp index : ℕ) (found : Option Interface) →
      export_in index (option_map (part_interface comp) found)
      ≡ option_map (λ proto. image_proto (export_part comp index proto)) (export_in index found)
  export_by comp index None = refl
  export_by comp index (Some interface) =
      slice_get-map image_proto (comp_part program codes comp interface).exports index
      ∙ ap (option_map image_proto) (part_first comp interface.exports index)
      ∙ part_by comp index (slice_get interface.exports index)

  same_export : (comp index : ℕ) → export_at observed comp index
      ≡ option_map (λ proto. image_proto (export_part comp index proto)) (export_at wanted comp index)
  same_export comp index = ap (export_in index) (same_comp comp) ∙ export_by comp index (comp_at wanted comp)

  abbrev takes_count : ℕ → Option Proto → Bool
  takes_count count found = option_map_or (λ (p : Proto). length p.params == count) found false

  takes_by : (comp index count : ℕ) (found : Option Proto) →
      takes_count count (option_map (λ proto. image_proto (export_part comp index proto)) found)
      ≡ takes_count count found
  takes_by comp index count None = refl
  takes_by comp index count (Some proto) = ap (λ (n : ℕ). n == count) (length-replicate (length proto.params) Int)

  same_takes : (comp index count : ℕ) → takes observed comp index count ≡ takes wanted comp index count
  same_takes comp index count =
      ap (takes_count count) (same_export comp index) ∙ takes_by comp index count (export_at wanted comp index)

  abbrev gives_back : Option ℕ → Option Proto → Bool
  gives_back value found = option_map_or (λ (p : Proto). fits_result p.result value) found false

  result_by : (comp index : ℕ) (value : Option ℕ) (found : Option Proto) →
      gives_back value (option_map (λ proto. image_proto (export_part comp index proto)) found) ≡ gives_back value found
  result_by comp index value None = refl
  result_by comp index value (Some proto) = fits_by proto.result value

  same_return : (comp : ℕ) (entry : Entry) (value : Option ℕ) →
      may_return observed comp entry value ≡ may_return wanted comp entry value
  same_return comp Main value = refl
  same_return comp (Export index) value =
      ap (gives_back value) (same_export comp index) ∙ result_by comp index value (export_at wanted comp index)

  -- events

  same_event : (at : Standing) (event : Event) → may_perform observed at event ≡ may_perform wanted at event
  same_event at (Call from to index args) =
      ap₂ (λ x y. x && y) (same_function from to index) (same_takes to index (length args))
  same_event at (Ret from to value) = ap (λ x. awaits at.waiting to && x) (same_return from at.active.entry value)
  same_event at (Out comp value) = same_output comp
  same_event at (In comp value) = same_input comp
  same_event at (End comp value) = refl

  same_from : (at : Option Standing) (trace : List Event) →
      is_legal_from observed at trace ≡ is_legal_from wanted at trace
  same_from at [] = refl
  same_from None (event ∷ later) = refl
  same_from (Some at) (event ∷ later) =
      ap₂ (λ x y. (performer event == at.active.comp && x) && y) (same_event at event)
      (same_from (stands_after at event) later)

  -- a linked image's interfaces allow the traces that its program's allow
  pub same_legal : (trace : List Event) → legal observed trace ≡ legal wanted trace
  same_legal trace = same_from (at_start wanted.main) trace
