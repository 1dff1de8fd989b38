-- A linked image says the interfaces of its program.
use Rattle.sc_linker.proofs.Common.{CodeTree, Interface, List, ProgramTree, Proto, Some, [], ap, arith, comp_at}
use Rattle.sc_linker.proofs.Common.{comp_parts, export_parts, imports, is_input, is_output, linked_image, list_any}
use Rattle.sc_linker.proofs.Common.{option_map_or, refl, slice_get, suc, zero, ℕ, ◌+◌, ◌∙◌, ◌∷◌, ◌≡◌}
use Rattle.std.specs.List.{AllZip}
use Rattle.sc_event.specs.declared.interface.Import.{Import}
use Rattle.std.specs.Prelude.{Bool}
use Rattle.sc_linker.specs.Interfaces.{HasInterface, HasInterfaces, HasProto}

exports_are : (comp k : ℕ) (protos : List Proto) → AllZip HasProto protos (export_parts comp k protos)
exports_are comp k [] = tt
exports_are comp k (proto ∷ protos) =
    (record { name = refl; params = refl; result = refl }, exports_are comp (suc k) protos)

module _ (program : ProgramTree) (codes : List CodeTree) where
  imports_here : (is_it : Import → Bool) (comp : ℕ) (interface : Interface) →
      comp_at program.interfaces comp ≡ Some interface →
      imports program.interfaces comp is_it ≡ list_any is_it interface.imports
  imports_here is_it comp interface is =
      ap (λ o. list_any is_it (option_map_or (λ (found : Interface). found.imports) o [])) is

  -- from this number on
  comps_are : (k : ℕ) (interfaces : List Interface) →
      ((c number : ℕ) → number ≡ k + c → comp_at program.interfaces number ≡ slice_get interfaces c) →
      AllZip HasInterface interfaces (comp_parts program codes k interfaces)
  comps_are k [] there = tt
  comps_are k (interface ∷ interfaces) there =
      let here : comp_at program.interfaces k ≡ Some interface = there zero k (omega arith) in (
        record {
          name = refl;
          exports = exports_are k 0 interface.exports;
          imports = refl;
          input = imports_here is_input k interface here;
          output = imports_here is_output k interface here;
        },
        comps_are (suc k) interfaces (λ c number is. there (suc c) number (omega (arith, is))),
      )

  pub has_interfaces : HasInterfaces program.interfaces (linked_image program codes)
  has_interfaces = record {
    comps = comps_are 0 program.interfaces.comps
        (λ c number is. let same : number ≡ c = omega (arith, is) in ap (comp_at program.interfaces) same);
    main = refl;
  }
