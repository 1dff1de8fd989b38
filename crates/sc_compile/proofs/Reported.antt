-- A run is reported by the names of an image as by those of the interfaces that it says.
use Rattle.sc_compile.proofs.Common.{Event, ImageParts, Interface, Interfaces, List, Proto, [], ap, ap₂}
use Rattle.sc_compile.proofs.Common.{image_interface}
use Rattle.sc_compile.proofs.Common.{image_interfaces, map, option_and_then, option_map_or, image_proto, refl}
use Rattle.sc_compile.proofs.Common.{slice_get, suc}
use Rattle.sc_compile.proofs.Common.{zero, ℕ, ◌++◌, ◌∙◌, ◌∷◌, ◌≡◌}
use Rattle.std.specs.List.{AllZip}
use Rattle.std.specs.Prelude.{codes, flat_map}
use Rattle.sc_event.specs.Prelude.{comp_name, event_line, export_name}
use Rattle.sc_event.specs.declared.event.Event.TheVariants.{Call, End, In, Out, Ret}
use Rattle.std.specs.Option.{option_to_list}
use Rattle.sc_event.specs.Line.{line}
use Rattle.sc_image.specs.declared.parts.CompPart.{CompPart}
use Rattle.sc_image.specs.declared.parts.ExportPart.{ExportPart}
use Rattle.sc_linker.specs.Prelude.{HasInterface, HasInterfaces, HasProto}

name_along : (interfaces : List Interface) (parts : List CompPart) → AllZip HasInterface interfaces parts →
    (comp : ℕ) → option_map_or (λ (found : Interface). found.name) (slice_get (map image_interface parts) comp) []
    ≡ option_map_or (λ (found : Interface). found.name) (slice_get interfaces comp) []
name_along [] [] all comp = refl
name_along [] (part ∷ parts) all comp = absurd all
name_along (interface ∷ interfaces) [] all comp = absurd all
name_along (interface ∷ interfaces) (part ∷ parts) all zero = all.0.name
name_along (interface ∷ interfaces) (part ∷ parts) all (suc comp) = name_along interfaces parts all.1 comp

export_along : (protos : List Proto) (exports : List ExportPart) → AllZip HasProto protos exports → (index : ℕ) →
    option_map_or (λ (found : Proto). found.name) (slice_get (map image_proto exports) index) []
    ≡ option_map_or (λ (found : Proto). found.name) (slice_get protos index) []
export_along [] [] all index = refl
export_along [] (export ∷ exports) all index = absurd all
export_along (proto ∷ protos) [] all index = absurd all
export_along (proto ∷ protos) (export ∷ exports) all zero = all.0.name
export_along (proto ∷ protos) (export ∷ exports) all (suc index) = export_along protos exports all.1 index

exports_along : (interfaces : List Interface) (parts : List CompPart) → AllZip HasInterface interfaces parts →
    (comp index : ℕ) → option_map_or (λ (found : Proto). found.name)
    (option_and_then (λ (found : Interface). slice_get found.exports index) (slice_get (map image_interface parts)
    comp))
    [] ≡ option_map_or (λ (found : Proto). found.name)
    (option_and_then (λ (found : Interface). slice_get found.exports index) (slice_get interfaces comp)) []
exports_along [] [] all comp index = refl
exports_along [] (part ∷ parts) all comp index = absurd all
exports_along (interface ∷ interfaces) [] all comp index = absurd all
exports_along (interface ∷ interfaces) (part ∷ parts) all zero index =
    export_along interface.exports part.exports all.0.exports index
exports_along (interface ∷ interfaces) (part ∷ parts) all (suc comp) index =
    exports_along interfaces parts all.1 comp index

module _ (interfaces : Interfaces) (image : ImageParts) (has : HasInterfaces interfaces image) where
  same_name : (comp : ℕ) → comp_name (image_interfaces image) comp ≡ comp_name interfaces comp
  same_name comp = name_along interfaces.comps image.comps has.comps comp

  same_export : (comp index : ℕ) → export_name (image_interfaces image) comp index ≡ export_name interfaces comp index
  same_export comp index = exports_along interfaces.comps image.comps has.comps comp index

  same_line : (event : Event) → event_line (image_interfaces image) event ≡ event_line interfaces event
  same_line (Call from to index args) =
      ap (λ name. line (codes "call") (name ∷ comp_name (image_interfaces image) to ∷
      export_name (image_interfaces image) to index ∷ []) args) (same_name from) ∙
      ap₂ (λ name export. line (codes "call") (comp_name interfaces from ∷ name ∷ export ∷ []) args) (same_name to)
      (same_export to index)
  same_line (Ret from to value) =
      ap₂ (λ name other. line (codes "ret") (name ∷ other ∷ []) (option_to_list value)) (same_name from)
      (same_name to)
  same_line (Out comp value) = ap (λ name. line (codes "out") (name ∷ []) (value ∷ [])) (same_name comp)
  same_line (In comp value) = ap (λ name. line (codes "in") (name ∷ []) (value ∷ [])) (same_name comp)
  same_line (End comp value) = ap (λ name. line (codes "end") (name ∷ []) (value ∷ [])) (same_name comp)

  -- the lines of a trace
  pub same_lines : (trace : List Event) →
      flat_map (event_line (image_interfaces image)) trace ≡ flat_map (event_line interfaces) trace
  same_lines [] = refl
  same_lines (event ∷ trace) = ap₂ (λ one rest. one ++ rest) (same_line event) (same_lines trace)
