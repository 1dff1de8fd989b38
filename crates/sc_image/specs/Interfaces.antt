-- What an image says to the outside: the interfaces of its compartments, where every word is an `int`, and that its
-- runs keep them.
use Rattle.sc_image.specs.Common.{Event}
use Rattle.sc_event.specs.Prelude.{legal}
use Rattle.std.specs.Prelude.{◌≡◌, ℕ, All, true, List, [], ◌∷◌, ◌++◌, map, replicate, Some, None, if◌then◌else◌}
use Rattle.std.specs.Option.{option_map}
use Rattle.sc_event.specs.declared.interface.Import.{Import}
use Rattle.sc_event.specs.declared.interface.Import.TheVariants.{Input, Output, Function}
use Rattle.sc_event.specs.declared.interface.Interface.{Interface}
use Rattle.sc_event.specs.declared.interface.Interfaces.{Interfaces}
use Rattle.sc_event.specs.declared.interface.Proto.{Proto}
use Rattle.sc_event.specs.declared.interface.Scalar.TheVariants.{Int}
use Rattle.sc_image.specs.declared.parts.ImageParts.{ImageParts}
use Rattle.sc_image.specs.declared.parts.CompPart.{CompPart}
use Rattle.sc_image.specs.declared.parts.ExportPart.{ExportPart}
use Rattle.sc_fields.specs.declared.import.ImportPart.{ImportPart}
use Rattle.sc_base.specs.Word.{IsWord}
use Rattle.sc_image.specs.WellFormed.{IsWellFormed}
use Rattle.sc_image.specs.Machine.{machine}

abbrev pub image_proto : ExportPart → Proto
image_proto export = record {
  name = export.name;
  params = replicate export.params Int;
  result = if export.result then Some Int else None;
}

abbrev pub image_import : ImportPart → Import
image_import import = Function import.comp import.index

abbrev pub image_interface : CompPart → Interface
image_interface comp = record {
  name = comp.name;
  exports = map image_proto comp.exports;
  imports = (if comp.input then Input ∷ [] else []) ++
      ((if comp.output then Output ∷ [] else []) ++ map image_import comp.imports);
}

abbrev pub image_interfaces : ImageParts → Interfaces
image_interfaces image = record { comps = map image_interface image.comps; main = image.main }

-- A run's trace is one that the image's interfaces allow, wherever the run stops.
abbrev pub MachineTracesAreLegal : Type 0
MachineTracesAreLegal =
    (image : ImageParts) (inputs : List ℕ) (steps events : ℕ) → IsWellFormed image → All IsWord inputs →
    legal (image_interfaces image) (machine image inputs steps events).state.trace ≡ true

-- The same interfaces with `int` in place of every scalar, as an image says them.

abbrev pub word_proto : Proto → Proto
word_proto proto = record {
  name = proto.name;
  params = map (λ param. Int) proto.params;
  result = option_map (λ result. Int) proto.result;
}

abbrev pub word_interface : Interface → Interface
word_interface interface = record {
  name = interface.name;
  exports = map word_proto interface.exports;
  imports = interface.imports;
}

abbrev pub word_interfaces : Interfaces → Interfaces
word_interfaces interfaces = record { comps = map word_interface interfaces.comps; main = interfaces.main }

-- Which traces are legal doesn't look at the types of scalars.
abbrev pub LegalByWords : Type 0
LegalByWords = (interfaces : Interfaces) (trace : List Event) →
    legal (word_interfaces interfaces) trace ≡ legal interfaces trace
