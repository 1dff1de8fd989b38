-- That an image says the interfaces of a program: all but which type each scalar has.
use Rattle.sc_linker.specs.Common.{ImageParts, Interface, Proto, is_input, is_output}
use Rattle.std.specs.Prelude.{◌≡◌, length, flat_map, is_some}
use Rattle.std.specs.List.{AllZip, list_any}
use Rattle.sc_event.specs.declared.interface.Interfaces.{Interfaces}
use Rattle.sc_image.specs.declared.parts.CompPart.{CompPart}
use Rattle.sc_image.specs.declared.parts.ExportPart.{ExportPart}
use Rattle.sc_linker.specs.Image.{import_part}

-- an export is called so, takes as many words, and gives one back where a result is promised
pub record HasProto (proto : Proto) (export : ExportPart) : Type 0 where
  pub name : export.name ≡ proto.name
  pub params : export.params ≡ length proto.params
  pub result : export.result ≡ is_some proto.result

-- a compartment is called so, offers these exports in order, and may call what it imports
pub record HasInterface (interface : Interface) (part : CompPart) : Type 0 where
  pub name : part.name ≡ interface.name
  pub exports : AllZip HasProto interface.exports part.exports
  pub imports : part.imports ≡ flat_map import_part interface.imports
  pub input : part.input ≡ list_any is_input interface.imports
  pub output : part.output ≡ list_any is_output interface.imports

-- the compartments in order, and the main one
pub record HasInterfaces (interfaces : Interfaces) (image : ImageParts) : Type 0 where
  pub comps : AllZip HasInterface interfaces.comps image.comps
  pub main : image.main ≡ interfaces.main
