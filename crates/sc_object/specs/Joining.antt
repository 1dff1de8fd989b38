-- The objects of an image, and the image that objects are joined to.
use Rattle.sc_compile.specs.Prelude.{IsCompiled, image_of}
use Rattle.sc_image.specs.Prelude.{code_in, code_start, has_heap, initial_globals}
use Rattle.std.specs.Prelude.{◌≡◌, ℕ, suc, ◌+◌, ◌-◌, ◌*◌, ◌==◌, List, [], ◌∷◌, map, Option, Some, Ok, slice_get}
use Rattle.std.specs.Prelude.{false, if◌then◌else◌}
use Rattle.std.specs.List.{find}
use Rattle.std.specs.Option.{option_map_or}
use Rattle.sc_core.specs.declared.program.ProgramTree.{ProgramTree}
use Rattle.sc_image.specs.declared.parts.CompPart.{CompPart}
use Rattle.sc_image.specs.declared.parts.ExportPart.{ExportPart}
use Rattle.sc_image.specs.declared.parts.ImageParts.{ImageParts}
use Rattle.sc_object.specs.declared.parts.Face.{Face}
use Rattle.sc_object.specs.declared.parts.FaceExport.{FaceExport}
use Rattle.sc_object.specs.declared.parts.ObjectParts.{ObjectParts}

-- an export without its entry
abbrev pub face_export : ExportPart → FaceExport
face_export export = record { name = export.name; params = export.params; result = export.result }

-- what the others see of a compartment
abbrev pub face_of : CompPart → Face
face_of comp = record {
  name = comp.name;
  input = comp.input;
  output = comp.output;
  exports = map face_export comp.exports;
  imports = comp.imports;
}

-- compartment c's own part of an image, with the faces of all
abbrev pub object_of : ImageParts → (c : ℕ) → ObjectParts
object_of image c = record {
  main = image.main;
  own = c;
  faces = map face_of image.comps;
  heap = has_heap image c;
  code = code_in image c;
  main_at = if image.main == c then image.entry - code_start c else 0;
  globals = initial_globals image c;
}

-- exports with their entries: from this index on each enters at a word of the code's start
abbrev pub with_entries : (c index : ℕ) → List FaceExport → List ExportPart
with_entries c index [] = []
with_entries c index (export ∷ exports) =
    record {
      name = export.name;
      params = export.params;
      result = export.result;
      entry = code_start c + 4 * index;
    } ∷ with_entries c (suc index) exports

-- the object of compartment c, the first if there are several
abbrev pub object_for : List ObjectParts → (c : ℕ) → Option ObjectParts
object_for objects c = find (λ object. object.own == c) objects

-- compartment c, by its face and its object
abbrev pub joined_part : (c : ℕ) → Face → Option ObjectParts → CompPart
joined_part c face found = record {
  name = face.name;
  input = face.input;
  output = face.output;
  heap = option_map_or (λ object. object.heap) found false;
  exports = with_entries c 0 face.exports;
  imports = face.imports;
  code = option_map_or (λ object. object.code) found [];
  globals = option_map_or (λ object. object.globals) found [];
}

-- the compartments from number c on
abbrev pub joined_parts : List ObjectParts → (c : ℕ) → List Face → List CompPart
joined_parts objects c [] = []
joined_parts objects c (face ∷ faces) =
    joined_part c face (object_for objects c) ∷ joined_parts objects (suc c) faces

-- the image of objects that say the same of the program as this one: it needs no relocation, since a cross call leads
-- to an address that is a number of the compartment's number and the export's index alone
abbrev pub join_as : ObjectParts → List ObjectParts → ImageParts
join_as head objects = record {
  main = head.main;
  entry = code_start head.main + option_map_or (λ object. object.main_at) (object_for objects head.main) 0;
  comps = joined_parts objects 0 head.faces;
}

-- the image of objects, by what the first says of the program
pub record IsJoined (objects : List ObjectParts) (image : ImageParts) : Type 0 where
  pub head : ObjectParts
  pub first : slice_get objects 0 ≡ Some head
  pub joined : image ≡ join_as head objects

-- each export of an image enters where objects are joined to
abbrev pub HasEntries : ImageParts → Type 0
HasEntries image = (c : ℕ) (comp : CompPart) → slice_get image.comps c ≡ Some comp →
    comp.exports ≡ with_entries c 0 (map face_export comp.exports)

-- this is the object of compartment c of a program: its part of the program's image
pub record IsObjectOf (program : ProgramTree) (c : ℕ) (object : ObjectParts) : Type 0 where
  pub image : ImageParts
  pub compiled : image_of program ≡ Ok image
  -- and does what the program says
  pub right : IsCompiled program image
  pub is : object ≡ object_of image c

-- in a linked image the code, the globals and the heap of each compartment are those of its own object
pub record HasOwn (image : ImageParts) (object : ObjectParts) : Type 0 where
  pub code : code_in image object.own ≡ object.code
  pub globals : initial_globals image object.own ≡ object.globals
  pub heap : has_heap image object.own ≡ object.heap
