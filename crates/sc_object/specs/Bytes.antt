-- The bytes of an object. Numbers are little-endian.
use Rattle.byteorder.specs.Endian.{little_bytes}
use Rattle.sc_fields.specs.Prelude.{bit, code_bytes, globals_bytes, imports_bytes, name_bytes}
use Rattle.std.specs.Prelude.{ℕ, ◌+◌, ◌*◌, ◌^◌, ◌<◌, List, [], ◌∷◌, ◌++◌, length, flat_map, codes}
use Rattle.sc_object.specs.declared.parts.Face.{Face}
use Rattle.sc_object.specs.declared.parts.FaceExport.{FaceExport}
use Rattle.sc_object.specs.declared.parts.ObjectParts.{ObjectParts}

abbrev pub face_export_bytes : FaceExport → List ℕ
face_export_bytes export = name_bytes export.name ++ export.params ∷ bit export.result ∷ []

abbrev pub face_exports_bytes : List FaceExport → List ℕ
face_exports_bytes exports = little_bytes 2 (length exports) ++ flat_map face_export_bytes exports

-- what a compartment may call of the environment: bit 0 is `input`, bit 1 is `output`
abbrev pub face_flags : Face → ℕ
face_flags face = bit face.input + 2 * bit face.output

abbrev pub face_bytes : Face → List ℕ
face_bytes face =
    name_bytes face.name ++ face_flags face ∷ face_exports_bytes face.exports ++ imports_bytes face.imports

-- the number of compartments, the main one and the own one, and the face of each; whether the own one has a heap, its
-- code, how many bytes of it stand before `main`, and its globals
abbrev pub object_parts_bytes : ObjectParts → List ℕ
object_parts_bytes object =
    length object.faces ∷ object.main ∷ object.own ∷ flat_map face_bytes object.faces ++
    bit object.heap ∷ code_bytes object.code ++ little_bytes 4 object.main_at ++ globals_bytes object.globals

-- the mark and version 1, and the parts
abbrev pub object_bytes : ObjectParts → List ℕ
object_bytes object = codes "SCOB" ++ little_bytes 2 1 ++ object_parts_bytes object

-- the lengths that are written fit their fields
pub record FaceFits (face : Face) : Type 0 where
  pub exports : length face.exports < 2 ^ 16
  pub imports : length face.imports < 2 ^ 16
