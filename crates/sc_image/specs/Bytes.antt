-- The bytes of an image. Numbers are little-endian.
use Rattle.sc_image.specs.Common.{little_bytes}
use Rattle.sc_fields.specs.Prelude.{bit, code_bytes, globals_bytes, imports_bytes, name_bytes}
use Rattle.std.specs.Prelude.{ℕ, ◌+◌, ◌*◌, ◌^◌, ◌<◌, List, ◌∷◌, ◌++◌, length, flat_map, codes}
use Rattle.sc_image.specs.declared.parts.ImageParts.{ImageParts}
use Rattle.sc_image.specs.declared.parts.CompPart.{CompPart}
use Rattle.sc_image.specs.declared.parts.ExportPart.{ExportPart}

-- what a compartment may call of the environment: bit 0 is `input`, bit 1 is `output`; and bit 2 is its heap
abbrev pub flags : CompPart → ℕ
flags comp = bit comp.input + 2 * bit comp.output + 4 * bit comp.heap

abbrev pub export_bytes : ExportPart → List ℕ
export_bytes export = name_bytes export.name ++ export.params ∷ bit export.result ∷ little_bytes 4 export.entry

abbrev pub exports_bytes : List ExportPart → List ℕ
exports_bytes exports = little_bytes 2 (length exports) ++ flat_map export_bytes exports

abbrev pub comp_bytes : CompPart → List ℕ
comp_bytes comp =
    name_bytes comp.name ++ flags comp ∷ exports_bytes comp.exports ++ imports_bytes comp.imports ++
    code_bytes comp.code ++ globals_bytes comp.globals

-- how many compartments, where the run starts, and the compartments
abbrev pub parts_bytes : ImageParts → List ℕ
parts_bytes image = length image.comps ∷ image.main ∷ little_bytes 4 image.entry ++ flat_map comp_bytes image.comps

-- the mark and the version, and the parts
abbrev pub bytes_in_version : (version : ℕ) → ImageParts → List ℕ
bytes_in_version version image = codes "SCIM" ++ little_bytes 2 version ++ parts_bytes image

-- the version that images are written in; in version 1 there is no heap
abbrev pub latest_version : ℕ
latest_version = 2

abbrev pub image_bytes : ImageParts → List ℕ
image_bytes image = bytes_in_version latest_version image

-- the lengths that are written fit their fields
pub record FitsItsFields (comp : CompPart) : Type 0 where
  pub exports : length comp.exports < 2 ^ 16
  pub imports : length comp.imports < 2 ^ 16
  pub code : 4 * length comp.code < 2 ^ 32
  pub globals : length comp.globals < 2 ^ 32
