-- Reading an object from its bytes, field by field in their order, and why bytes are none.
use Rattle.sc_base.specs.Prelude.{is_between, most_compartments, most_exports, most_params}
use Rattle.sc_fields.specs.Prelude.{Read, code_at, comp_name_at, fields_at, globals_at, if_good, imports_at, mark_at}
use Rattle.sc_fields.specs.Prelude.{number_that, read_name, ◌>>=◌}
use Rattle.sc_image.specs.Prelude.{most_globals, stretch}
use Rattle.std.specs.Prelude.{ℕ, ◌/◌, ◌%◌, Bool, ◌==◌, nat_lt, nat_le, List, length, codes, Ok}
use Rattle.sc_object.specs.declared.fault.BadObject.{BadObject}
use Rattle.sc_object.specs.declared.fault.BadObject.TheVariants.{Mark, Version, Numbers, Faces, Heap, Code, Start}
use Rattle.sc_object.specs.declared.fault.BadObject.TheVariants.{Globals, Whole}
use Rattle.sc_object.specs.declared.parts.Face.{Face}
use Rattle.sc_object.specs.declared.parts.FaceExport.{FaceExport}
use Rattle.sc_object.specs.declared.parts.ObjectParts.{ObjectParts}
use Rattle.sc_object.specs.Rules.{is_start, keeps_rules}

-- the number of a cause
abbrev pub cause_number : BadObject → ℕ
cause_number Mark = 1
cause_number Version = 2
cause_number Numbers = 3
cause_number Faces = 4
cause_number Heap = 5
cause_number Code = 6
cause_number Start = 7
cause_number Globals = 8
cause_number Whole = 9

-- the version of the format
abbrev pub version_at : List ℕ → Read BadObject ℕ
version_at bytes = number_that (λ version. version == 1) Version 2 bytes

-- how many compartments there are
abbrev pub count_at : List ℕ → Read BadObject ℕ
count_at bytes = number_that (is_between 1 most_compartments) Numbers 1 bytes

-- a function that is offered: its name, how many words it takes, and whether it gives one back
unfoldable pub read_face_export : List ℕ → Read BadObject FaceExport
read_face_export bytes = do
  name ← read_name Faces bytes
  params ← number_that (λ n. nat_le n most_params) Faces 1 name.1
  result ← number_that (λ n. nat_le n 1) Faces 1 params.1
  Ok (record { name = name.0; params = params.0; result = result.0 == 1 }, result.1)

-- how many there are, and then each
unfoldable pub face_exports_at : List ℕ → Read BadObject (List FaceExport)
face_exports_at bytes = do
  count ← number_that (λ n. nat_le n most_exports) Faces 2 bytes
  fields_at read_face_export count.0 count.1

-- the face of one of `comps` compartments: bit 0 of the flags allows `input`, and bit 1 `output`
unfoldable pub face_at : (comps : ℕ) → List ℕ → Read BadObject Face
face_at comps bytes = do
  name ← comp_name_at Faces bytes
  flags ← number_that (λ f. nat_le f 3) Faces 1 name.1
  exports ← face_exports_at flags.1
  imports ← imports_at Faces comps exports.1
  Ok (
    record {
      name = name.0;
      input = flags.0 % 2 == 1;
      output = flags.0 / 2 == 1;
      exports = exports.0;
      imports = imports.0;
    },
    imports.1,
  )

-- the offset of `main`
abbrev pub start_at : (is_main : Bool) → (words : ℕ) → List ℕ → Read BadObject ℕ
start_at is_main words bytes = number_that (is_start is_main words) Start 4 bytes

-- The numbers of compartments, their faces, and what there is of the own one.
unfoldable pub parts_at : List ℕ → Read BadObject ObjectParts
parts_at bytes = do
  count ← count_at bytes
  main ← number_that (λ c. nat_lt c count.0) Numbers 1 count.1
  own ← number_that (λ c. nat_lt c count.0) Numbers 1 main.1
  faces ← fields_at (face_at count.0) count.0 own.1
  heap ← number_that (λ n. nat_le n 1) Heap 1 faces.1
  code ← code_at Code stretch heap.1
  main_at ← start_at (main.0 == own.0) (length code.0) code.1
  globals ← globals_at Globals most_globals main_at.1
  Ok (
    record {
      main = main.0;
      own = own.0;
      faces = faces.0;
      heap = heap.0 == 1;
      code = code.0;
      main_at = main_at.0;
      globals = globals.0;
    },
    globals.1,
  )

-- The object that the bytes begin with and the bytes after it, or the cause of the first field that isn't good. Where
-- all are, the parts keep the rules on a whole object.
unfoldable pub object_at : List ℕ → Read BadObject ObjectParts
object_at bytes = do
  mark ← mark_at Mark (codes "SCOB") bytes
  version ← version_at mark.1
  parts ← parts_at version.1
  if_good Whole (keeps_rules parts.0) parts
