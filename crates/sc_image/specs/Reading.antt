-- Reading an image from its bytes, field by field in the order of the file, and why bytes are none.
use Rattle.sc_base.specs.Prelude.{most_compartments, most_exports, most_params}
use Rattle.sc_fields.specs.Prelude.{Read, code_at, comp_name_at, fields_at, globals_at, if_good, imports_at, mark_at}
use Rattle.sc_fields.specs.Prelude.{number_at, number_that, read_name, ◌>>=◌}
use Rattle.sc_fields.specs.declared.fault.FieldFault.{FieldFault}
use Rattle.sc_fields.specs.declared.fault.FieldFault.TheVariants as fields
use Rattle.sc_image.specs.Common.{is_between}
use Rattle.std.specs.Prelude.{ℕ, ◌/◌, ◌%◌, ◌==◌, nat_lt, nat_le, List, length, codes, Option, Some, None, Result}
use Rattle.std.specs.Prelude.{Ok, Err, if◌then◌else◌}
use Rattle.sc_image.specs.declared.fault.BadImage.{BadImage}
use Rattle.sc_image.specs.declared.fault.BadImage.TheVariants.{Mark, Version, Count, Start, Compartment, Exports}
use Rattle.sc_image.specs.declared.fault.BadImage.TheVariants.{Imports, Contents, Whole}
use Rattle.sc_image.specs.declared.fault.ImageFault.{ImageFault}
use Rattle.sc_image.specs.declared.fault.ImageFault.TheVariants as faults
use Rattle.sc_image.specs.declared.parts.ImageParts.{ImageParts}
use Rattle.sc_image.specs.declared.parts.CompPart.{CompPart}
use Rattle.sc_image.specs.declared.parts.ExportPart.{ExportPart}
use Rattle.sc_image.specs.Bytes.{latest_version}
use Rattle.sc_image.specs.Layout.{stretch, most_globals}
use Rattle.sc_image.specs.Rules.{keeps_rules}

-- the number of a cause
abbrev pub cause_number : BadImage → ℕ
cause_number Mark = 1
cause_number Version = 2
cause_number Count = 3
cause_number Start = 4
cause_number Compartment = 5
cause_number Exports = 6
cause_number Imports = 7
cause_number Contents = 8
cause_number Whole = 9

-- The fields of an image.

-- a function that is offered: its name, how many words it takes, whether it gives one back, and where it begins
unfoldable pub read_export : List ℕ → Read BadImage ExportPart
read_export bytes = do
  name ← read_name Exports bytes
  params ← number_that (λ n. nat_le n most_params) Exports 1 name.1
  result ← number_that (λ n. nat_le n 1) Exports 1 params.1
  entry ← number_at Exports 4 result.1
  Ok (record { name = name.0; params = params.0; result = result.0 == 1; entry = entry.0 }, entry.1)

-- how many there are, and then each
unfoldable pub read_exports : List ℕ → Read BadImage (List ExportPart)
read_exports bytes = do
  count ← number_that (λ n. nat_le n most_exports) Exports 2 bytes
  fields_at read_export count.0 count.1

-- the version of the format
abbrev pub version_at : List ℕ → Read BadImage ℕ
version_at bytes = number_that (is_between 1 latest_version) Version 2 bytes

-- the greatest flags of a compartment: in version 1 there is no heap
abbrev pub most_flags : (version : ℕ) → ℕ
most_flags version = if version == 1 then 3 else 7

-- a compartment of an image of `comps`: bit 0 of the flags allows `input`, bit 1 `output`, and bit 2 gives it a heap
unfoldable pub read_comp : (version comps : ℕ) → List ℕ → Read BadImage CompPart
read_comp version comps bytes = do
  name ← comp_name_at Compartment bytes
  flags ← number_that (λ f. nat_le f (most_flags version)) Compartment 1 name.1
  exports ← read_exports flags.1
  imports ← imports_at Imports comps exports.1
  code ← code_at Contents stretch imports.1
  globals ← globals_at Contents most_globals code.1
  Ok (
    record {
      name = name.0;
      input = flags.0 % 2 == 1;
      output = flags.0 / 2 % 2 == 1;
      heap = flags.0 / 4 == 1;
      exports = exports.0;
      imports = imports.0;
      code = code.0;
      globals = globals.0;
    },
    globals.1,
  )

-- how many compartments there are, where the run starts, and each compartment
unfoldable pub parts_at : (version : ℕ) → List ℕ → Read BadImage ImageParts
parts_at version bytes = do
  count ← number_that (is_between 1 most_compartments) Count 1 bytes
  main ← number_that (λ c. nat_lt c count.0) Start 1 count.1
  entry ← number_at Start 4 main.1
  comps ← fields_at (read_comp version count.0) count.0 entry.1
  Ok (record { main = main.0; entry = entry.0; comps = comps.0 }, comps.1)

-- The image with which the bytes begin and the bytes after it, or the cause of the first field that isn't good. Where
-- all fields are good, the parts keep the rules on a whole image.
unfoldable pub image_at : List ℕ → Read BadImage ImageParts
image_at bytes = do
  mark ← mark_at Mark (codes "SCIM") bytes
  version ← version_at mark.1
  parts ← parts_at version.0 version.1
  if_good Whole (keeps_rules parts.0) parts

-- the image that the bytes are, or the cause why they are none: no byte may follow the image
unfoldable pub image_in : List ℕ → Result ImageParts BadImage
image_in bytes = do
  image ← image_at bytes
  if_good Whole (length image.1 == 0) image.0

abbrev pub read_cause : {A : Type 0} → Result A BadImage → Option BadImage
read_cause (Ok x) = None
read_cause (Err cause) = Some cause

-- why the bytes are no image, if they are none
abbrev pub bad : List ℕ → Option BadImage
bad bytes = read_cause (image_in bytes)

-- why the bytes begin with no image, if they begin with none
abbrev pub bad_part : List ℕ → Option BadImage
bad_part bytes = read_cause (image_at bytes)

-- why no image was read, by what happened at a field
abbrev pub image_fault : FieldFault BadImage → ImageFault
image_fault (fields.Bad cause) = faults.Bad cause
image_fault fields.OutOfMemory = faults.OutOfMemory
