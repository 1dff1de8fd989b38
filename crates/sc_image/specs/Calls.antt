-- What an image says of the functions that compartments offer and may call.
use Rattle.sc_image.specs.Common.{Entry, Export, Main}
use Rattle.std.specs.Prelude.{ℕ, Bool, true, false, ◌&&◌, ◌==◌, List, [], position, slice_get, Option}
use Rattle.std.specs.List.{list_any}
use Rattle.std.specs.Option.{option_map_or}
use Rattle.sc_image.specs.declared.parts.ImageParts.{ImageParts}
use Rattle.sc_image.specs.declared.parts.ExportPart.{ExportPart}
use Rattle.sc_fields.specs.declared.import.ImportPart.{ImportPart}

-- the functions that compartment c offers, and those that it may call: none where the image has no such compartment
abbrev pub exported_by : ImageParts → ℕ → List ExportPart
exported_by image c = option_map_or (λ comp. comp.exports) (slice_get image.comps c) []

abbrev pub imported_by : ImageParts → ℕ → List ImportPart
imported_by image c = option_map_or (λ comp. comp.imports) (slice_get image.comps c) []

-- whether c may call the environment's `input` and `output`
abbrev pub may_input : ImageParts → ℕ → Bool
may_input image c = option_map_or (λ comp. comp.input) (slice_get image.comps c) false

abbrev pub may_output : ImageParts → ℕ → Bool
may_output image c = option_map_or (λ comp. comp.output) (slice_get image.comps c) false

-- whether c may call the export of that index of another compartment
abbrev pub may_call_export : ImageParts → (c to index : ℕ) → Bool
may_call_export image c to index = list_any (λ import. import.comp == to && import.index == index) (imported_by image c)

-- the index of the export of c that begins at an address, if one does
abbrev pub entered_export : ImageParts → (c address : ℕ) → Option ℕ
entered_export image c address = position (λ export. export.entry == address) (exported_by image c)

-- how many words an export of c takes
abbrev pub export_params : ImageParts → (c index : ℕ) → ℕ
export_params image c index = option_map_or (λ export. export.params) (slice_get (exported_by image c) index) 0

-- whether a function of c gives a word back: `main` does
abbrev pub has_result : ImageParts → (c : ℕ) → Entry → Bool
has_result image c Main = true
has_result image c (Export index) =
    option_map_or (λ export. export.result) (slice_get (exported_by image c) index) false
