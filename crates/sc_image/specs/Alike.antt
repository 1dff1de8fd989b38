-- Whether two parts of images are the same, as tests.
use Rattle.sc_image.specs.Rules.{is_same_import, is_same_name}
use Rattle.std.specs.Prelude.{Bool, true, false, ◌&&◌, ◌==◌, if◌then◌else◌}
use Rattle.std.specs.Cmp.Lexicographic.{pointwise}
use Rattle.sc_image.specs.declared.parts.CompPart.{CompPart}
use Rattle.sc_image.specs.declared.parts.ExportPart.{ExportPart}

abbrev pub is_same_flag : Bool → Bool → Bool
is_same_flag a b = if a then b else (if b then false else true)

abbrev pub is_same_export : ExportPart → ExportPart → Bool
is_same_export a b =
    is_same_name a.name b.name && (a.params == b.params && (is_same_flag a.result b.result && a.entry == b.entry))

-- what the other compartments see of a compartment
abbrev pub is_same_outside : CompPart → CompPart → Bool
is_same_outside a b =
    is_same_name a.name b.name && (is_same_flag a.input b.input && (is_same_flag a.output b.output &&
    (pointwise is_same_export a.exports b.exports && pointwise is_same_import a.imports b.imports)))

-- what they don't see of it
abbrev pub is_same_inside : CompPart → CompPart → Bool
is_same_inside a b =
    is_same_flag a.heap b.heap && (pointwise ◌==◌ a.code b.code && pointwise ◌==◌ a.globals b.globals)
