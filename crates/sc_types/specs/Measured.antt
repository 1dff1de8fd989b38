-- Helping: the structs of a section, as they are kept beside it.
use Rattle.sc_types.specs.Common.{SectionTree, Text, struct_names}
use Rattle.std.specs.Prelude.{◌≡◌, List}
use Rattle.sc_core.specs.declared.section.TypedStruct.{TypedStruct}
use Rattle.sc_types_elab.specs.Sections as sections

-- these are the tags of the section's structs, and the structs
pub record IsMeasured (section : SectionTree) (names : List Text) (structs : List TypedStruct) : Type 0 where
  pub tags : names ≡ struct_names section.decls
  pub kept : structs ≡ sections.structs section
