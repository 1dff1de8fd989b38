-- What a typed section follows from.
use Rattle.sc_types.specs.Prelude.{IsSource, SourceParts}
use Rattle.std.specs.Prelude.{◌≡◌, ℕ, slice_get}

-- Two accepted texts with the same interfaces have the same typed section of a number, where its bytes are the same in
-- both: a section is typed by its own bytes and by what the interfaces say of its imports.
abbrev pub SectionsAreTypedAlone : Type 0
SectionsAreTypedAlone = (source other : SourceParts) (comp : ℕ) → IsSource source → IsSource other →
    source.program.interfaces ≡ other.program.interfaces →
    slice_get source.sections comp ≡ slice_get other.sections comp →
    slice_get source.program.sections comp ≡ slice_get other.program.sections comp
