-- The images of two programs of which some sections are the same.
use Rattle.sc_compile.specs.Common.{ImageParts, ProgramTree}
use Rattle.sc_lower.specs.Prelude.{SameButForLines}
use Rattle.sc_image.specs.Prelude.{SameBut}
use Rattle.std.specs.Prelude.{◌≡◌, ℕ, Bool, false, slice_get, Ok}
use Rattle.sc_compile.specs.Image.{image_of}

-- Two programs with the same section of a number but for the lines of its parts, or with none of that number.
abbrev pub HaveSameSection : (program other : ProgramTree) → (comp : ℕ) → Type 0
HaveSameSection program other comp = SameButForLines (slice_get program.sections comp) (slice_get other.sections comp)

-- Two programs with the same interfaces, and with the same sections outside a set but for the lines of their parts.
pub record SameSectionsBut (set : ℕ → Bool) (program other : ProgramTree) : Type 0 where
  pub interfaces : program.interfaces ≡ other.interfaces
  pub sections : (comp : ℕ) → set comp ≡ false → HaveSameSection program other comp

-- Compilation is separate: where two programs have the same interfaces and the same section of a number, but for the
-- lines of its parts, their images have the same compartment of that number.
abbrev pub PartsAreSeparate : Type 0
PartsAreSeparate = (program other : ProgramTree) (image its : ImageParts) (comp : ℕ) →
    image_of program ≡ Ok image → image_of other ≡ Ok its → program.interfaces ≡ other.interfaces →
    HaveSameSection program other comp → slice_get image.comps comp ≡ slice_get its.comps comp

-- Where two programs have the same sections outside a set, their images are the same outside the set. So a run gives
-- nothing of the set's sections away but what compartments of the set do in it: images that are the same outside a set
-- have runs that are apart.
abbrev pub ImagesAreApart : Type 0
ImagesAreApart = (set : ℕ → Bool) (program other : ProgramTree) (image its : ImageParts) →
    image_of program ≡ Ok image → image_of other ≡ Ok its → SameSectionsBut set program other → SameBut set image its
