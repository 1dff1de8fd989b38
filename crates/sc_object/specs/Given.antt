-- Objects of which some are given: in the place of a program's own objects of some compartments any others stand.
use Rattle.sc_compile.specs.Prelude.{image_of}
use Rattle.sc_image.specs.Prelude.{IsButFor, IsWellFormed}
use Rattle.std.specs.Prelude.{◌≡◌, ℕ, ◌<◌, Bool, false, List, length, map, Ok, Some, slice_get}
use Rattle.sc_core.specs.declared.program.ProgramTree.{ProgramTree}
use Rattle.sc_image.specs.declared.parts.ImageParts.{ImageParts}
use Rattle.sc_object.specs.declared.parts.ObjectParts.{ObjectParts}
use Rattle.sc_object.specs.Joining.{IsJoined, face_of, object_of}

-- the object says of the program what the program's image says, and is the image's own where its compartment isn't given
pub record IsObjectButFor (given : ℕ → Bool) (image : ImageParts) (object : ObjectParts) : Type 0 where
  pub main : object.main ≡ image.main
  pub faces : object.faces ≡ map face_of image.comps
  pub kept : given object.own ≡ false → object ≡ object_of image object.own

-- such objects, at least one for each compartment, in any order
pub record AreObjectsButFor (given : ℕ → Bool) (image : ImageParts) (objects : List ObjectParts) : Type 0 where
  pub each : (i : ℕ) (object : ObjectParts) → slice_get objects i ≡ Some object → IsObjectButFor given image object
  pub all : (c : ℕ) → c < length image.comps →
      (i : ℕ) × (object : ObjectParts) × (slice_get objects i ≡ Some object) × (object.own ≡ c)

-- What our objects and anybody's are joined to is the program's image but for the compartments whose objects are given.
abbrev pub JoinsButFor : Type 0
JoinsButFor = (program : ProgramTree) (image joined : ImageParts) (given : ℕ → Bool) (objects : List ObjectParts) →
    image_of program ≡ Ok image → IsWellFormed image → IsWellFormed joined → AreObjectsButFor given image objects →
    IsJoined objects joined → IsButFor given image joined
