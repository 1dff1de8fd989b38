-- The laws of objects and linking.
use Rattle.sc_compile.specs.Prelude.{HaveSameSection, image_of}
use Rattle.sc_image.specs.Prelude.{IsWellFormed}
use Rattle.std.specs.Prelude.{◌≡◌, ℕ, ◌<◌, List, length, None, Ok, Some, slice_get}
use Rattle.sc_core.specs.declared.program.ProgramTree.{ProgramTree}
use Rattle.sc_image.specs.declared.parts.ImageParts.{ImageParts}
use Rattle.sc_object.specs.declared.parts.ObjectParts.{ObjectParts}
use Rattle.sc_object.specs.Joining.{IsJoined, object_of}
use Rattle.sc_object.specs.Linking.{join_fault}
use Rattle.sc_object.specs.WellFormed.{IsObject}

-- the objects of all compartments of an image, each once, in any order
pub record AreObjectsOf (image : ImageParts) (objects : List ObjectParts) : Type 0 where
  -- each object is that of its own compartment
  pub each : (i : ℕ) (object : ObjectParts) → slice_get objects i ≡ Some object →
      (object.own < length image.comps) × (object ≡ object_of image object.own)
  -- no two are of the same compartment
  pub once : (i j : ℕ) (object other : ObjectParts) → slice_get objects i ≡ Some object →
      slice_get objects j ≡ Some other → object.own ≡ other.own → i ≡ j
  -- and each compartment has one
  pub all : (c : ℕ) → c < length image.comps →
      (i : ℕ) × (object : ObjectParts) × (slice_get objects i ≡ Some object) × (object.own ≡ c)

-- Linking is compiling: the objects of all sections of a program, which can be written, are joined to its image, in any
-- order. What `compile` gives is well formed.
pub record LinkIsCompile : Type 0 where
  pub object : (program : ProgramTree) (image : ImageParts) (c : ℕ) → image_of program ≡ Ok image →
      IsWellFormed image → c < length image.comps → IsObject (object_of image c)
  pub link : (program : ProgramTree) (image : ImageParts) (objects : List ObjectParts) → image_of program ≡ Ok image →
      IsWellFormed image → AreObjectsOf image objects → join_fault objects ≡ None
  pub image : (program : ProgramTree) (image joined : ImageParts) (objects : List ObjectParts) →
      image_of program ≡ Ok image → IsWellFormed image → AreObjectsOf image objects → IsJoined objects joined →
      joined ≡ image

-- Objects are separate: where two programs have the same interfaces and the same section of a number, but for the lines
-- of its parts, they have the same object of it.
abbrev pub ObjectsAreSeparate : Type 0
ObjectsAreSeparate = (program other : ProgramTree) (image its : ImageParts) (c : ℕ) →
    image_of program ≡ Ok image → image_of other ≡ Ok its → program.interfaces ≡ other.interfaces →
    HaveSameSection program other c → object_of image c ≡ object_of its c
