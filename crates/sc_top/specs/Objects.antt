-- The sections that commands ask for, and the objects that are linked.
use Rattle.sc_top.specs.Common.{Command, Interfaces, ProgramTree, image_bytes}
use Rattle.std.specs.Prelude.{◌≡◌, ℕ, IsSome, List, [], None, Option, Some, bytes_eq, option_and_then}
use Rattle.std.specs.List.{position}
use Rattle.std.specs.Option.{option_map_or}
use Rattle.sc_event.specs.declared.interface.Interface.{Interface}
use Rattle.sc_image.specs.Prelude.{IsWellFormed}
use Rattle.sc_image.specs.declared.parts.ImageParts.{ImageParts}
use Rattle.sc_object.specs.Prelude.{AreBytesOf, IsFirstBad, IsJoined, cause_number, face_for, join_fault}
use Rattle.sc_object.specs.declared.fault.BadObject.{BadObject}
use Rattle.sc_object.specs.declared.linking.JoinFault.{JoinFault}
use Rattle.sc_object.specs.declared.linking.JoinFault.TheVariants as joining
use Rattle.sc_object.specs.declared.parts.ObjectParts.{ObjectParts}
use Rattle.sc_top_words.specs.declared.command.Command.TheVariants as commands
use Rattle.sc_top.specs.declared.status.BadJoin.{BadJoin}
use Rattle.sc_top.specs.declared.status.BadJoin.TheVariants.{Differ, Missing, Twice}

-- Sections.

-- the number of the compartment of a name
abbrev pub place_named : List Interface → (name : List ℕ) → Option ℕ
place_named comps name = position {X = Interface} (λ comp. bytes_eq comp.name name) comps

abbrev pub comp_named : Interfaces → (name : List ℕ) → Option ℕ
comp_named interfaces name = place_named interfaces.comps name

-- the name of the section that a command asks for, if it asks for one
abbrev pub section_of : Command → Option (List ℕ)
section_of (commands.Object options) = Some options.section
section_of command = None

-- the program has the section that the command asks for
abbrev pub HasSection : Command → ProgramTree → Type 0
HasSection command program =
    (name : List ℕ) → section_of command ≡ Some name → IsSome (comp_named program.interfaces name)

-- Objects.

-- the object of this index is the first bad one in the bytes, for the cause of this number
pub record HasBadObject (bytes : List ℕ) (index cause : ℕ) : Type 0 where
  pub why : BadObject
  pub first : IsFirstBad bytes index why
  pub number : cause ≡ cause_number why

-- the name of a compartment, as the first object gives it
abbrev pub face_name : List ObjectParts → (comp : ℕ) → List ℕ
face_name objects comp = option_map_or (λ face. face.name) (face_for objects comp) []

-- a fault of linking, by the names of compartments
abbrev pub join_by_name : List ObjectParts → JoinFault → Option BadJoin
join_by_name objects (joining.Differ second) = Some (Differ second)
join_by_name objects (joining.Twice comp second) = Some (Twice (face_name objects comp))
join_by_name objects (joining.Missing comp) = Some (Missing (face_name objects comp))
join_by_name objects joining.OutOfMemory = None

-- why objects aren't linked, if they aren't
abbrev pub bad_join_in : List ObjectParts → Option BadJoin
bad_join_in objects = option_and_then (join_by_name objects) (join_fault objects)

-- the bytes are those of objects that aren't linked, for this reason
pub record HasBadJoin (bytes : List ℕ) (fault : BadJoin) : Type 0 where
  pub objects : List ObjectParts
  pub read : AreBytesOf objects bytes
  pub found : bad_join_in objects ≡ Some fault

-- the bytes are those of objects that are linked
pub record CanBeLinked (bytes : List ℕ) : Type 0 where
  pub objects : List ObjectParts
  pub read : AreBytesOf objects bytes
  pub good : join_fault objects ≡ None

-- and the text is the image that they are joined to
pub record IsLinked (bytes text : List ℕ) : Type 0 where
  pub can : CanBeLinked bytes
  pub image : ImageParts
  pub well_formed : IsWellFormed image
  pub joined : IsJoined can.objects image
  pub written : text ≡ image_bytes image
