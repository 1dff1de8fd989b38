-- Why objects can't be joined, first of all: one says something else of the program than the first, two are of one
-- compartment, or a compartment has none.
use Rattle.sc_image.specs.Prelude.{is_same_flag, is_same_import, is_same_name}
use Rattle.std.specs.Prelude.{◌≡◌, ℕ, zero, suc, Bool, ◌&&◌, ◌==◌, List, [], ◌∷◌, ◌++◌, length, Option, None, Some, All}
use Rattle.std.specs.Prelude.{IsSome, if◌then◌else◌, option_and_then, slice_get}
use Rattle.std.specs.Cmp.Lexicographic.{pointwise}
use Rattle.std.specs.List.{list_any}
use Rattle.std.specs.Option.{option_or}
use Rattle.sc_object.specs.declared.linking.JoinFault.{JoinFault}
use Rattle.sc_object.specs.declared.linking.JoinFault.TheVariants.{Differ, Twice, Missing, OutOfMemory}
use Rattle.sc_object.specs.declared.parts.Face.{Face}
use Rattle.sc_object.specs.declared.parts.FaceExport.{FaceExport}
use Rattle.sc_object.specs.declared.parts.ObjectParts.{ObjectParts}
use Rattle.sc_object.specs.WellFormed.{IsObject}

abbrev pub is_same_export : FaceExport → FaceExport → Bool
is_same_export a b = is_same_name a.name b.name && (a.params == b.params && is_same_flag a.result b.result)

abbrev pub is_same_face : Face → Face → Bool
is_same_face a b =
    is_same_name a.name b.name && (is_same_flag a.input b.input && (is_same_flag a.output b.output &&
    (pointwise is_same_export a.exports b.exports && pointwise is_same_import a.imports b.imports)))

-- they say the same of the program: the main compartment, and the faces of all
abbrev pub is_same_program : ObjectParts → ObjectParts → Bool
is_same_program a b = a.main == b.main && pointwise is_same_face a.faces b.faces

-- the first object from index i on that says something else than the head
abbrev pub differ_from : (head : ObjectParts) → (i : ℕ) → List ObjectParts → Option JoinFault
differ_from head i [] = None
differ_from head i (object ∷ objects) =
    if is_same_program head object then differ_from head (suc i) objects else Some (Differ i)

-- one of the objects is of compartment c
abbrev pub has_number : List ObjectParts → (c : ℕ) → Bool
has_number objects c = list_any (λ object. object.own == c) objects

-- the first object from index i on of whose compartment one was before
abbrev pub twice_from : (before : List ObjectParts) → (i : ℕ) → List ObjectParts → Option JoinFault
twice_from before i [] = None
twice_from before i (object ∷ objects) =
    if has_number before object.own then Some (Twice object.own i)
    else twice_from (before ++ object ∷ []) (suc i) objects

-- the first of `count` compartments from number c on that has no object
abbrev pub missing_from : List ObjectParts → (c count : ℕ) → Option JoinFault
missing_from objects c zero = None
missing_from objects c (suc count) =
    if has_number objects c then missing_from objects (suc c) count else Some (Missing c)

-- why objects aren't joined, if they can't be
abbrev pub join_fault : List ObjectParts → Option JoinFault
join_fault [] = None
join_fault (head ∷ objects) =
    option_or (differ_from head 0 (head ∷ objects)) (option_or (twice_from [] 0 (head ∷ objects))
    (missing_from (head ∷ objects) 0 (length head.faces)))

-- why a call gave no image: that, or memory ran out
abbrev pub IsJoinFault : List ObjectParts → JoinFault → Type 0
IsJoinFault objects OutOfMemory = Unit {0}
IsJoinFault objects fault = join_fault objects ≡ Some fault

-- what the first object says of a compartment
abbrev pub face_for : List ObjectParts → (c : ℕ) → Option Face
face_for objects c = option_and_then (λ head. slice_get head.faces c) (slice_get objects 0)

-- the first object has a face for the compartment that the fault names
abbrev pub NamesFace : List ObjectParts → JoinFault → Type 0
NamesFace objects (Differ second) = Unit {0}
NamesFace objects (Twice comp second) = IsSome (face_for objects comp)
NamesFace objects (Missing comp) = IsSome (face_for objects comp)
NamesFace objects OutOfMemory = Unit {0}

-- objects that can be joined, by what the head says of the program
pub record CanBeJoined (head : ObjectParts) (objects : List ObjectParts) : Type 0 where
  pub first : slice_get objects 0 ≡ Some head
  pub each : All IsObject objects
  pub same : differ_from head 0 objects ≡ None
  pub once : twice_from [] 0 objects ≡ None
  pub all : missing_from objects 0 (length head.faces) ≡ None
