-- A fault of linking names a compartment for which the first object has a face.
use Rattle.sc_object.proofs.Common.{AreObjects, Bool, Differ, IsJoinFault, IsObject, List, Missing, None, ObjectParts}
use Rattle.sc_object.proofs.Common.{Option, OutOfMemory, Some, Twice, [], arith, differ_from, false, has_number}
use Rattle.sc_object.proofs.Common.{if◌then◌else◌, is_same_program, join_fault, length, missing_from, option_or}
use Rattle.sc_object.proofs.Common.{refl, slice_get, subst, suc, sym, true, twice_from, zero, ℕ, ◌++◌, ◌+◌, ◌<◌}
use Rattle.sc_object.proofs.Common.{◌∙◌, ◌∷◌, ◌≡◌, ◌≤◌}
use Rattle.sc_linker.proofs.Places.{all_here}
use Rattle.sc_object.proofs.Found.{all_say_same}
use Rattle.sc_object.specs.Linking.{NamesFace}
use Rattle.sc_object.specs.declared.linking.JoinFault.{JoinFault}
use Rattle.sc_object.specs.declared.parts.Face.{Face}
use Rattle.std.specs.Prelude.{IsSome}

-- the number is that of a compartment
abbrev IsBelow : ℕ → JoinFault → Type 0
IsBelow count (Differ second) = Unit {0}
IsBelow count (Twice comp second) = comp < count
IsBelow count (Missing comp) = comp < count
IsBelow count OutOfMemory = Unit {0}

differs_below : (count : ℕ) (head : ObjectParts) (i : ℕ) (objects : List ObjectParts) (fault : JoinFault) →
    differ_from head i objects ≡ Some fault → IsBelow count fault
differs_below count head i [] fault is = absurd (cc is)
differs_below count head i (object ∷ objects) fault is =
    by (differs_below count head (suc i) objects fault) (is_same_program head object) is
  where
    by : (differ_from head (suc i) objects ≡ Some fault → IsBelow count fault) → (same : Bool) →
        (if same then differ_from head (suc i) objects else Some (Differ i)) ≡ Some fault → IsBelow count fault
    by again true is = again is
    by again false is = let same : Differ i ≡ fault = cc is in subst (IsBelow count) same tt

twice_below : (count : ℕ) (before : List ObjectParts) (i : ℕ) (objects : List ObjectParts) (fault : JoinFault) →
    ((k : ℕ) (object : ObjectParts) → slice_get objects k ≡ Some object → object.own < count) →
    twice_from before i objects ≡ Some fault → IsBelow count fault
twice_below count before i [] fault own is = absurd (cc is)
twice_below count before i (object ∷ objects) fault own is =
    by (twice_below count (before ++ object ∷ []) (suc i) objects fault (λ k other there. own (suc k) other there))
    (has_number before object.own) is
  where
    by : (twice_from (before ++ object ∷ []) (suc i) objects ≡ Some fault → IsBelow count fault) → (seen : Bool) →
        (if seen then Some (Twice object.own i) else twice_from (before ++ object ∷ []) (suc i) objects) ≡
        Some fault → IsBelow count fault
    by again true is =
        let same : Twice object.own i ≡ fault = cc is in subst (IsBelow count) same (own 0 object refl)
    by again false is = again is

missing_below : (count : ℕ) (objects : List ObjectParts) (c left : ℕ) (fault : JoinFault) → c + left ≤ count →
    missing_from objects c left ≡ Some fault → IsBelow count fault
missing_below count objects c zero fault few is = absurd (cc is)
missing_below count objects c (suc left) fault few is =
    by (missing_below count objects (suc c) left fault (omega (arith, few))) (has_number objects c) is
  where
    by : (missing_from objects (suc c) left ≡ Some fault → IsBelow count fault) → (there : Bool) →
        (if there then missing_from objects (suc c) left else Some (Missing c)) ≡ Some fault → IsBelow count fault
    by again true is = again is
    by again false is =
        let same : Missing c ≡ fault = cc is in subst (IsBelow count) same (omega (arith, few))

module _ (head : ObjectParts) (objects : List ObjectParts) (are : AreObjects (head ∷ objects)) where
  owned : differ_from head 0 (head ∷ objects) ≡ None → (k : ℕ) (object : ObjectParts) →
      slice_get (head ∷ objects) k ≡ Some object → object.own < length head.faces
  owned none k object there =
      let same = all_say_same head 0 (head ∷ objects) none k object there in
      subst (λ (faces : List Face). object.own < length faces) (sym same.faces)
      (all_here IsObject (head ∷ objects) are.each k object there).own

  below : (fault : JoinFault) → join_fault (head ∷ objects) ≡ Some fault → IsBelow (length head.faces) fault
  below fault is = by (differ_from head 0 (head ∷ objects)) refl is
    where
      later : differ_from head 0 (head ∷ objects) ≡ None → (found : Option JoinFault) →
          twice_from [] 0 (head ∷ objects) ≡ found →
          option_or found (missing_from (head ∷ objects) 0 (length head.faces)) ≡ Some fault →
          IsBelow (length head.faces) fault
      later none None once is =
          missing_below (length head.faces) (head ∷ objects) 0 (length head.faces) fault (omega arith) is
      later none (Some twice) once is =
          twice_below (length head.faces) [] 0 (head ∷ objects) fault (owned none) (once ∙ is)

      by : (found : Option JoinFault) → differ_from head 0 (head ∷ objects) ≡ found →
          option_or found (option_or (twice_from [] 0 (head ∷ objects))
          (missing_from (head ∷ objects) 0 (length head.faces))) ≡ Some fault → IsBelow (length head.faces) fault
      by None none is = later none (twice_from [] 0 (head ∷ objects)) refl is
      by (Some differ) found is = differs_below (length head.faces) head 0 (head ∷ objects) fault (found ∙ is)

there_is : (faces : List Face) (c : ℕ) → c < length faces → IsSome (slice_get faces c)
there_is [] c low = absurd (omega (arith, low))
there_is (face ∷ faces) zero low = refl
there_is (face ∷ faces) (suc c) low = there_is faces c (omega (arith, low))

-- so it has a face
pub names_face : (objects : List ObjectParts) (fault : JoinFault) → AreObjects objects → IsJoinFault objects fault →
    NamesFace objects fault
names_face objects (Differ second) are is = tt
names_face [] (Twice comp second) are is = absurd (cc is)
names_face (head ∷ objects) (Twice comp second) are is =
    there_is head.faces comp (below head objects are (Twice comp second) is)
names_face [] (Missing comp) are is = absurd (cc is)
names_face (head ∷ objects) (Missing comp) are is =
    there_is head.faces comp (below head objects are (Missing comp) is)
names_face objects OutOfMemory are is = tt
