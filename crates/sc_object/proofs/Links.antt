-- What linking knows after each of its steps. The list is that of the objects, and the head its first.
use Rattle.sc_object.proofs.Common.{All, AreObjects, CanBeJoined, HasOwn, ImageParts, IsJoined, IsJoinFault, IsObject}
use Rattle.sc_object.proofs.Common.{List, None, ObjectParts, Some, [], ap, arith, differ_from, get_or, join_as}
use Rattle.sc_object.proofs.Common.{join_fault, length, missing_from, slice_get, subst, sym, twice_from, ◌<◌, ◌∷◌}
use Rattle.sc_object.proofs.Common.{◌≡◌, ◌≤◌}
use Rattle.sc_object.proofs.Faults.{differs_first, missing_first, twice_first}
use Rattle.sc_linker.proofs.Places.{all_here}
use Rattle.sc_object.specs.declared.linking.JoinFault.{JoinFault}

first_is : (list : List ObjectParts) (head : ObjectParts) → 0 < length list → head ≡ get_or list 0 head →
    slice_get list 0 ≡ Some head
first_is [] head some is = absurd (omega (arith, some))
first_is (first ∷ list) head some is = ap (λ o. Some o) (sym is)

module _ (objects list : List ObjectParts) (head : ObjectParts) (same : list ≡ objects) (good : AreObjects objects)
    (first : head ≡ get_or list 0 head) where
  list_good : AreObjects list
  list_good = subst AreObjects (sym same) good

  pub head_there : slice_get list 0 ≡ Some head
  head_there = first_is list head list_good.some first

  pub few_faces : length head.faces ≤ 32
  few_faces = (all_here IsObject list list_good.each 0 head head_there).few_comps

  pub joins : (image : ImageParts) → image ≡ join_as head list → IsJoined objects image
  joins image is = subst (λ all. IsJoined all image) same (record { head = head; first = head_there; joined = is })

  pub differs : (fault : JoinFault) → differ_from head 0 list ≡ Some fault → IsJoinFault objects fault
  differs fault found = subst (λ all. IsJoinFault all fault) same (differs_first list head fault head_there found)

  pub is_twice : (fault : JoinFault) → differ_from head 0 list ≡ None → twice_from [] 0 list ≡ Some fault →
      IsJoinFault objects fault
  is_twice fault says found =
      subst (λ all. IsJoinFault all fault) same (twice_first list head fault head_there says found)

  pub is_missing : (fault : JoinFault) → differ_from head 0 list ≡ None → twice_from [] 0 list ≡ None →
      missing_from list 0 (length head.faces) ≡ Some fault → IsJoinFault objects fault
  is_missing fault says once found =
      subst (λ all. IsJoinFault all fault) same (missing_first list head fault head_there says once found)
