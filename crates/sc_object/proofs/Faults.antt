-- Which fault of linking comes first.
use Rattle.sc_object.proofs.Common.{CanBeJoined, Differ, IsJoinFault, List, Missing, None, ObjectParts, OutOfMemory}
use Rattle.sc_object.proofs.Common.{Some, Twice, [], ap, differ_from, join_fault, length, missing_from, Option}
use Rattle.sc_object.proofs.Common.{option_or, refl, slice_get, subst, sym, twice_from, ◌∙◌, ◌∷◌, ◌≡◌}
use Rattle.sc_object.specs.declared.linking.JoinFault.{JoinFault}

fault_is : (objects : List ObjectParts) (fault : JoinFault) → join_fault objects ≡ Some fault →
    IsJoinFault objects fault
fault_is objects (Differ second) is = is
fault_is objects (Twice comp second) is = is
fault_is objects (Missing comp) is = is
fault_is objects OutOfMemory is = tt

abbrev later_fault : ObjectParts → List ObjectParts → Option JoinFault
later_fault head objects = option_or (twice_from [] 0 objects) (missing_from objects 0 (length head.faces))

pub differs_first : (objects : List ObjectParts) (head : ObjectParts) (fault : JoinFault) →
    slice_get objects 0 ≡ Some head → differ_from head 0 objects ≡ Some fault → IsJoinFault objects fault
differs_first [] head fault first found = absurd cc
differs_first (other ∷ objects) head fault first found =
    let same : other ≡ head = cc first in
    let here = subst (λ h. differ_from h 0 (other ∷ objects) ≡ Some fault) (sym same) found in
    fault_is (other ∷ objects) fault (ap (λ o. option_or o (later_fault other (other ∷ objects))) here)

pub twice_first : (objects : List ObjectParts) (head : ObjectParts) (fault : JoinFault) →
    slice_get objects 0 ≡ Some head → differ_from head 0 objects ≡ None → twice_from [] 0 objects ≡ Some fault →
    IsJoinFault objects fault
twice_first [] head fault first none found = absurd cc
twice_first (other ∷ objects) head fault first none found =
    let same : other ≡ head = cc first in
    let here = subst (λ h. differ_from h 0 (other ∷ objects) ≡ None) (sym same) none in
    fault_is (other ∷ objects) fault (ap (λ o. option_or o (later_fault other (other ∷ objects))) here ∙
    ap (λ o. option_or o (missing_from (other ∷ objects) 0 (length other.faces))) found)

pub missing_first : (objects : List ObjectParts) (head : ObjectParts) (fault : JoinFault) →
    slice_get objects 0 ≡ Some head → differ_from head 0 objects ≡ None → twice_from [] 0 objects ≡ None →
    missing_from objects 0 (length head.faces) ≡ Some fault → IsJoinFault objects fault
missing_first [] head fault first none once found = absurd cc
missing_first (other ∷ objects) head fault first none once found =
    let same : other ≡ head = cc first in
    let here = subst (λ h. differ_from h 0 (other ∷ objects) ≡ None) (sym same) none in
    let lacks = subst (λ h. missing_from (other ∷ objects) 0 (length h.faces) ≡ Some fault) (sym same) found in
    fault_is (other ∷ objects) fault (ap (λ o. option_or o (later_fault other (other ∷ objects))) here ∙
    (ap (λ o. option_or o (missing_from (other ∷ objects) 0 (length other.faces))) once ∙ lacks))

pub no_fault : (head : ObjectParts) (later : List ObjectParts) → differ_from head 0 (head ∷ later) ≡ None →
    twice_from [] 0 (head ∷ later) ≡ None → missing_from (head ∷ later) 0 (length head.faces) ≡ None →
    join_fault (head ∷ later) ≡ None
no_fault head later same once all =
    ap (λ o. option_or o (later_fault head (head ∷ later))) same ∙
    (ap (λ o. option_or o (missing_from (head ∷ later) 0 (length head.faces))) once ∙ all)
