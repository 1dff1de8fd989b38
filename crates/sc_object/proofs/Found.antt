-- Which objects there are: by their numbers, and whether they can be joined.
use Rattle.sc_object.proofs.Common.{Bool, List, None, ObjectParts, Some, [], ap, append_assoc, arith, differ_from}
use Rattle.sc_object.proofs.Common.{eq-eqb, eqb-true, false, has_number, if◌then◌else◌, is_same_program, Differ}
use Rattle.sc_object.proofs.Common.{Missing, Twice, cases_lt, inl, inr, length, length-append, missing_from, object_for}
use Rattle.sc_object.proofs.Common.{refl, slice_get, subst, suc, sym, true, twice_from, zero, ℕ, ◌++◌, ◌+◌, ◌<◌, ◌==◌}
use Rattle.sc_object.proofs.Common.{◌||◌, ◌∙◌, ◌∷◌, ◌≡◌, ◌≤◌, ◌⊎◌}
use Rattle.sc_object.proofs.Alike.{SaysSame, same_if, says_same}

-- an object of compartment c
pub record OfComp (objects : List ObjectParts) (c : ℕ) : Type 0 where
  pub place : ℕ
  pub object : ObjectParts
  pub there : slice_get objects place ≡ Some object
  pub own : object.own ≡ c

later : (object : ObjectParts) (objects : List ObjectParts) (c : ℕ) → OfComp objects c → OfComp (object ∷ objects) c
later object objects c of = record { place = suc of.place; object = of.object; there = of.there; own = of.own }

pub number_there : (objects : List ObjectParts) (c : ℕ) → has_number objects c ≡ true → OfComp objects c
number_there [] c is = absurd cc
number_there (object ∷ objects) c is = by (number_there objects c) (object.own == c) refl is
  where
    by : (has_number objects c ≡ true → OfComp objects c) → (here : Bool) → (object.own == c) ≡ here →
        (here || has_number objects c) ≡ true → OfComp (object ∷ objects) c
    by again true same is = record { place = 0; object = object; there = refl; own = eqb-true object.own c same }
    by again false same is = later object objects c (again is)

pub has_it : (objects : List ObjectParts) (c i : ℕ) (object : ObjectParts) → slice_get objects i ≡ Some object →
    object.own ≡ c → has_number objects c ≡ true
has_it [] c i object there own = absurd cc
has_it (first ∷ objects) c zero object there own =
    let same : first ≡ object = cc in
    ap (λ here. here || has_number objects c) (eq-eqb first.own c (ap (λ (o : ObjectParts). o.own) same ∙ own))
has_it (first ∷ objects) c (suc i) object there own = by (first.own == c) (has_it objects c i object there own)
  where
    by : (here : Bool) → has_number objects c ≡ true → (here || has_number objects c) ≡ true
    by true is = refl
    by false is = is

-- where all objects of compartment c are this one, it is found
pub object_found : (objects : List ObjectParts) (c : ℕ) (target : ObjectParts) →
    ((i : ℕ) (object : ObjectParts) → slice_get objects i ≡ Some object → object.own ≡ c → object ≡ target) →
    OfComp objects c → object_for objects c ≡ Some target
object_found [] c target only of = let never = of.there in absurd cc
object_found (first ∷ objects) c target only of =
    by (object_found objects c target (λ i object there own. only (suc i) object there own)) (first.own == c) refl
  where
    at_later : (i : ℕ) → i ≡ of.place → (first.own == c) ≡ false → OfComp objects c
    at_later zero is other =
        let at = subst (λ k. slice_get (first ∷ objects) k ≡ Some of.object) (sym is) of.there in
        let here : first ≡ of.object = cc at in
        let same = eq-eqb first.own c (ap (λ (o : ObjectParts). o.own) here ∙ of.own) in
        let never : ◌≡◌ true false = sym same ∙ other in
        absurd (cc never)
    at_later (suc i) is other = record {
      place = i;
      object = of.object;
      there = subst (λ k. slice_get (first ∷ objects) k ≡ Some of.object) (sym is) of.there;
      own = of.own;
    }

    by : (OfComp objects c → object_for objects c ≡ Some target) → (here : Bool) → (first.own == c) ≡ here →
        (if here then Some first else object_for objects c) ≡ Some target
    by again true same = ap (λ o. Some o) (only 0 first refl (eqb-true first.own c same))
    by again false same = again (at_later of.place refl same)

-- Differ.

module _ (head : ObjectParts) where
  pub none_differs : (i : ℕ) (objects : List ObjectParts) →
      ((k : ℕ) (object : ObjectParts) → slice_get objects k ≡ Some object → SaysSame head object) →
      differ_from head i objects ≡ None
  none_differs i [] each = refl
  none_differs i (object ∷ objects) each =
      ap (λ same. if same then differ_from head (suc i) objects else Some (Differ i))
      (same_if head object (each 0 object refl)) ∙
      none_differs (suc i) objects (λ k other there. each (suc k) other there)

  pub all_say_same : (i : ℕ) (objects : List ObjectParts) → differ_from head i objects ≡ None → (k : ℕ)
      (object : ObjectParts) → slice_get objects k ≡ Some object → SaysSame head object
  all_say_same i [] none k object there = absurd cc
  all_say_same i (first ∷ objects) none k object there =
      by (all_say_same (suc i) objects) (is_same_program head first) refl none k there
    where
      by : (differ_from head (suc i) objects ≡ None → (k : ℕ) (object : ObjectParts) →
          slice_get objects k ≡ Some object → SaysSame head object) → (same : Bool) →
          is_same_program head first ≡ same →
          (if same then differ_from head (suc i) objects else Some (Differ i)) ≡ None → (k : ℕ) →
          slice_get (first ∷ objects) k ≡ Some object → SaysSame head object
      by again true same none zero there =
          let here : first ≡ object = cc there in subst (SaysSame head) here (says_same head first same)
      by again true same none (suc k) there = again none k object there
      by again false same none k there = absurd (cc none)

-- Twice.

-- no object is of a compartment of which one was before
abbrev Once : List ObjectParts → Type 0
Once objects = (i j : ℕ) (object other : ObjectParts) → slice_get objects i ≡ Some object →
    slice_get objects j ≡ Some other → object.own ≡ other.own → i ≡ j

at_left : (xs ys : List ObjectParts) (i : ℕ) (x : ObjectParts) → slice_get xs i ≡ Some x →
    (slice_get (xs ++ ys) i ≡ Some x) × (i < length xs)
at_left [] ys i x there = absurd cc
at_left (first ∷ xs) ys zero x there = (there, omega arith)
at_left (first ∷ xs) ys (suc i) x there =
    let rest = at_left xs ys i x there in (rest.0, omega (arith, rest.1))

at_seam : (xs : List ObjectParts) (y : ObjectParts) (ys : List ObjectParts) →
    slice_get (xs ++ y ∷ ys) (length xs) ≡ Some y
at_seam [] y ys = refl
at_seam (x ∷ xs) y ys = at_seam xs y ys

pub none_twice : (before : List ObjectParts) (i : ℕ) (objects : List ObjectParts) → Once (before ++ objects) →
    twice_from before i objects ≡ None
none_twice before i [] once = refl
none_twice before i (object ∷ objects) once =
    ap (λ there. if there then Some (Twice object.own i) else twice_from (before ++ object ∷ []) (suc i) objects)
    (new (has_number before object.own) refl) ∙
    none_twice (before ++ object ∷ []) (suc i) objects
    (subst Once (sym (append_assoc before (object ∷ []) objects)) once)
  where
    new : (there : Bool) → has_number before object.own ≡ there → has_number before object.own ≡ false
    new false is = is
    new true is =
        let of = number_there before object.own is in
        let left = at_left before (object ∷ objects) of.place of.object of.there in
        let same = once of.place (length before) of.object object left.0 (at_seam before object objects) of.own in
        absurd (omega (arith, same, left.1))

left_of : (xs ys : List ObjectParts) (j : ℕ) (x : ObjectParts) → j < length xs →
    slice_get (xs ++ ys) j ≡ Some x → slice_get xs j ≡ Some x
left_of [] ys j x low at = absurd (omega (arith, low))
left_of (y ∷ xs) ys zero x low at = at
left_of (y ∷ xs) ys (suc j) x low at = left_of xs ys j x (omega (arith, low)) at

-- of a later object none was before
pub is_new : (before : List ObjectParts) (i : ℕ) (objects : List ObjectParts) → twice_from before i objects ≡ None →
    (k : ℕ) (object : ObjectParts) → slice_get objects k ≡ Some object → (j : ℕ) (other : ObjectParts) →
    j < length before + k → slice_get (before ++ objects) j ≡ Some other → other.own ≡ object.own → ⊥
is_new before i [] none k object there j other low at same = absurd cc
is_new before i (first ∷ objects) none k object there j other low at same =
    by (λ none k there low. is_new (before ++ first ∷ []) (suc i) objects none k object there j other low
    (subst (λ all. slice_get all j ≡ Some other) (sym (append_assoc before (first ∷ []) objects)) at) same)
    (has_number before first.own) refl none k there low
  where
    by : (twice_from (before ++ first ∷ []) (suc i) objects ≡ None → (k : ℕ) → slice_get objects k ≡ Some object →
        j < length (before ++ first ∷ []) + k → ⊥) → (seen : Bool) → has_number before first.own ≡ seen →
        (if seen then Some (Twice first.own i) else twice_from (before ++ first ∷ []) (suc i) objects) ≡ None →
        (k : ℕ) → slice_get (first ∷ objects) k ≡ Some object → j < length before + k → ⊥
    by again true seen none k there low = absurd (cc none)
    by again false seen none zero there low =
        let here : first ≡ object = cc there in
        let found = has_it before first.own j other (left_of before (first ∷ objects) j other (omega (arith, low)) at)
        (same ∙ ap (λ (o : ObjectParts). o.own) (sym here)) in
        let never = sym found ∙ seen in
        cc never
    by again false seen none (suc k) there low =
        again none k there (omega (arith, low, length-append before (first ∷ [])))

pub each_once : (objects : List ObjectParts) → twice_from [] 0 objects ≡ None → Once objects
each_once objects none i j object other there at same =
    elim (cases_lt i j) [
      | inl before ↦ absurd (is_new [] 0 objects none j other at i object (omega (arith, before)) there same)
      | inr past ↦ elim (cases_lt j i) [
        | inl before ↦ absurd (is_new [] 0 objects none i object there j other (omega (arith, before)) at (sym same))
        | inr also ↦ omega (arith, past, also)
      ]
    ]

-- Missing.

module _ (objects : List ObjectParts) where
  pub none_missing : (c count : ℕ) → ((k : ℕ) → k < c + count → c ≤ k → has_number objects k ≡ true) →
      missing_from objects c count ≡ None
  none_missing c zero each = refl
  none_missing c (suc count) each =
      ap (λ there. if there then missing_from objects (suc c) count else Some (Missing c))
      (each c (omega arith) (omega arith)) ∙
      none_missing (suc c) count (λ k low high. each k (omega (arith, low)) (omega (arith, high)))

  pub all_there : (c count : ℕ) → missing_from objects c count ≡ None → (k : ℕ) → k < c + count → c ≤ k →
      OfComp objects k
  all_there c zero none k low high = absurd (omega (arith, low, high))
  all_there c (suc count) none k low high =
      by (λ none high. all_there (suc c) count none k (omega (arith, low)) high) (has_number objects c) refl none
      (cases_lt c k)
    where
      by : (missing_from objects (suc c) count ≡ None → suc c ≤ k → OfComp objects k) → (there : Bool) →
          has_number objects c ≡ there →
          (if there then missing_from objects (suc c) count else Some (Missing c)) ≡ None → (c < k) ⊎ (k ≤ c) →
          OfComp objects k
      by again true there none (inl more) = again none (omega (arith, more))
      by again true there none (inr here) =
          let same : c ≡ k = omega (arith, here, high) in subst (OfComp objects) same (number_there objects c there)
      by again false there none found = absurd (cc none)
