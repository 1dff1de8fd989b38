-- The objects of all sections of a text are linked to its image.
use Rattle.sc_top.proofs.Common.{Accepts, Bool, Compile, Option, inl, inr, HasImage, ImageParts, IsLinked}
use Rattle.sc_top.proofs.Common.{IsObjectOutput, IsTextOutput, IsWellFormed, List, None, ProgramTree, Some, [], ap, ap₂}
use Rattle.sc_top.proofs.Common.{arith, comp_named, concat, false, flat_map, length, length-map, map, refl, slice_get}
use Rattle.sc_top.proofs.Common.{subst, suc, sym, true, zero, ℕ, ◌++◌, ◌+◌, ◌<◌, ◌==◌, ◌∙◌, ◌∷◌, ◌≡◌, ◌≤◌, option_map}
use Rattle.sc_top.proofs.Common.{Ok, image_of}
use Rattle.sc_base.proofs.Lists.{all_at, all_by, is_there, position_of_only}
use Rattle.sc_base.proofs.Texts.{bytes_eq_self, same_text}
use Rattle.sc_event.specs.declared.interface.Interface.{Interface}
use Rattle.sc_image.specs.Prelude.{IsDistinct, image_bytes}
use Rattle.sc_image.specs.declared.parts.CompPart.{CompPart}
use Rattle.sc_linker.specs.Prelude.{HasInterface}
use Rattle.sc_object.specs.Prelude.{AreBytesOf, AreObjectsOf, BytesNameOneList, IsJoined, IsObject, LinkIsCompile}
use Rattle.sc_object.specs.Prelude.{join_as, object_bytes, object_of}
use Rattle.sc_object.specs.declared.parts.ObjectParts.{ObjectParts}
use Rattle.sc_top.proofs.Outputs.{one_image}
use Rattle.sc_top.specs.Laws.{AreAllObjects, LinkingIsCompiling, LinksTo}
use Rattle.sc_top.specs.Objects.{CanBeLinked, place_named}
use Rattle.std.proofs.Common.{cond, eq-eqb, eqb-true}
use Rattle.std.proofs.lemmas.Bool.{cases_lt}
use Rattle.std.proofs.lemmas.List.{get_or-map}
use Rattle.std.proofs.lemmas.List.Concat.{flat_map-cons}
use Rattle.std.proofs.lemmas.List.Sorted.{All-permutation, Contains-permutation, IsPermutation-map}
use Rattle.std.proofs.lemmas.List.Sorted.{length_permutation, sum_by-IsPermutation}
use Rattle.std.proofs.lemmas.List.Sums.{sum_by-cons}
use Rattle.std.proofs.lemmas.Option.{get_or_from_slice_get, slice_get-get_or, slice_get-map, slice_get_within}
use Rattle.std.specs.List.{AllZip, Contains, sum_by}
use Rattle.std.specs.List.Sorted.{IsPermutation}
use Rattle.std.specs.Option.{unwrap_or}
use Rattle.std.specs.Prelude.{bytes_eq, slice_index_or}

-- How many objects are of a compartment.

abbrev is_own : (c : ℕ) → ObjectParts → ℕ
is_own c object = cond (object.own == c) 1 0

abbrev count : (c : ℕ) → List ObjectParts → ℕ
count c objects = sum_by (is_own c) objects

counts : (c : ℕ) (object : ObjectParts) → object.own ≡ c → is_own c object ≡ 1
counts c object own = ap {B = ℕ} (λ here. cond here 1 0) (eq-eqb object.own c own)

-- where objects are numbered from k on, at most one is of compartment c, and none where c is less
record IsFew (c k : ℕ) (objects : List ObjectParts) : Type 0 where
  few : count c objects ≤ 1
  none : c < k → count c objects ≡ 0

few : (c k : ℕ) (objects : List ObjectParts) →
    ((i : ℕ) (object : ObjectParts) → slice_get objects i ≡ Some object → object.own ≡ k + i) → IsFew c k objects
few c k [] own = record { few = omega arith; none = λ low. refl }
few c k (object ∷ objects) own =
    by (few c (suc k) objects (λ i other there. own (suc i) other there ∙ omega arith)) (object.own == c) refl
  where
    sum : count c (object ∷ objects) ≡ is_own c object + count c objects
    sum = sum_by-cons (is_own c) object objects

    by : IsFew c (suc k) objects → (here : Bool) → (object.own == c) ≡ here → IsFew c k (object ∷ objects)
    by later true same =
        let one : is_own c object ≡ 1 = ap {B = ℕ} (λ here. cond here 1 0) same in
        let is = eqb-true object.own c same in
        let at = own 0 object refl in
        let none = later.none (omega (arith, is, at)) in
        record { few = omega (arith, sum, one, none); none = λ low. absurd (omega (arith, low, is, at)) }
    by later false same =
        let no : is_own c object ≡ 0 = ap {B = ℕ} (λ here. cond here 1 0) same in
        let most = later.few in
        record {
          few = omega (arith, sum, no, most);
          none = λ low. let none = later.none (omega (arith, low)) in omega (arith, sum, no, none);
        }

counted : (c : ℕ) (objects : List ObjectParts) (i : ℕ) (object : ObjectParts) → slice_get objects i ≡ Some object →
    object.own ≡ c → 1 ≤ count c objects
counted c [] i object there own = absurd cc
counted c (first ∷ objects) zero object there own =
    let here : first ≡ object = cc there in
    let one = counts c first (ap (λ (o : ObjectParts). o.own) here ∙ own) in
    omega (arith, one, sum_by-cons (is_own c) first objects)
counted c (first ∷ objects) (suc i) object there own =
    omega (arith, counted c objects i object there own, sum_by-cons (is_own c) first objects)

-- where at most one is, two that are stand at one place
same_place : (c : ℕ) (objects : List ObjectParts) → count c objects ≤ 1 → (i j : ℕ) (object other : ObjectParts) →
    slice_get objects i ≡ Some object → slice_get objects j ≡ Some other → object.own ≡ c → other.own ≡ c → i ≡ j
same_place c [] low i j object other there at own its = absurd cc
same_place c (first ∷ objects) low zero zero object other there at own its = refl
same_place c (first ∷ objects) low zero (suc j) object other there at own its =
    let here : first ≡ object = cc there in
    let one = counts c first (ap (λ (o : ObjectParts). o.own) here ∙ own) in
    absurd (omega (arith, low, one, counted c objects j other at its, sum_by-cons (is_own c) first objects))
same_place c (first ∷ objects) low (suc i) zero object other there at own its =
    let here : first ≡ other = cc at in
    let one = counts c first (ap (λ (o : ObjectParts). o.own) here ∙ its) in
    absurd (omega (arith, low, one, counted c objects i object there own, sum_by-cons (is_own c) first objects))
same_place c (first ∷ objects) low (suc i) (suc j) object other there at own its =
    ap suc (same_place c objects (omega (arith, low, sum_by-cons (is_own c) first objects)) i j object other there at
    own its)

-- All objects of an image in the order of its compartments, and then in another.

module _ (image : ImageParts) (start objects : List ObjectParts) (as_many : length start ≡ length image.comps)
    (numbered : (i : ℕ) (object : ObjectParts) → slice_get start i ≡ Some object → object ≡ object_of image i)
    (moved : IsPermutation start objects) where
  abbrev IsOwn : ObjectParts → Type 0
  IsOwn object = (object.own < length image.comps) × (object ≡ object_of image object.own)

  own_at : (i : ℕ) (object : ObjectParts) → slice_get start i ≡ Some object → object.own ≡ i
  own_at i object there = ap (λ (o : ObjectParts). o.own) (numbered i object there)

  own_there : (i : ℕ) (object : ObjectParts) → slice_get start i ≡ Some object → IsOwn object
  own_there i object there =
      let own = own_at i object there in (
        omega (arith, own, as_many, slice_get_within start i object there),
        numbered i object there ∙ ap (object_of image) (sym own),
      )

  at_most_one : (c : ℕ) → count c objects ≤ 1
  at_most_one c =
      let first = few c 0 start (λ i object there. own_at i object there ∙ omega arith) in
      omega (arith, sum_by-IsPermutation (is_own c) start objects moved, first.few)

  has_all : (c : ℕ) → c < length image.comps →
      (i : ℕ) × (object : ObjectParts) × (slice_get objects i ≡ Some object) × (object.own ≡ c)
  has_all c low =
      let object = object_of image c in
      let within : c < length start = omega (arith, low, as_many) in
      let first = slice_get-get_or start c object within in
      let is = numbered c (slice_index_or start c object) first in
      let found = Contains-permutation start objects object moved (c, within, is) in
      let there = slice_get-get_or objects found.0 object found.1 in
      (found.0, object, there ∙ ap (λ o. Some o) found.2, refl)

  pub are_objects_of : AreObjectsOf image objects
  are_objects_of = record {
    each = λ i object there. all_at IsOwn objects i object
        (All-permutation IsOwn start objects moved (all_by IsOwn start own_there)) there;
    once = λ i j object other there at same. same_place other.own objects (at_most_one other.own) i j object other
        there at same refl;
    all = has_all;
  }

-- Names of compartments.

names_along : (comps : List Interface) (parts : List CompPart) → AllZip HasInterface comps parts →
    map (λ (part : CompPart). part.name) parts ≡ map (λ (comp : Interface). comp.name) comps
names_along [] [] all = refl
names_along [] (part ∷ parts) all = absurd all
names_along (comp ∷ comps) [] all = absurd all
names_along (comp ∷ comps) (part ∷ parts) all =
    ap₂ (λ name names. name ∷ names) all.0.name (names_along comps parts all.1)

module _ (comps : List Interface) (distinct : IsDistinct (map (λ (comp : Interface). comp.name) comps)) where
  abbrev name_at : (i : ℕ) → Interface → List ℕ
  name_at i none = (slice_index_or comps i none).name

  apart : (i j : ℕ) (none : Interface) → i < j → j < length comps → name_at i none ≡ name_at j none → ⊥
  apart i j none less low same =
      let count = length-map comps (λ (comp : Interface). comp.name) in
      let first = get_or-map (λ (comp : Interface). comp.name) comps i none [] (omega (arith, less, low)) in
      let second = get_or-map (λ (comp : Interface). comp.name) comps j none [] low in
      distinct i j [] less (omega (arith, low, count)) (first ∙ (same ∙ sym second))

  only : (i j : ℕ) (none : Interface) → i < length comps → j < length comps → name_at i none ≡ name_at j none → i ≡ j
  only i j none low high same =
      elim (cases_lt i j) [
        | inl before ↦ absurd (apart i j none before high same)
        | inr past ↦ elim (cases_lt j i) [
          | inl before ↦ absurd (apart j i none before low (sym same))
          | inr also ↦ omega (arith, past, also)
        ]
      ]

  pub place_of_name : (c : ℕ) (comp : Interface) → slice_get comps c ≡ Some comp → place_named comps comp.name ≡ Some c
  place_of_name c comp there =
      let low = slice_get_within comps c comp there in
      let here = get_or_from_slice_get comps c comp comp there in
      position_of_only (λ (other : Interface). bytes_eq other.name comp.name) comps c comp low
      (ap (λ (other : Interface). bytes_eq other.name comp.name) here ∙ bytes_eq_self comp.name)
      (λ j within is. only j c comp within low
      (same_text _ _ is ∙ ap (λ (other : Interface). other.name) (sym here)))

-- The law.

module _ (one_program : (text : List ℕ) (program other : ProgramTree) →
    Accepts text program → Accepts text other → program ≡ other) (one_list : BytesNameOneList) (link : LinkIsCompile)
    (text image : List ℕ) (objects : List (List ℕ)) (is : IsTextOutput Compile text image)
    (are : AreAllObjects text objects) where
  has : HasImage is.program is.image
  has = is.compiled refl

  formed : IsWellFormed is.image
  formed = has.right.well_formed

  abbrev comps : List Interface
  comps = is.program.interfaces.comps

  abbrev names_of : List Interface → List (List ℕ)
  names_of list = map (λ (comp : Interface). comp.name) list

  -- the object of the compartment of a name
  abbrev object_named : List ℕ → ObjectParts
  object_named name = object_of is.image (unwrap_or (place_named comps name) 0)

  abbrev start : List ObjectParts
  start = map object_named (names_of comps)

  abbrev parts : List ObjectParts
  parts = map object_named are.names

  same_names : map (λ (part : CompPart). part.name) is.image.comps ≡ names_of comps
  same_names = names_along comps is.image.comps has.right.interfaces.comps

  as_many : length start ≡ length is.image.comps
  as_many = omega (
    arith,
    length-map (names_of comps) object_named,
    ap length same_names,
    length-map is.image.comps (λ (part : CompPart). part.name),
  )

  numbered : (i : ℕ) (object : ObjectParts) → slice_get start i ≡ Some object → object ≡ object_of is.image i
  numbered i object there =
      by (slice_get comps i) refl (sym (slice_get-map object_named (names_of comps) i ∙
      ap (option_map object_named) (slice_get-map (λ (comp : Interface). comp.name) comps i)) ∙ there)
    where
      by : (found : Option Interface) → slice_get comps i ≡ found →
          option_map object_named (option_map (λ (comp : Interface). comp.name) found) ≡ Some object →
          object ≡ object_of is.image i
      by None none here = absurd (cc here)
      by (Some comp) found here =
          let same : object_named comp.name ≡ object = cc here in
          let place = place_of_name comps (subst IsDistinct same_names formed.names) i comp found in
          sym same ∙ ap (λ place. object_of is.image (unwrap_or place 0)) place

  moved : IsPermutation start parts
  moved =
      let program = one_program text are.program is.program are.accepted is.accepted in
      IsPermutation-map object_named (names_of comps) are.names
      (subst (λ (p : ProgramTree). IsPermutation (names_of p.interfaces.comps) are.names) program are.all)

  parts_are : AreObjectsOf is.image parts
  parts_are = are_objects_of is.image start parts as_many numbered moved

  written_so : (name out : List ℕ) → IsObjectOutput name text out → out ≡ object_bytes (object_named name)
  written_so name out o =
      let program = one_program text o.program is.program o.accepted is.accepted in
      let same = one_image is.program o.is.image is.image
      (subst (λ p. image_of p ≡ Ok o.is.image) program o.is.compiled) has.compiled in
      let named = subst (λ (p : ProgramTree). comp_named p.interfaces name ≡ Some o.comp) program o.named in
      o.written ∙ ap object_bytes (o.is.is ∙ ap₂ object_of same (sym (ap (λ place. unwrap_or place 0) named)))

  all_written : (names outs : List (List ℕ)) → AllZip (λ name out. IsObjectOutput name text out) names outs →
      concat outs ≡ flat_map object_bytes (map object_named names)
  all_written [] [] each = refl
  all_written [] (out ∷ outs) each = absurd each
  all_written (name ∷ names) [] each = absurd each
  all_written (name ∷ names) (out ∷ outs) each =
      ap₂ (λ one rest. one ++ rest) (written_so name out each.0) (all_written names outs each.1) ∙
      sym (flat_map-cons object_bytes (object_named name) (map object_named names))

  some : 0 < length parts
  some = omega (arith, length_permutation start parts moved, as_many, formed.main)

  bytes_are : AreBytesOf parts (concat objects)
  bytes_are = record {
    good = record {
      some = some;
      few = omega (arith, length_permutation start parts moved, as_many, formed.few_comps);
      each = all_by IsObject parts (λ i object there.
          let own = parts_are.each i object there in
          subst IsObject (sym own.1) (link.object is.program is.image object.own has.compiled formed own.0));
    };
    are = all_written are.names objects are.each;
  }

  can : CanBeLinked (concat objects)
  can = record {
    objects = parts;
    read = bytes_are;
    good = link.link is.program is.image parts has.compiled formed parts_are;
  }

  joined_so : (joined : ImageParts) → IsJoined parts joined → joined ≡ is.image
  joined_so joined joins = link.image is.program is.image joined parts has.compiled formed parts_are joins

  to_image : (out : List ℕ) → IsLinked (concat objects) out → out ≡ image
  to_image out linked =
      let same = one_list (concat objects) linked.can.objects parts linked.can.read bytes_are in
      let joined = joined_so linked.image (subst (λ list. IsJoined list linked.image) same linked.joined) in
      linked.written ∙ (ap image_bytes joined ∙ sym is.written)

  from_image : (out : List ℕ) → out ≡ image → IsLinked (concat objects) out
  unfolding can
  from_image out same =
      let head = is_there parts 0 some in
      let joins : IsJoined parts (join_as head.0 parts) =
      record { head = head.0; first = head.1; joined = refl } in
      record {
        can = can;
        image = is.image;
        well_formed = formed;
        joined = subst (IsJoined parts) (joined_so (join_as head.0 parts) joins) joins;
        written = same ∙ is.written;
      }

  links : LinksTo image (concat objects)
  links = record { good = can; same = λ out. (to_image out, from_image out) }

pub linking_is_compiling : ((text : List ℕ) (program other : ProgramTree) →
    Accepts text program → Accepts text other → program ≡ other) → BytesNameOneList → LinkIsCompile →
    LinkingIsCompiling
linking_is_compiling one_program one_list link text image objects is are =
    links one_program one_list link text image objects is are
