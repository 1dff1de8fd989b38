-- Joining objects of which some are given gives the program's image but for their compartments.
use Rattle.sc_object.proofs.Common.{ap₂, false, CompPart, HasEntries, ImageParts, IsJoined, IsWellFormed}
use Rattle.sc_object.proofs.Common.{List, ObjectParts, Some, [], ap, arith, code_start, eq-eqb}
use Rattle.sc_object.proofs.Common.{face_of, if◌then◌else◌, joined_part, joined_parts, length}
use Rattle.sc_object.proofs.Common.{map, object_for, object_of, option_map_or, refl}
use Rattle.sc_object.proofs.Common.{slice_get, slice_get_within, subst, suc, sym, zero, ℕ, ◌+◌, ◌-◌, ◌<◌, ◌∙◌, ◌∷◌, ◌≡◌}
use Rattle.std.specs.Prelude.{Bool}
use Rattle.sc_image.specs.Prelude.{IsButFor, seen_of}
use Rattle.sc_object.specs.Given.{AreObjectsButFor, JoinsButFor}
use Rattle.sc_object.proofs.Found.{OfComp, object_found}
use Rattle.sc_object.proofs.Programs.{has_entries}
use Rattle.sc_object.proofs.Splitting.{main_word_of}

module _ (given : ℕ → Bool) (image : ImageParts) (formed : IsWellFormed image) (entries : HasEntries image)
    (objects : List ObjectParts) (are : AreObjectsButFor given image objects) where
  of_comp : (c : ℕ) → c < length image.comps → OfComp objects c
  of_comp c low =
      let of = are.all c low in
      record { place = of.0; object = of.1; there = of.2; own = of.3 }

  only : (c : ℕ) → given c ≡ false → (i : ℕ) (object : ObjectParts) → slice_get objects i ≡ Some object →
      object.own ≡ c → object ≡ object_of image c
  only c honest i object there own =
      subst (λ n. object ≡ object_of image n) own ((are.each i object there).kept (ap given own ∙ honest))

  found : (c : ℕ) → c < length image.comps → given c ≡ false → object_for objects c ≡ Some (object_of image c)
  found c low honest = object_found objects c (object_of image c) (only c honest) (of_comp c low)

  part_so : (c : ℕ) (comp : CompPart) → given c ≡ false → slice_get image.comps c ≡ Some comp →
      joined_part c (face_of comp) (object_for objects c) ≡ comp
  part_so c comp honest there =
      let object = found c (slice_get_within image.comps c comp there) honest in
      let heap : option_map_or (λ (o : ObjectParts). o.heap) (object_for objects c) false ≡ comp.heap =
      ap (λ found. option_map_or (λ (o : ObjectParts). o.heap) found false) object ∙
      ap (λ found. option_map_or (λ (comp : CompPart). comp.heap) found false) there in
      let code : option_map_or (λ (o : ObjectParts). o.code) (object_for objects c) [] ≡ comp.code =
      ap (λ found. option_map_or (λ (o : ObjectParts). o.code) found []) object ∙
      ap (λ found. option_map_or (λ (comp : CompPart). comp.code) found []) there in
      let globals : option_map_or (λ (o : ObjectParts). o.globals) (object_for objects c) [] ≡ comp.globals =
      ap (λ found. option_map_or (λ (o : ObjectParts). o.globals) found []) object ∙
      ap (λ found. option_map_or (λ (comp : CompPart). comp.globals) found []) there in
      let exports = sym (entries c comp there) in
      λ i. record comp { heap = heap i; exports = exports i; code = code i; globals = globals i }

  -- the others see the same of each compartment
  seen_so : (c : ℕ) (comp : CompPart) → slice_get image.comps c ≡ Some comp →
      seen_of (joined_part c (face_of comp) (object_for objects c)) ≡ seen_of comp
  seen_so c comp there =
      let exports = sym (entries c comp there) in
      λ i. record comp { heap = false; exports = exports i; code = []; globals = [] }

  abbrev StandsAt : (c : ℕ) → List CompPart → Type 0
  StandsAt c comps =
      (i : ℕ) (comp : CompPart) → slice_get comps i ≡ Some comp → slice_get image.comps (c + i) ≡ Some comp

  first_stands : (c : ℕ) (comp : CompPart) (comps : List CompPart) → StandsAt c (comp ∷ comps) →
      slice_get image.comps c ≡ Some comp
  first_stands c comp comps at =
      let here : c + 0 ≡ c = omega arith in
      subst (λ n. slice_get image.comps n ≡ Some comp) here (at 0 comp refl)

  rest_stands : (c : ℕ) (comp : CompPart) (comps : List CompPart) → StandsAt c (comp ∷ comps) → StandsAt (suc c) comps
  rest_stands c comp comps at i other there =
      let next : c + suc i ≡ suc c + i = omega arith in
      subst (λ n. slice_get image.comps n ≡ Some other) next (at (suc i) other there)

  seen_from : (c : ℕ) (comps : List CompPart) → StandsAt c comps →
      map seen_of (joined_parts objects c (map face_of comps)) ≡ map seen_of comps
  seen_from c [] at = refl
  seen_from c (comp ∷ comps) at =
      ap₂ (λ x xs. x ∷ xs) (seen_so c comp (first_stands c comp comps at))
      (seen_from (suc c) comps (rest_stands c comp comps at))

  kept_from : (c : ℕ) (comps : List CompPart) → StandsAt c comps → (k : ℕ) → given (c + k) ≡ false →
      slice_get (joined_parts objects c (map face_of comps)) k ≡ slice_get comps k
  kept_from c [] at k honest = refl
  kept_from c (comp ∷ comps) at zero honest =
      let here : c + 0 ≡ c = omega arith in
      ap Some (part_so c comp (subst (λ n. given n ≡ false) here honest) (first_stands c comp comps at))
  kept_from c (comp ∷ comps) at (suc k) honest =
      let next : c + suc k ≡ suc c + k = omega arith in
      kept_from (suc c) comps (rest_stands c comp comps at) k (subst (λ n. given n ≡ false) next honest)

  entry_so : given image.main ≡ false → code_start image.main +
      option_map_or (λ (o : ObjectParts). o.main_at) (object_for objects image.main) 0 ≡ image.entry
  entry_so honest =
      let object = ap (λ found. option_map_or (λ (o : ObjectParts). o.main_at) found 0)
      (found image.main formed.main honest) in
      let here : (object_of image image.main).main_at ≡ image.entry - code_start image.main =
      ap (λ same. if same then image.entry - code_start image.main else 0)
      (eq-eqb image.main image.main refl) in
      let word = main_word_of image formed in
      omega (arith, object, here, word.above)

  -- what they are joined to, by what the image says of the program
  abbrev whole : ImageParts
  whole = record {
    main = image.main;
    entry = code_start image.main +
        option_map_or (λ (o : ObjectParts). o.main_at) (object_for objects image.main) 0;
    comps = joined_parts objects 0 (map face_of image.comps);
  }

  joined_whole : (joined : ImageParts) → IsJoined objects joined → joined ≡ whole
  joined_whole joined is =
      let head = are.each 0 is.head is.first in
      is.joined ∙ (λ i. record {
        main = head.main i;
        entry = code_start (head.main i) +
            option_map_or (λ (o : ObjectParts). o.main_at) (object_for objects (head.main i)) 0;
        comps = joined_parts objects 0 (head.faces i);
      })

  all_stand : StandsAt 0 image.comps
  all_stand i comp there =
      let same : i ≡ 0 + i = omega arith in subst (λ n. slice_get image.comps n ≡ Some comp) same there

  pub but_for : (joined : ImageParts) → IsWellFormed joined → IsJoined objects joined → IsButFor given image joined
  but_for joined well is =
      let same = joined_whole joined is in
      subst (IsButFor given image) (sym same) (record {
        formed = subst IsWellFormed same well;
        main = refl;
        entry = entry_so;
        seen = seen_from 0 image.comps all_stand;
        kept = λ c honest.
            let from : c ≡ 0 + c = omega arith in
            kept_from 0 image.comps all_stand c (subst (λ n. given n ≡ false) from honest);
      })

pub joins_but_for : JoinsButFor
joins_but_for program image joined given objects is formed well are joins =
    but_for given image formed (has_entries program image is) objects are joined well joins
