-- Joining the objects of an image gives the image.
use Rattle.sc_object.proofs.Common.{ap₂, false, AreObjectsOf, CompPart, HasEntries, ImageParts, IsJoined, IsWellFormed}
use Rattle.sc_object.proofs.Common.{LinkIsCompile, List, None, ObjectParts, Some, [], ap, arith, code_start, eq-eqb}
use Rattle.sc_object.proofs.Common.{face_of, if◌then◌else◌, join_as, join_fault, joined_part, joined_parts, length}
use Rattle.sc_object.proofs.Common.{length-map, map, missing_from, object_for, object_of, option_map_or, refl}
use Rattle.sc_object.proofs.Common.{slice_get, slice_get_within, subst, suc, sym, ℕ, ◌+◌, ◌-◌, ◌<◌, ◌∙◌, ◌∷◌, ◌≡◌}
use Rattle.sc_object.proofs.Found.{OfComp, has_it, none_differs, none_missing, none_twice, object_found}
use Rattle.sc_object.proofs.Faults.{no_fault}
use Rattle.sc_object.proofs.Programs.{has_entries}
use Rattle.sc_object.proofs.Alike.{SaysSame}
use Rattle.sc_object.proofs.Splitting.{main_word_of, of_image}

module _ (image : ImageParts) (formed : IsWellFormed image) (entries : HasEntries image) (objects : List ObjectParts)
    (are : AreObjectsOf image objects) where
  of_comp : (c : ℕ) → c < length image.comps → OfComp objects c
  of_comp c low =
      let of = are.all c low in
      record { place = of.0; object = of.1; there = of.2; own = of.3 }

  only : (c i : ℕ) (object : ObjectParts) → slice_get objects i ≡ Some object → object.own ≡ c →
      object ≡ object_of image c
  only c i object there own = subst (λ n. object ≡ object_of image n) own (are.each i object there).1

  found : (c : ℕ) → c < length image.comps → object_for objects c ≡ Some (object_of image c)
  found c low = object_found objects c (object_of image c) (only c) (of_comp c low)

  part_so : (c : ℕ) (comp : CompPart) → slice_get image.comps c ≡ Some comp →
      joined_part c (face_of comp) (object_for objects c) ≡ comp
  part_so c comp there =
      let object = found c (slice_get_within image.comps c comp there) in
      let heap : option_map_or (λ (o : ObjectParts). o.heap) (object_for objects c) false ≡ comp.heap =
      ap (λ found. option_map_or (λ (o : ObjectParts). o.heap) found false) object ∙
      ap (λ found. option_map_or (λ (comp : CompPart). comp.heap) found false) there in
      let code : option_map_or (λ (o : ObjectParts). o.code) (object_for objects c) [] ≡ comp.code =
      ap (λ found. option_map_or (λ (o : ObjectParts). o.code) found []) object ∙
      ap (λ found. option_map_or (λ (comp : CompPart). comp.code) found []) there in
      let globals : option_map_or (λ (o : ObjectParts). o.globals) (object_for objects c) [] ≡ comp.globals =
      ap (λ found. option_map_or (λ (o : ObjectParts). o.globals) found []) object ∙
      ap (λ found. option_map_or (λ (comp : CompPart). comp.globals) found []) there in
      let exports = sym (entries c comp there) in
      λ i. record comp { heap = heap i; exports = exports i; code = code i; globals = globals i }

  parts_from : (c : ℕ) (comps : List CompPart) → ((i : ℕ) (comp : CompPart) → slice_get comps i ≡ Some comp →
      slice_get image.comps (c + i) ≡ Some comp) → joined_parts objects c (map face_of comps) ≡ comps
  parts_from c [] at = refl
  parts_from c (comp ∷ comps) at =
      let here : c + 0 ≡ c = omega arith in
      let first = part_so c comp (subst (λ n. slice_get image.comps n ≡ Some comp) here (at 0 comp refl)) in
      let later = parts_from (suc c) comps (λ i other there.
      let next : c + suc i ≡ suc c + i = omega arith in
      subst (λ n. slice_get image.comps n ≡ Some other) next (at (suc i) other there)) in
      ap₂ (λ x xs. x ∷ xs) first later

  entry_so : code_start image.main +
      option_map_or (λ (o : ObjectParts). o.main_at) (object_for objects image.main) 0 ≡ image.entry
  entry_so =
      let object = ap (λ found. option_map_or (λ (o : ObjectParts). o.main_at) found 0)
      (found image.main formed.main) in
      let here : (object_of image image.main).main_at ≡ image.entry - code_start image.main =
      ap (λ same. if same then image.entry - code_start image.main else 0)
      (eq-eqb image.main image.main refl) in
      let word = main_word_of image formed in
      omega (arith, object, here, word.above)

  -- by what any of them says of the program
  joined_as : (head : ObjectParts) (c : ℕ) → head ≡ object_of image c → join_as head objects ≡ image
  joined_as head c is =
      let comps = parts_from 0 image.comps (λ i comp there.
      let same : i ≡ 0 + i = omega arith in subst (λ n. slice_get image.comps n ≡ Some comp) same there) in
      let whole : join_as (object_of image c) objects ≡ image =
      λ i. record { main = image.main; entry = entry_so i; comps = comps i } in
      ap (λ head. join_as head objects) is ∙ whole

  pub joined_is : (joined : ImageParts) → IsJoined objects joined → joined ≡ image
  joined_is joined is =
      is.joined ∙ joined_as is.head is.head.own (are.each 0 is.head is.first).1

  says : (head : ObjectParts) → slice_get objects 0 ≡ Some head → (k : ℕ) (object : ObjectParts) →
      slice_get objects k ≡ Some object → SaysSame head object
  says head first k object there =
      let h = (are.each 0 head first).1 in
      let o = (are.each k object there).1 in
      record {
        main = ap (λ (x : ObjectParts). x.main) h ∙ sym (ap (λ (x : ObjectParts). x.main) o);
        faces = ap (λ (x : ObjectParts). x.faces) h ∙ sym (ap (λ (x : ObjectParts). x.faces) o);
      }

  all_here : (head : ObjectParts) → slice_get objects 0 ≡ Some head →
      missing_from objects 0 (length head.faces) ≡ None
  all_here head first =
      let count = ap (λ (x : ObjectParts). length x.faces) (are.each 0 head first).1 ∙ length-map image.comps face_of in
      none_missing objects 0 (length head.faces) (λ k low high.
      let of = of_comp k (omega (arith, low, count)) in has_it objects k of.place of.object of.there of.own)

links : (image : ImageParts) (objects : List ObjectParts) → IsWellFormed image → HasEntries image →
    AreObjectsOf image objects → join_fault objects ≡ None
links image [] formed entries are = refl
links image (head ∷ later) formed entries are =
    no_fault head later
    (none_differs head 0 (head ∷ later) (says image formed entries (head ∷ later) are head refl))
    (none_twice [] 0 (head ∷ later) are.once)
    (all_here image formed entries (head ∷ later) are head refl)

pub link_is_compile : LinkIsCompile
link_is_compile = record {
  object = λ program image c is formed low. of_image image formed (has_entries program image is) c low _ refl;
  link = λ program image objects is formed are. links image objects formed (has_entries program image is) are;
  image = λ program image joined objects is formed are joins. joined_is image formed (has_entries program image is)
      objects are joined joins;
}
