-- The objects of an image are objects.
use Rattle.sc_object.proofs.Common.{ObjectParts, ap₂, is_some, is_there, length-map, most_globals, option_map, stretch}
use Rattle.sc_object.proofs.Common.{AllByRecursion, Bool, CompPart, ExportPart, Face, FaceExport, HasEntries}
use Rattle.sc_object.proofs.Common.{ImageParts, ImportPart, IsObject, IsWellFormed, List, None, Option, Some, []}
use Rattle.sc_object.proofs.Common.{and_from, and_parts, ap, are_distinct_by, arith, code_in, code_start, comps_keep}
use Rattle.sc_object.proofs.Common.{cond, eq-eqb, eqb-true, exports_keep, face_export, face_keeps, face_of, faces_keep}
use Rattle.sc_object.proofs.Common.{false, if◌then◌else◌, image_keeps_rules, imports_keep, initial_globals, is_entry}
use Rattle.sc_object.proofs.Common.{is_importable, is_offered, is_same_import, is_same_name, is_start, keeps_rules}
use Rattle.sc_object.proofs.Common.{le-leb, leb-true, length, list_all, lt-ltb, map, nat_eq, nat_le, nat_lt, not}
use Rattle.sc_object.proofs.Common.{object_of, option_map_or, own_exports, refl, slice_get, slice_get-map}
use Rattle.sc_object.proofs.Common.{slice_get_within, subst, suc, sym, true, with_entries, word_at, zero, ℕ, ◌%◌, ◌&&◌}
use Rattle.sc_object.proofs.Common.{◌*◌, ◌+◌, ◌-◌, ◌/◌, ◌<◌, ◌==◌, ◌∙◌, ◌∷◌, ◌≡◌, ◌≤◌}
use Rattle.sc_fields.proofs.Compartments.{FitsCode, FitsGlobals}
use Rattle.sc_image.proofs.Whole.{comp_there, parts_fit, rules_are_kept}
use Rattle.sc_image.proofs.Words.{some_is}
use Rattle.sc_image.proofs.FileFields.{FitsComp, FitsExport as FitsImageExport, FitsParts as FitsImageParts}
use Rattle.sc_object.proofs.Fields.{FitsExport, FitsFace, FitsParts, fits_again}

-- Fields.

exports_fit : (exports : List ExportPart) → AllByRecursion FitsImageExport exports →
    AllByRecursion FitsExport (map face_export exports)
exports_fit [] each = tt
exports_fit (export ∷ exports) each =
    (record { name = each.0.name; params = each.0.params }, exports_fit exports each.1)

face_fits : (comps : ℕ) (comp : CompPart) → FitsComp 2 comps comp → FitsFace comps (face_of comp)
face_fits comps comp fits = record {
  name = fits.name;
  no_environment = fits.no_environment;
  exports = record {
    few = subst (λ n. n ≤ 4096) (sym (length-map comp.exports face_export)) fits.exports.few;
    each = exports_fit comp.exports fits.exports.each;
  };
  imports = fits.imports;
}

faces_fit : (n : ℕ) (comps : List CompPart) → AllByRecursion (FitsComp 2 n) comps →
    AllByRecursion (FitsFace n) (map face_of comps)
faces_fit n [] each = tt
faces_fit n (comp ∷ comps) each = (face_fits n comp each.0, faces_fit n comps each.1)

-- Rules.

export_names : (exports : List ExportPart) →
    map (λ (export : FaceExport). export.name) (map face_export exports) ≡
    map (λ (export : ExportPart). export.name) exports
export_names [] = refl
export_names (export ∷ exports) = ap (λ names. export.name ∷ names) (export_names exports)

face_names : (comps : List CompPart) →
    map (λ (face : Face). face.name) (map face_of comps) ≡ map (λ (comp : CompPart). comp.name) comps
face_names [] = refl
face_names (comp ∷ comps) = ap (λ names. comp.name ∷ names) (face_names comps)

module _ (image : ImageParts) where
  abbrev faces : List Face
  faces = map face_of image.comps

  abbrev offers : (index : ℕ) → Option CompPart → Bool
  offers index found = option_map_or (λ (comp : CompPart). nat_lt index (length comp.exports)) found false

  abbrev face_offers : (index : ℕ) → Option Face → Bool
  face_offers index found = option_map_or (λ (face : Face). nat_lt index (length face.exports)) found false

  offers_same : (index : ℕ) (found : Option CompPart) →
      face_offers index (option_map face_of found) ≡ offers index found
  offers_same index None = refl
  offers_same index (Some comp) = ap (λ n. nat_lt index n) (length-map comp.exports face_export)

  pub offered_same : (c : ℕ) (import : ImportPart) → is_offered faces c import ≡ is_importable image c import
  offered_same c import =
      ap (λ offered. not (import.comp == c) && offered)
      (ap (face_offers import.index) (slice_get-map face_of image.comps import.comp) ∙
      offers_same import.index (slice_get image.comps import.comp))

  all_offered : (c : ℕ) (imports : List ImportPart) →
      list_all (is_offered faces c) imports ≡ list_all (is_importable image c) imports
  all_offered c [] = refl
  all_offered c (import ∷ imports) = ap₂ (λ a b. a && b) (offered_same c import) (all_offered c imports)

  abbrev keeps : ℕ → CompPart → Bool
  keeps c comp = exports_keep image c comp.exports && imports_keep image c comp.imports

  abbrev names_distinct : List ExportPart → Bool
  names_distinct exports = are_distinct_by is_same_name (map (λ (export : ExportPart). export.name) exports)

  abbrev entries_distinct : List ExportPart → Bool
  entries_distinct exports = are_distinct_by ◌==◌ (map (λ (export : ExportPart). export.entry) exports)

  abbrev are_entries : ℕ → List ExportPart → Bool
  are_entries c exports = list_all (λ (export : ExportPart). is_entry image c export.entry) exports

  -- what a compartment that keeps the rules of an image keeps
  record Kept (c : ℕ) (comp : CompPart) : Type 0 where
    entries : are_entries c comp.exports ≡ true
    names : names_distinct comp.exports ≡ true
    offered : list_all (is_importable image c) comp.imports ≡ true
    imports : are_distinct_by is_same_import comp.imports ≡ true

  kept_of : (c : ℕ) (comp : CompPart) → keeps c comp ≡ true → Kept c comp
  kept_of c comp is =
      let both = and_parts (exports_keep image c comp.exports) (imports_keep image c comp.imports) is in
      let exports = and_parts (are_entries c comp.exports)
      (names_distinct comp.exports && entries_distinct comp.exports) both.0 in
      let names = and_parts (names_distinct comp.exports) (entries_distinct comp.exports) exports.1 in
      let imports = and_parts (list_all (is_importable image c) comp.imports) _ both.1 in
      record { entries = exports.0; names = names.0; offered = imports.0; imports = imports.1 }

  face_keeps_so : (c : ℕ) (comp : CompPart) → Kept c comp → face_keeps faces c (face_of comp) ≡ true
  face_keeps_so c comp kept =
      and_from (are_distinct_by is_same_name (map (λ (e : FaceExport). e.name) (map face_export comp.exports))) _
      (ap (are_distinct_by is_same_name) (export_names comp.exports) ∙ kept.names)
      (and_from (list_all (is_offered faces c) comp.imports) _ (all_offered c comp.imports ∙ kept.offered) kept.imports)

  faces_keep_so : (c : ℕ) (comps : List CompPart) → comps_keep image c comps ≡ true →
      faces_keep faces c (map face_of comps) ≡ true
  faces_keep_so c [] is = refl
  faces_keep_so c (comp ∷ comps) is =
      let both = and_parts (keeps c comp) (comps_keep image (suc c) comps) is in
      and_from (face_keeps faces c (face_of comp)) _ (face_keeps_so c comp (kept_of c comp both.0))
      (faces_keep_so (suc c) comps both.1)

  kept_at : (k c i : ℕ) (comps : List CompPart) (comp : CompPart) → comps_keep image k comps ≡ true → c ≡ k + i →
      slice_get comps i ≡ Some comp → Kept c comp
  kept_at k c i [] comp is number there = absurd cc
  kept_at k c zero (first ∷ comps) comp is number there =
      let here : first ≡ comp = cc there in
      let same : k ≡ c = omega (arith, number) in
      let both = and_parts (keeps k first) (comps_keep image (suc k) comps) is in
      subst (λ n. Kept n comp) same (subst (Kept k) here (kept_of k first both.0))
  kept_at k c (suc i) (first ∷ comps) comp is number there =
      let both = and_parts (keeps k first) (comps_keep image (suc k) comps) is in
      kept_at (suc k) c i comps comp both.1 (omega (arith, number)) there

  -- An entry is a word of code.
  pub record Word (c entry : ℕ) : Type 0 where
    pub whole : entry % 4 ≡ 0
    pub above : code_start c ≤ entry
    pub within : (entry - code_start c) / 4 < length (code_in image c)

  pub word_of_entry : (c entry : ℕ) → is_entry image c entry ≡ true → Word c entry
  unfolding word_at
  word_of_entry c entry is = by (nat_eq (entry % 4) 0) (nat_le (code_start c) entry) refl refl is
    where
      by : (whole above : Bool) → nat_eq (entry % 4) 0 ≡ whole → nat_le (code_start c) entry ≡ above →
          is_some (cond (whole && above) (slice_get (code_in image c) ((entry - code_start c) / 4)) None) ≡ true →
          Word c entry
      by true true w a some =
          let word = some_is _ some in
          record {
            whole = eqb-true (entry % 4) 0 w;
            above = leb-true (code_start c) entry a;
            within = slice_get_within _ _ word.0 word.1;
          }
      by true false w a some = absurd (cc some)
      by false above w a some = absurd (cc some)

  entries_within : (c k : ℕ) (exports : List FaceExport) → are_entries c (with_entries c k exports) ≡ true →
      k ≤ length (code_in image c) → k + length exports ≤ length (code_in image c)
  entries_within c k [] is low = omega (arith, low)
  entries_within c k (export ∷ exports) is low =
      let entry = code_start c + 4 * k in
      let both = and_parts (is_entry image c entry) (are_entries c (with_entries c (suc k) exports)) is in
      let word = word_of_entry c entry both.0 in
      let place : k < length (code_in image c) = omega (arith, word.within) in
      let later = entries_within c (suc k) exports both.1 (omega (arith, place)) in
      omega (arith, later)

pub main_word_of : (image : ImageParts) → IsWellFormed image → Word image image.main image.entry
main_word_of image formed =
    let distinct = are_distinct_by is_same_name (map (λ (comp : CompPart). comp.name) image.comps) in
    let rules = and_parts distinct _ (rules_are_kept image formed) in
    word_of_entry image image.main image.entry (and_parts (is_entry image image.main image.entry) _ rules.1).0

module _ (image : ImageParts) where
  -- the object of compartment c
  module _ (formed : IsWellFormed image) (entries : HasEntries image) (c : ℕ) (comp : CompPart)
      (there : slice_get image.comps c ≡ Some comp) where
    rules : image_keeps_rules image ≡ true
    rules = rules_are_kept image formed

    abbrev distinct : Bool
    distinct = are_distinct_by is_same_name (map (λ (comp : CompPart). comp.name) image.comps)

    main_rules : (is_entry image image.main image.entry && comps_keep image 0 image.comps) ≡ true
    main_rules = (and_parts distinct _ rules).1

    main_word : Word image image.main image.entry
    main_word = main_word_of image formed

    all_keep : comps_keep image 0 image.comps ≡ true
    all_keep = (and_parts (is_entry image image.main image.entry) _ main_rules).1

    code_so : code_in image c ≡ comp.code
    code_so = ap (λ found. option_map_or (λ (comp : CompPart). comp.code) found []) there

    globals_so : initial_globals image c ≡ comp.globals
    globals_so = ap (λ found. option_map_or (λ (comp : CompPart). comp.globals) found []) there

    exports_count : own_exports (object_of image c) ≡ length comp.exports
    exports_count =
        ap (λ found. option_map_or (λ (face : Face). length face.exports) found 0)
        (slice_get-map face_of image.comps c ∙ ap (option_map face_of) there) ∙ length-map comp.exports face_export

    words_enough : length comp.exports ≤ length (code_in image c)
    words_enough =
        let kept = kept_at image 0 c c image.comps comp all_keep (omega arith) there in
        let so = subst (λ exports. are_entries image c exports ≡ true) (entries c comp there) kept.entries in
        let within = entries_within image c 0 (map face_export comp.exports) so (omega arith) in
        omega (arith, within, length-map comp.exports face_export)

    object_rules : keeps_rules (object_of image c) ≡ true
    object_rules =
        and_from (are_distinct_by is_same_name (map (λ (face : Face). face.name) (faces image))) _
        (ap (are_distinct_by is_same_name) (face_names image.comps) ∙ (and_parts distinct _ rules).0)
        (and_from (faces_keep (faces image) 0 (faces image)) _ (faces_keep_so image 0 image.comps all_keep)
        (le-leb _ _ (omega (arith, exports_count, words_enough))))

    start_so : is_start (image.main == c) (length (code_in image c)) (object_of image c).main_at ≡ true
    start_so = by (image.main == c) refl
      where
        by : (is_main : Bool) → (image.main == c) ≡ is_main →
            is_start is_main (length (code_in image c)) (if is_main then image.entry - code_start c else 0) ≡ true
        by true same =
            let word = subst (λ n. Word image n image.entry) (eqb-true image.main c same) main_word in
            and_from ((image.entry - code_start c) % 4 == 0) _
            (eq-eqb _ 0 (omega (arith, word.whole, word.above))) (lt-ltb _ _ word.within)
        by false same = refl

    image_fits : FitsImageParts 2 image
    image_fits = parts_fit 2 image formed (λ never. cc never)

    comp_fits : FitsComp 2 (length image.comps) comp
    comp_fits = comp_there 2 image c comp image_fits there

    count : length (faces image) ≡ length image.comps
    count = length-map image.comps face_of

    object_parts : FitsParts (object_of image c)
    object_parts = record {
      some = omega (arith, count, image_fits.some);
      few = omega (arith, count, image_fits.few);
      main = omega (arith, count, image_fits.main);
      own = omega (arith, count, slice_get_within image.comps c comp there);
      faces = subst (λ n. AllByRecursion (FitsFace n) (faces image)) (sym count)
          (faces_fit (length image.comps) image.comps image_fits.comps);
      code = subst (FitsCode stretch) (sym code_so) comp_fits.code;
      start = start_so;
      globals = subst (FitsGlobals most_globals) (sym globals_so) comp_fits.globals;
    }

    pub is_object : IsObject (object_of image c)
    is_object = fits_again (object_of image c) object_parts object_rules

-- so is each, by its number
pub of_image : (image : ImageParts) → IsWellFormed image → HasEntries image → (c : ℕ) → c < length image.comps →
    (object : ObjectParts) → object ≡ object_of image c → IsObject object
of_image image formed entries c low object is =
    let comp = is_there image.comps c low in
    subst IsObject (sym is) (is_object image formed entries c comp.0 comp.1)
