-- Parts are well formed exactly where their fields are good and they keep the rules on a whole image: what is read is
-- an image with these bytes, and what an image is written as is read as it.
use Rattle.sc_image.proofs.Common.{All, All-from_recursion, AllPairs-from_IsDistinct, AreBytesOf, BadImage, BadOrImage}
use Rattle.sc_image.proofs.Common.{BadOrBegins, BadPartIsBad, BeginWith, BeginWithImage, BytesBeginWithOne, Count}
use Rattle.sc_image.proofs.Common.{PartIsWhole, Read, Start, bytes_in_version, drop, fields_at, image_at, is_between}
use Rattle.sc_image.proofs.Common.{number_at, number_that}
use Rattle.sc_image.proofs.Common.{length-append, length-drop, read_comp, take, take-append-drop, take_all, take_prefix}
use Rattle.sc_image.proofs.Common.{Bool, BytesNameOneImage, CompPart, Decides, Decides-and, Decides-by_and}
use Rattle.sc_image.proofs.Common.{Decides-like, Decides-ltb, Decides-not, Err, ExportPart, FitsItsFields, ImageParts}
use Rattle.sc_image.proofs.Common.{ImportPart, IsComp, IsDistinct, IsDistinct-from_AllPairs}
use Rattle.sc_image.proofs.Common.{IsDistinct-from_count, IsEntry, IsEquivalence, IsImage, IsImport, IsSomeAnd}
use Rattle.sc_image.proofs.Common.{IsWellFormed, IsWord, List, None, Ok, Option, Result, Some, Whole, WrittenIsRead, []}
use Rattle.sc_image.proofs.Common.{all_by, ap, append-nil, are_distinct_by, arith, bytes_decides, code_in}
use Rattle.sc_image.proofs.Common.{code_start, codes, comps_keep, cond, distinct_count-from_IsDistinct, eq-eqb}
use Rattle.sc_image.proofs.Common.{eqb-true, exports_keep, false, false_from_ne_true, flags, get_or_from_slice_get}
use Rattle.sc_image.proofs.Common.{image_bytes, image_in, imports_keep, is_entry, is_importable, is_same_import}
use Rattle.sc_image.proofs.Common.{is_same_name, is_some, keeps_rules, latest_version, length, list_all, little_bytes}
use Rattle.sc_image.proofs.Common.{lit≤, map, most_flags, nat_lt, nat_tests, nil_from_length, not}
use Rattle.sc_image.proofs.Common.{not_from_Decides, option_map_or, parts_at, parts_bytes, read_cause}
use Rattle.sc_image.proofs.Common.{recursion_from_All, refl, same_from_decides, slice_get, slice_get_within, stretch}
use Rattle.sc_image.proofs.Common.{subst, suc, sym, true, unsigned_Decides, word_at, zero, ℕ, ◌&&◌, ◌*◌}
use Rattle.sc_image.proofs.Common.{◌++◌, ◌+◌, ◌-◌, ◌/◌, ◌<◌, ◌==◌, ◌^◌, ◌∙◌, ◌∷◌, ◌≡◌, ◌≤◌}
use Rattle.sc_fields.proofs.Compartments.{FitsImport}
use Rattle.sc_fields.proofs.Fields.{IsBytes, all_bytes, bytes_fit, bind_ok, good_ok}
use Rattle.sc_image.proofs.Words.{some_is}
use Rattle.sc_image.proofs.FileFields.{FitsExport, FitsComp, FitsParts, count_within, mark_field_of_images, parts_field}
use Rattle.sc_image.proofs.FileFields.{version_field}

fits : (image : ImageParts) (c : ℕ) (comp : CompPart) → IsComp image c comp → FitsItsFields comp
fits image c comp h = record {
  exports = omega (arith, h.few_exports);
  imports = omega (arith, h.few_imports);
  code = omega (arith, h.short_code);
  globals = omega (arith, h.short_globals);
}

pub comps_fit : (image : ImageParts) → IsWellFormed image → All FitsItsFields image.comps
comps_fit image h = all_by FitsItsFields _ (λ c comp e. fits image c comp (h.comps c comp e))

-- Parts are well formed exactly where their fields are good and they keep the rules on a whole image.

-- Distinct things.

-- a test of sameness is an equivalence
pub equivalence : {A : Type 0} (same : A → A → Bool) → ((a b : A) → Decides (same a b) (a ≡ b)) → IsEquivalence same
equivalence {A} same decides = record {
  refl = λ x. (decides x x).1 refl;
  symm = λ x y. same_from_decides _ _ (decides x y) (Decides-like _ sym sym (decides y x));
  congr = λ x y z is. ap (λ w. same w z) ((decides x y).0 is);
}

pub distinct_decides : {A : Type 0} (same : A → A → Bool) → ((a b : A) → Decides (same a b) (a ≡ b)) → (xs : List A) →
    Decides (are_distinct_by same xs) (IsDistinct xs)
distinct_decides same decides xs = (
  λ is. AllPairs-from_IsDistinct decides xs (IsDistinct-from_count (equivalence same decides) xs (eqb-true _ _ is)),
  λ h. eq-eqb _ _ (distinct_count-from_IsDistinct (equivalence same decides) xs
      (IsDistinct-from_AllPairs decides xs h)),
)

imports_decide : (a b : ImportPart) → Decides (is_same_import a b) (a ≡ b)
imports_decide a b =
    Decides-like _ (λ both. λ i. record { comp = both.0 i; index = both.1 i })
    (λ same. (ap (λ i. i.comp) same, ap (λ i. i.index) same))
    (Decides-and (a.comp == b.comp) _ (unsigned_Decides a.comp b.comp) (unsigned_Decides _ _))

-- Entries.

entry_by : (image : ImageParts) (c entry : ℕ) (whole : Bool) →
    is_some (cond whole (slice_get (code_in image c) ((entry - code_start c) / 4)) None) ≡ true →
    (entry - code_start c) / 4 < length (code_in image c)
entry_by image c entry true some = let word = some_is _ some in slice_get_within _ _ word.0 word.1
entry_by image c entry false some = let never = some in cc never

entry_is_short : (image : ImageParts) (c entry : ℕ) → c < 32 → 4 * length (code_in image c) ≤ stretch →
    is_entry image c entry ≡ true → entry < 2 ^ 32
unfolding word_at
entry_is_short image c entry low short is =
    let within = entry_by image c entry _ is in
    omega (arith, low, short, within)

-- The rules, as the tests decide them.

offered_decides : (index : ℕ) (found : Option CompPart) →
    Decides (option_map_or (λ (comp : CompPart). nat_lt index (length comp.exports)) found false)
    (IsSomeAnd found (λ comp. index < length comp.exports))
offered_decides index None = (λ is. let never = is in cc never, λ offered. absurd offered)
offered_decides index (Some comp) = Decides-ltb index (length comp.exports)

import_decides : (image : ImageParts) (c : ℕ) (import : ImportPart) →
    Decides (is_importable image c import) (IsImport image c import)
import_decides image c import =
    Decides-like _ (λ both. record { other = both.0; offered = both.1 }) (λ h. (h.other, h.offered))
    (Decides-and (not (import.comp == c)) _ (Decides-not _ (unsigned_Decides import.comp c)) (offered_decides _ _))

abbrev pub keeps : ImageParts → ℕ → CompPart → Bool
keeps image c comp = exports_keep image c comp.exports && imports_keep image c comp.imports

abbrev Rules : ImageParts → ℕ → CompPart → Type 0
Rules image c comp =
    (All (λ export. IsEntry image c export.entry) comp.exports ×
    (IsDistinct (map (λ export. export.name) comp.exports) × IsDistinct (map (λ export. export.entry) comp.exports))) ×
    (All (IsImport image c) comp.imports × IsDistinct comp.imports)

rules_decide : (image : ImageParts) (c : ℕ) (comp : CompPart) → Decides (keeps image c comp) (Rules image c comp)
rules_decide image c comp =
    let is_there = λ (export : ExportPart). is_entry image c export.entry in
    let names = map (λ (export : ExportPart). export.name) comp.exports in
    Decides-and (exports_keep image c comp.exports) _ (Decides-and (list_all is_there comp.exports) _
    (Decides-by_and is_there _ (list_all is_there) (λ export. (λ is. is, λ is. is)) refl (λ x xs. refl) comp.exports)
    (Decides-and (are_distinct_by is_same_name names) _ (distinct_decides is_same_name bytes_decides names)
    (distinct_decides ◌==◌ unsigned_Decides (map _ _)))) (Decides-and (list_all (is_importable image c) comp.imports) _
    (Decides-by_and _ _ (list_all (is_importable image c)) (import_decides image c) refl (λ x xs. refl) comp.imports)
    (distinct_decides is_same_import imports_decide comp.imports))

-- the rules of the compartments from number c on
abbrev RulesFrom : ImageParts → ℕ → List CompPart → Type 0
RulesFrom image c comps = (i n : ℕ) (comp : CompPart) → n ≡ c + i → slice_get comps i ≡ Some comp → Rules image n comp

first_and_later : (image : ImageParts) (c : ℕ) (first : CompPart) (comps : List CompPart) →
    Rules image c first × RulesFrom image (suc c) comps → RulesFrom image c (first ∷ comps)
first_and_later image c first comps h zero n comp place at =
    let number : c ≡ n = omega (arith, place) in
    let same : first ≡ comp = cc at in
    subst (Rules image n) same (subst (λ k. Rules image k first) number h.0)
first_and_later image c first comps h (suc i) n comp place at = h.1 i n comp (omega (arith, place)) at

comps_decide : (image : ImageParts) (c : ℕ) (comps : List CompPart) →
    Decides (comps_keep image c comps) (RulesFrom image c comps)
comps_decide image c [] = (λ is i n comp place at. let never : ◌≡◌ None _ = at in cc never, λ h. refl)
comps_decide image c (first ∷ comps) = Decides-like _ (first_and_later image c first comps)
    (λ h. (h 0 c first (omega arith) refl, λ i n comp place at. h (suc i) n comp (omega (arith, place)) at))
    (Decides-and (keeps image c first) _ (rules_decide image c first) (comps_decide image (suc c) comps))

whole_decides : (image : ImageParts) → Decides (keeps_rules image) (IsDistinct (map (λ comp. comp.name) image.comps) ×
    (IsEntry image image.main image.entry × RulesFrom image 0 image.comps))
whole_decides image =
    let names = map (λ (comp : CompPart). comp.name) image.comps in
    Decides-and (are_distinct_by is_same_name names) _ (distinct_decides is_same_name bytes_decides names)
    (Decides-and (is_entry image image.main image.entry) _ (λ is. is, λ is. is) (comps_decide image 0 image.comps))

-- A compartment.

comp_is : (image : ImageParts) (version comps c : ℕ) (comp : CompPart) → FitsComp version comps comp →
    Rules image c comp → IsComp image c comp
comp_is image version comps c comp fits rules = record {
  name = fits.name;
  no_environment = not_from_Decides _ (bytes_decides _ _) fits.no_environment;
  few_exports = fits.exports.few;
  exports = λ i d within. let export = All-from_recursion FitsExport _ fits.exports.each i d within in
      record { name = export.name; params = export.params; entry = rules.0.0 i d within };
  export_names = rules.0.1.0;
  export_entries = rules.0.1.1;
  few_imports = fits.imports.few;
  imports = rules.1.0;
  distinct_imports = rules.1.1;
  short_code = fits.code.short;
  words = All-from_recursion IsWord _ fits.code.each;
  short_globals = fits.globals.short;
  bytes = all_bytes _ fits.globals.bytes;
}

-- The whole.

pub comp_there : (version : ℕ) (image : ImageParts) (c : ℕ) (comp : CompPart) → FitsParts version image →
    slice_get image.comps c ≡ Some comp → FitsComp version (length image.comps) comp
comp_there version image c comp fits at =
    subst (FitsComp version _) (get_or_from_slice_get _ c comp comp at)
    (All-from_recursion (FitsComp version _) _ fits.comps c comp (slice_get_within _ c comp at))

pub whole_is : (version : ℕ) (image : ImageParts) → FitsParts version image → keeps_rules image ≡ true →
    IsWellFormed image
whole_is version image fits is =
    let rules = (whole_decides image).0 is in
    record {
      few_comps = fits.few;
      main = fits.main;
      entry = rules.1.0;
      comps = λ c comp at. comp_is image version (length image.comps) c comp
          (comp_there version image c comp fits at) (rules.1.1 c c comp (omega arith) at);
      names = rules.0;
    }

pub rules_are_kept : (image : ImageParts) → IsWellFormed image → keeps_rules image ≡ true
rules_are_kept image formed = (whole_decides image).1 (
  formed.names,
  (
    formed.entry,
    λ c n comp place at.
        let same : c ≡ n = omega (arith, place) in
        let h = formed.comps n comp (subst (λ k. slice_get image.comps k ≡ Some comp) same at) in (
          (λ i d within. (h.exports i d within).entry, (h.export_names, h.export_entries)),
          (h.imports, h.distinct_imports),
        ),
  ),
)

-- flags and heaps

has_no_heap : (comp : CompPart) → flags comp ≤ 3 → comp.heap ≡ false
has_no_heap comp low = grind (arith, nat_tests)

no_heap : (version : ℕ) (comp : CompPart) → version ≡ 1 → flags comp ≤ most_flags version → comp.heap ≡ false
no_heap version comp first low = has_no_heap comp (subst (λ v. flags comp ≤ most_flags v) first low)

pub flags_fit : (version : ℕ) (comp : CompPart) → (version ≡ 1 → comp.heap ≡ false) → flags comp ≤ most_flags version
flags_fit version comp plain = grind (arith, nat_tests)

-- in this version the image can be written
module _ (version : ℕ) (image : ImageParts) (formed : IsWellFormed image)
    (plain : version ≡ 1 → All (λ comp. comp.heap ≡ false) image.comps) where
  code_is_short : (c : ℕ) (found : Option CompPart) → slice_get image.comps c ≡ found →
      4 * length (code_in image c) ≤ stretch
  code_is_short c None at = rw at (lit≤ tt)
  code_is_short c (Some comp) at = rw at (formed.comps c comp at).short_code

  entry_fits : (c entry : ℕ) → c < length image.comps → is_entry image c entry ≡ true → entry < 2 ^ 32
  entry_fits c entry within is =
      entry_is_short image c entry (omega (arith, within, formed.few_comps)) (code_is_short c _ refl) is

  import_comp : (index c : ℕ) (found : Option CompPart) → slice_get image.comps c ≡ found →
      IsSomeAnd found (λ comp. index < length comp.exports) → (c < length image.comps) × (index < 2 ^ 16)
  import_comp index c None at is = absurd is
  import_comp index c (Some comp) at is = (
    slice_get_within _ c comp at,
    omega (arith, is, (formed.comps c comp at).few_exports),
  )

  import_fits : (c : ℕ) (import : ImportPart) → IsImport image c import → FitsImport (length image.comps) import
  import_fits c import h =
      let both = import_comp _ _ _ refl h.offered in
      record { comp = both.0; index = both.1 }

  comp_fits : (c : ℕ) (comp : CompPart) → slice_get image.comps c ≡ Some comp →
      FitsComp version (length image.comps) comp
  comp_fits c comp at =
      let h = formed.comps c comp at in
      record {
        name = h.name;
        no_environment = false_from_ne_true _ (λ same. h.no_environment ((bytes_decides _ _).0 same));
        flags = flags_fit version comp (λ first. subst (λ x. x.heap ≡ false) (get_or_from_slice_get _ c comp comp at)
            (plain first c comp (slice_get_within _ c comp at)));
        exports = record {
          few = h.few_exports;
          each = recursion_from_All FitsExport _ (λ i d within. let e = h.exports i d within in record {
            name = e.name;
            params = e.params;
            entry = entry_fits c _ (slice_get_within _ c comp at) e.entry;
          });
        };
        imports = record {
          few = h.few_imports;
          each = recursion_from_All _ _ (λ i d within. import_fits c _ (h.imports i d within));
        };
        code = record { short = h.short_code; each = recursion_from_All IsWord _ h.words };
        globals = record { short = h.short_globals; bytes = bytes_fit _ h.bytes };
      }

  pub parts_fit : FitsParts version image
  parts_fit = record {
    some = omega (arith, formed.main);
    few = formed.few_comps;
    main = formed.main;
    entry = entry_fits image.main _ formed.main formed.entry;
    comps = recursion_from_All _ _ (all_by _ _ comp_fits);
  }

-- What is read is an image with these bytes, and what an image is written as is read as it.

-- the bytes are those of the image in a version of the format, and the rest
pub record Begins (image : ImageParts) (bytes rest : List ℕ) : Type 0 where
  pub version : ℕ
  pub some : 1 ≤ version
  pub known : version ≤ latest_version
  pub without_heap : version ≡ 1 → All (λ comp. comp.heap ≡ false) image.comps
  pub are : bytes ≡ bytes_in_version version image ++ rest

-- what is read at the beginning is well formed, and the bytes begin with its bytes
pub begins : (bytes : List ℕ) (image : ImageParts) (rest : List ℕ) → IsBytes bytes →
    image_at bytes ≡ Ok (image, rest) → IsWellFormed image × Begins image bytes rest
unfolding image_at
begins bytes image rest fits e =
    let m = bind_ok _ _ (image, rest) e in
    let mark = mark_field_of_images.takes bytes m.0.0 m.0.1 fits m.1 in
    let v = bind_ok _ _ (image, rest) m.2 in
    let version = version_field.takes m.0.1 v.0.0 v.0.1 mark.0.rest_fits v.1 in
    let a = bind_ok _ _ (image, rest) v.2 in
    let parts = (parts_field v.0.0).takes v.0.1 a.0.0 a.0.1 version.0.rest_fits a.1 in
    let g = good_ok Whole _ a.0 (image, rest) a.2 in
    let after = version.0.parts ∙ ap (λ more. little_bytes 2 v.0.0 ++ more) parts.0.parts in
    let all = mark.0.parts ∙ ap (λ more. m.0.0 ++ more) after ∙
    ap (λ text. text ++ (little_bytes 2 v.0.0 ++ (parts_bytes a.0.0 ++ a.0.1))) mark.1 in
    subst (λ (x : ImageParts × List ℕ). IsWellFormed x.0 × Begins x.0 bytes x.1) g.1 (
      whole_is v.0.0 a.0.0 parts.1 g.0,
      record {
        version = v.0.0;
        some = version.1.0;
        known = version.1.1;
        without_heap = λ first. all_by _ _ (λ c comp at.
            no_heap v.0.0 comp first (comp_there v.0.0 a.0.0 c comp parts.1 at).flags);
        are = all;
      },
    )

-- what is read is well formed, and these are its bytes
pub is_read : (bytes : List ℕ) (image : ImageParts) → IsBytes bytes → image_in bytes ≡ Ok image →
    IsWellFormed image × AreBytesOf image bytes
unfolding image_in
is_read bytes image fits e =
    let a = bind_ok _ _ image e in
    let g = good_ok Whole _ a.0.0 image a.2 in
    let none = nil_from_length a.0.1 (eqb-true _ _ g.0) in
    let h = begins bytes a.0.0 a.0.1 fits a.1 in
    subst (λ x. IsWellFormed x × AreBytesOf x bytes) g.1 (
      h.0,
      record {
        version = h.1.version;
        some = h.1.some;
        known = h.1.known;
        without_heap = h.1.without_heap;
        are = h.1.are ∙ ap (λ rest. bytes_in_version h.1.version a.0.0 ++ rest) none ∙ append-nil _;
      },
    )

-- what is read at the beginning ends where the rest begins
pub begin_with : (bytes : List ℕ) (image : ImageParts) (rest : List ℕ) → IsBytes bytes →
    image_at bytes ≡ Ok (image, rest) → BeginWith image (length bytes - length rest) bytes
begin_with bytes image rest fits e =
    let h = (begins bytes image rest fits e).1 in
    let text = bytes_in_version h.version image in
    let long : length bytes ≡ length text + length rest = ap length h.are ∙ length-append text rest in
    let place : length bytes - length rest ≡ length text = omega (arith, long) in
    record {
      within = omega arith;
      are = record {
        version = h.version;
        some = h.some;
        known = h.known;
        without_heap = h.without_heap;
        are = ap (λ n. take n bytes) place ∙ ap (take (length text)) h.are ∙ take_prefix text rest;
      };
    }

pub rest_is_short : (bytes : List ℕ) (image : ImageParts) (rest : List ℕ) → IsBytes bytes →
    image_at bytes ≡ Ok (image, rest) → length rest ≤ length bytes
rest_is_short bytes image rest fits e =
    let h = (begins bytes image rest fits e).1 in
    let text = bytes_in_version h.version image in
    let long : length bytes ≡ length text + length rest = ap length h.are ∙ length-append text rest in
    omega (arith, long)

-- an image has at most 32 compartments, whatever the bytes are
abbrev done : {A : Type 0} → A → Result A BadImage
done x = Ok x

done_same : {A : Type 0} (x y : A) → done x ≡ done y → x ≡ y
done_same x y e = cc

fields_are : {A : Type 0} (field : List ℕ → Read BadImage A) (count : ℕ) (bytes : List ℕ) (xs : List A)
    (rest : List ℕ) → fields_at field count bytes ≡ Ok (xs, rest) → length xs ≡ count
unfolding fields_at
fields_are {A} field zero bytes xs rest e = sym (ap (λ (p : List A × List ℕ). length p.0) (done_same _ _ e))
fields_are {A} field (suc count) bytes xs rest e =
    let first = bind_ok {A = A × List ℕ} (field bytes) _ (xs, rest) e in
    let others = bind_ok {A = List A × List ℕ} (fields_at field count first.0.1) _ (xs, rest) first.2 in
    sym (ap (λ (p : List A × List ℕ). length p.0) (done_same _ _ others.2)) ∙
    ap suc (fields_are field count first.0.1 others.0.0 others.0.1 others.1)

pub parts_are_few : (version : ℕ) (bytes : List ℕ) (parts : ImageParts) (rest : List ℕ) →
    parts_at version bytes ≡ Ok (parts, rest) → length parts.comps ≤ 32
unfolding parts_at
parts_are_few version bytes parts rest e =
    let count = bind_ok (number_that (is_between 1 32) Count 1 bytes) _ (parts, rest) e in
    let number = bind_ok (number_at Count 1 bytes) _ count.0 count.1 in
    let good = good_ok Count (is_between 1 32 number.0.0) number.0 count.0 number.2 in
    let main = bind_ok (number_that (λ c. nat_lt c count.0.0) Start 1 count.0.1) _ (parts, rest) count.2 in
    let entry = bind_ok (number_at Start 4 main.0.1) _ (parts, rest) main.2 in
    let comps = bind_ok (fields_at (read_comp version count.0.0) count.0.0 entry.0.1) _ (parts, rest) entry.2 in
    let within = count_within number.0.0 good.0 in
    let same = ap (λ (p : ℕ × List ℕ). p.0) good.1 in
    let many = fields_are (read_comp version count.0.0) count.0.0 entry.0.1 comps.0.0 comps.0.1 comps.1 in
    let made = ap (λ (p : ImageParts × List ℕ). length p.0.comps) (done_same _ _ comps.2) in
    omega (arith, within.1, same, many, made)

-- bytes that begin with those of an image are read as it and the rest
pub is_begun_again : (image : ImageParts) (bytes rest : List ℕ) → IsWellFormed image → AreBytesOf image bytes →
    image_at (bytes ++ rest) ≡ Ok (image, rest)
unfolding image_at
is_begun_again image bytes rest formed are =
    let mark = mark_field_of_images.again (codes "SCIM")
    (little_bytes 2 are.version ++ (parts_bytes image ++ rest)) refl in
    let version = version_field.again are.version (parts_bytes image ++ rest) (are.some, are.known) in
    let parts = (parts_field are.version).again image rest (parts_fit are.version image formed are.without_heap) in
    ap (λ text. image_at (text ++ rest)) are.are ∙ rw (mark, version, parts, rules_are_kept image formed) refl

-- bytes of an image are read as it
pub is_read_again : (image : ImageParts) (bytes : List ℕ) → IsWellFormed image → AreBytesOf image bytes →
    image_in bytes ≡ Ok image
unfolding image_in
is_read_again image bytes formed are =
    let part = ap image_at (sym (append-nil bytes)) ∙ is_begun_again image bytes [] formed are in
    rw part refl

-- what is written of an image are its bytes
pub are_written : (image : ImageParts) → AreBytesOf image (image_bytes image)
are_written image = record {
  version = latest_version;
  some = lit≤ tt;
  known = lit≤ tt;
  without_heap = λ first. let never = first in cc never;
  are = refl;
}

pub written_is_read : WrittenIsRead
written_is_read image formed = is_read_again image (image_bytes image) formed (are_written image)

pub one_image_each : BytesNameOneImage
one_image_each bytes one other formed also are same =
    let p = sym (is_read_again one bytes formed are) ∙ is_read_again other bytes also same in cc p

no_cause : (bytes : List ℕ) → IsBytes bytes → (read : Result ImageParts BadImage) → image_in bytes ≡ read →
    read_cause read ≡ None → IsImage bytes
no_cause bytes fits (Ok image) e none = let h = is_read bytes image fits e in
    record { image = image; well_formed = h.0; bytes_are = h.1 }
no_cause bytes fits (Err cause) e none = let never = none in cc never

pub bad_or_image_each : BadOrImage
bad_or_image_each bytes all = (
  λ none. no_cause bytes (bytes_fit bytes all) (image_in bytes) refl none,
  λ is. ap read_cause (is_read_again is.image bytes is.well_formed is.bytes_are),
)

-- The beginning of bytes.

-- what is read at the beginning, and the rest
begun : (image : ImageParts) (place : ℕ) (bytes : List ℕ) → IsWellFormed image → BeginWith image place bytes →
    image_at bytes ≡ Ok (image, drop place bytes)
begun image place bytes formed begin = ap image_at (sym (take-append-drop place bytes)) ∙
    is_begun_again image (take place bytes) (drop place bytes) formed begin.are

pub begin_with_one : BytesBeginWithOne
begin_with_one bytes one other place end formed also begin ends =
    let same = done_same _ _ (sym (begun one place bytes formed begin) ∙ begun other end bytes also ends) in
    let rests : length (drop place bytes) ≡ length (drop end bytes) =
    ap (λ (p : ImageParts × List ℕ). length p.1) same in (
      ap (λ (p : ImageParts × List ℕ). p.0) same,
      omega (arith, rests, length-drop place bytes, length-drop end bytes, begin.within, ends.within),
    )

no_cause_part : (bytes : List ℕ) → IsBytes bytes → (read : Read BadImage ImageParts) → image_at bytes ≡ read →
    read_cause read ≡ None → BeginWithImage bytes
no_cause_part bytes fits (Ok read) e none = record {
  image = read.0;
  place = length bytes - length read.1;
  well_formed = (begins bytes read.0 read.1 fits e).0;
  begin = begin_with bytes read.0 read.1 fits e;
}
no_cause_part bytes fits (Err cause) e none = let never = none in cc never

pub bad_or_begins_each : BadOrBegins
bad_or_begins_each bytes all = (
  λ none. no_cause_part bytes (bytes_fit bytes all) (image_at bytes) refl none,
  λ is. ap read_cause (begun is.image is.place bytes is.well_formed is.begin),
)

pub part_is_whole_each : PartIsWhole
part_is_whole_each bytes image place formed begin whole = is_read_again image bytes formed
    (subst (AreBytesOf image) (take_all place bytes (omega (arith, whole))) begin.are)

bad_by : (bytes : List ℕ) (cause : BadImage) (read : Read BadImage ImageParts) → image_at bytes ≡ read →
    read_cause read ≡ Some cause → image_in bytes ≡ Err cause
unfolding image_in
bad_by bytes cause (Ok read) e is = let never = is in cc never
bad_by bytes cause (Err other) e is = let same : other ≡ cause = cc is in rw e (ap Err same)

pub bad_part_is_bad_each : BadPartIsBad
bad_part_is_bad_each bytes cause is = ap read_cause (bad_by bytes cause (image_at bytes) refl is)
