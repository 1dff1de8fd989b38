-- The fields of an object: what is read is what is written, and what is written is read again.
use Rattle.sc_object.proofs.Common.{All, FaceFits, mark_at, if_good, ◌>>=◌, All-from_recursion, AllByRecursion, Bool}
use Rattle.sc_object.proofs.Common.{Face, FaceExport, Faces, Code, Globals, Heap, IsFace, IsObject, IsWord, List, Mark}
use Rattle.sc_object.proofs.Common.{Numbers, ObjectParts, Start, Version, Whole, ap, append_assoc, arith, bit}
use Rattle.sc_object.proofs.Common.{bytes_decides, code_bytes, codes, eq-eqb, eqb-true, face_at, face_bytes}
use Rattle.sc_object.proofs.Common.{face_export_bytes, face_exports_at, face_exports_bytes, face_flags, false}
use Rattle.sc_object.proofs.Common.{false_from_ne_true, flat_map, globals_bytes, imports_bytes, is_between, is_name}
use Rattle.sc_object.proofs.Common.{is_same_name, is_start, keeps_rules, le-leb, leb-true, length, little_bytes, lit≤}
use Rattle.sc_object.proofs.Common.{lt-ltb, ltb-true, most_globals, name_bytes, nat_le, nat_lt, nat_tests}
use Rattle.sc_object.proofs.Common.{not_from_Decides, object_at, object_bytes, object_parts_bytes, parts_at}
use Rattle.sc_object.proofs.Common.{read_face_export, recursion_from_All, refl, stretch, sym, true, version_at, ℕ, ◌%◌}
use Rattle.sc_object.proofs.Common.{◌*◌, ◌++◌, ◌+◌, ◌/◌, ◌<◌, ◌==◌, ◌^◌, ◌∙◌, ◌∷◌, ◌≡◌, ◌≤◌, ImportPart, and_parts}
use Rattle.sc_fields.proofs.Compartments.{FitsCode, FitsGlobals, FitsImport, FitsImports, bit_again, bit_fits, bit_of}
use Rattle.sc_fields.proofs.Compartments.{code_field, comp_name_field, globals_field, imports_field, mark_field}
use Rattle.sc_fields.proofs.Compartments.{name_field, name_is_bytes}
use Rattle.sc_fields.proofs.Fields.{all_bytes, bytes_fit, IsField, byte_field, followed, four_wide, made, many_field}
use Rattle.sc_fields.proofs.Fields.{number_field, restated, tested, two_wide}

-- exports

pub record FitsExport (export : FaceExport) : Type 0 where
  pub name : is_name export.name ≡ true
  pub params : export.params ≤ 8

abbrev export_with : (name : List ℕ) (params result : ℕ) → FaceExport
export_with name params result = record { name = name; params = params; result = result == 1 }

export_again : (export : FaceExport) → export ≡ export_with export.name export.params (bit export.result)
export_again export = ap (λ (b : Bool). record export { result = b }) (sym (bit_again _))

export_field : IsField read_face_export face_export_bytes FitsExport
unfolding read_face_export
export_field = restated (followed (name_field Faces) (λ (export : FaceExport). export.name) (λ name ok.
    followed (tested (byte_field Faces) Faces (λ n. nat_le n 8)) (λ (export : FaceExport). export.params)
    (λ params ok.
    made (tested (byte_field Faces) Faces (λ n. nat_le n 1)) (export_with name params)
    (λ (export : FaceExport). bit export.result) (λ result ok. bit_of result (leb-true _ _ ok.1)))
    (λ params y a b. ap (λ (e : FaceExport). e.params) b.1)) (λ name y a b. ap (λ (e : FaceExport). e.name) b.1.1))
    (λ export h. refl) (λ export h. record { name = h.0; params = leb-true _ _ h.1.0.1 })
    (λ export h. (
      h.name,
      ((omega (arith, h.params), le-leb _ _ h.params), (bit_fits export.result, export_again export)),
    ))

pub record FitsExports (exports : List FaceExport) : Type 0 where
  pub few : length exports ≤ 4096
  pub each : AllByRecursion FitsExport exports

exports_field : IsField face_exports_at face_exports_bytes FitsExports
unfolding face_exports_at
exports_field = restated (followed (tested (number_field Faces 2 two_wide) Faces _) _
    (λ count ok. many_field _ face_export_bytes FitsExport export_field count) (λ count exports a b. b.0))
    (λ exports h. refl) (λ exports h. record { few = leb-true _ _ h.0.1; each = h.1.1 })
    (λ exports h. ((omega (arith, h.few), le-leb _ _ h.few), (refl, h.each)))

-- faces

pub record FitsFace (comps : ℕ) (face : Face) : Type 0 where
  pub name : is_name face.name ≡ true
  pub no_environment : is_same_name face.name (codes "Env") ≡ false
  pub exports : FitsExports face.exports
  pub imports : FitsImports comps face.imports

flags_of : (f : ℕ) → f ≤ 3 → bit (f % 2 == 1) + 2 * bit (f / 2 == 1) ≡ f
flags_of f h = grind (arith, nat_tests)

abbrev two_bits : (input output : Bool) → ℕ
two_bits input output = bit input + 2 * bit output

record HasFlags (input output : Bool) : Type 0 where
  first : (two_bits input output % 2 == 1) ≡ input
  second : (two_bits input output / 2 == 1) ≡ output
  few : two_bits input output ≤ 3

has_flags : (input output : Bool) → HasFlags input output
has_flags false false = record { first = refl; second = refl; few = lit≤ tt }
has_flags false true = record { first = refl; second = refl; few = lit≤ tt }
has_flags true false = record { first = refl; second = refl; few = lit≤ tt }
has_flags true true = record { first = refl; second = refl; few = lit≤ tt }

abbrev face_with : (name : List ℕ) (flags : ℕ) (exports : List FaceExport) (imports : List ImportPart) → Face
face_with name flags exports imports = record {
  name = name;
  input = flags % 2 == 1;
  output = flags / 2 == 1;
  exports = exports;
  imports = imports;
}

face_again : (face : Face) → face ≡ face_with face.name (face_flags face) face.exports face.imports
face_again face =
    let h = has_flags face.input face.output in
    λ i. record face { input = sym h.first i; output = sym h.second i }

grouped_face : (name exports imports : List ℕ) (f : ℕ) →
    name ++ (f ∷ (exports ++ imports)) ≡ name ++ f ∷ exports ++ imports
grouped_face name exports imports f = simp append_assoc

face_field : (comps : ℕ) → comps ≤ 32 → IsField (face_at comps) face_bytes (FitsFace comps)
unfolding face_at
face_field comps few = restated (followed (comp_name_field Faces) (λ (face : Face). face.name) (λ name ok.
    followed (tested (byte_field Faces) Faces (λ f. nat_le f 3)) (λ (face : Face). face_flags face) (λ f ok.
    followed exports_field (λ (face : Face). face.exports) (λ exports ok.
    made (imports_field Faces comps few) (face_with name f exports) (λ (face : Face). face.imports)
    (λ imports ok. refl)) (λ exports y a b. ap (λ (face : Face). face.exports) b.1))
    (λ f y a b. ap (λ (face : Face). face_flags face) b.1.1 ∙ flags_of f (leb-true _ _ a.1)))
    (λ name y a b. ap (λ (face : Face). face.name) b.1.1.1))
    (λ face h. grouped_face (name_bytes face.name) (face_exports_bytes face.exports) (imports_bytes face.imports)
    (face_flags face)) (λ face h. record {
      name = h.0.0;
      no_environment = h.0.1;
      exports = h.1.1.0;
      imports = h.1.1.1.0;
    }) (λ face h.
    let low = (has_flags face.input face.output).few in (
      (h.name, h.no_environment),
      ((omega (arith, low), le-leb _ _ low), (h.exports, (h.imports, face_again face))),
    ))

-- an object's parts

pub record FitsParts (object : ObjectParts) : Type 0 where
  pub some : 1 ≤ length object.faces
  pub few : length object.faces ≤ 32
  pub main : object.main < length object.faces
  pub own : object.own < length object.faces
  pub faces : AllByRecursion (FitsFace (length object.faces)) object.faces
  pub code : FitsCode stretch object.code
  pub start : is_start (object.main == object.own) (length object.code) object.main_at ≡ true
  pub globals : FitsGlobals most_globals object.globals

count_within : (n : ℕ) → is_between 1 32 n ≡ true → (1 ≤ n) × (n ≤ 32)
count_within n h = (grind (arith, nat_tests), grind (arith, nat_tests))

count_passes : (n : ℕ) → 1 ≤ n → n ≤ 32 → is_between 1 32 n ≡ true
count_passes n low high = grind (arith, nat_tests)

start_fits : (is_main : Bool) (words at : ℕ) → 4 * words ≤ stretch → is_start is_main words at ≡ true → at < 2 ^ 32
start_fits true words at short is =
    let within = ltb-true (at / 4) words (and_parts (at % 4 == 0) _ is).1 in omega (arith, short, within)
start_fits false words at short is = let none = eqb-true at 0 is in omega (arith, none)

abbrev object_with : (main own : ℕ) (faces : List Face) (heap : ℕ) (code : List ℕ) (main_at : ℕ) (globals : List ℕ) →
    ObjectParts
object_with main own faces heap code main_at globals = record {
  main = main;
  own = own;
  faces = faces;
  heap = heap == 1;
  code = code;
  main_at = main_at;
  globals = globals;
}

object_again : (object : ObjectParts) → object ≡ object_with object.main object.own object.faces (bit object.heap)
    object.code object.main_at object.globals
object_again object = ap (λ (b : Bool). record object { heap = b }) (sym (bit_again _))

grouped_parts : (n main own heap : ℕ) (faces code at globals : List ℕ) →
    n ∷ main ∷ own ∷ (faces ++ (heap ∷ (code ++ (at ++ globals)))) ≡
    n ∷ main ∷ own ∷ faces ++ heap ∷ code ++ at ++ globals
grouped_parts n main own heap faces code at globals = simp append_assoc

parts_field : IsField parts_at object_parts_bytes FitsParts
unfolding parts_at
parts_field = restated
    (followed (tested (byte_field Numbers) Numbers (is_between 1 32)) (λ (o : ObjectParts). length o.faces)
    (λ count ok.
    followed (tested (byte_field Numbers) Numbers (λ c. nat_lt c count)) (λ (o : ObjectParts). o.main) (λ main ok_main.
    followed (tested (byte_field Numbers) Numbers (λ c. nat_lt c count)) (λ (o : ObjectParts). o.own) (λ own ok_own.
    followed (many_field (face_at count) face_bytes (FitsFace count)
    (face_field count (count_within count ok.1).1) count) (λ (o : ObjectParts). o.faces) (λ faces ok_faces.
    followed (tested (byte_field Heap) Heap (λ n. nat_le n 1)) (λ (o : ObjectParts). bit o.heap) (λ heap ok_heap.
    followed (code_field Code stretch (lit≤ tt)) (λ (o : ObjectParts). o.code) (λ code ok_code.
    followed (tested (number_field Start 4 four_wide) Start (is_start (main == own) (length code)))
    (λ (o : ObjectParts). o.main_at) (λ at ok_at.
    made (globals_field Globals most_globals (lit≤ tt)) (object_with main own faces heap code at)
    (λ (o : ObjectParts). o.globals) (λ globals ok. refl))
    (λ at y a b. ap (λ (o : ObjectParts). o.main_at) b.1))
    (λ code y a b. ap (λ (o : ObjectParts). o.code) b.1.1))
    (λ heap y a b. ap (λ (o : ObjectParts). bit o.heap) b.1.1.1 ∙ bit_of heap (leb-true _ _ a.1)))
    (λ faces y a b. ap (λ (o : ObjectParts). o.faces) b.1.1.1.1))
    (λ own y a b. ap (λ (o : ObjectParts). o.own) b.1.1.1.1.1))
    (λ main y a b. ap (λ (o : ObjectParts). o.main) b.1.1.1.1.1.1))
    (λ count y a b. b.1.1.0.0))
    (λ o h. grouped_parts (length o.faces) o.main o.own (bit o.heap) (flat_map face_bytes o.faces) (code_bytes o.code)
    (little_bytes 4 o.main_at) (globals_bytes o.globals))
    (λ o h. record {
      some = (count_within (length o.faces) h.0.1).0;
      few = (count_within (length o.faces) h.0.1).1;
      main = ltb-true _ _ h.1.0.1;
      own = ltb-true _ _ h.1.1.0.1;
      faces = h.1.1.1.0.1;
      code = h.1.1.1.1.1.0;
      start = h.1.1.1.1.1.1.0.1;
      globals = h.1.1.1.1.1.1.1.0;
    })
    (λ o h. (
      (omega (arith, h.few), count_passes (length o.faces) h.some h.few),
      (
        (omega (arith, h.main, h.few), lt-ltb _ _ h.main),
        (
          (omega (arith, h.own, h.few), lt-ltb _ _ h.own),
          (
            (refl, h.faces),
            (
              bit_fits o.heap,
              (
                h.code,
                ((start_fits _ _ o.main_at h.code.short h.start, h.start), (h.globals, object_again o)),
              ),
            ),
          ),
        ),
      ),
    ))

-- the whole

version_field : IsField version_at (little_bytes 2) (λ version. version ≡ 1)
version_field = restated (tested (number_field Version 2 two_wide) Version (λ version. version == 1))
    (λ version h. refl) (λ version h. eqb-true version 1 h.1)
    (λ version is. (omega (arith, is), eq-eqb version 1 is))

mark_of_objects : IsField (mark_at Mark (codes "SCOB")) (λ mark. mark) (λ mark. mark ≡ codes "SCOB")
unfolding is_name
mark_of_objects = mark_field Mark (codes "SCOB") (name_is_bytes (codes "SCOB") refl)

whole_field : IsField (λ bytes. parts_at bytes >>= (λ parts. if_good Whole (keeps_rules parts.0) parts))
    object_parts_bytes (λ o. FitsParts o × (keeps_rules o ≡ true))
whole_field = tested parts_field Whole keeps_rules

pub fits_again : (object : ObjectParts) → FitsParts object → keeps_rules object ≡ true → IsObject object
fits_again object fits rules = record {
  few_comps = fits.few;
  main = fits.main;
  own = fits.own;
  faces = λ i d within. face_is _ _ (All-from_recursion (FitsFace _) _ fits.faces i d within);
  short_code = fits.code.short;
  words = All-from_recursion IsWord _ fits.code.each;
  start = fits.start;
  short_globals = fits.globals.short;
  bytes = all_bytes _ fits.globals.bytes;
  rules = rules;
} where
  face_is : (comps : ℕ) (face : Face) → FitsFace comps face → IsFace comps face
  face_is comps face fits = record {
    name = fits.name;
    no_environment = not_from_Decides _ (bytes_decides _ _) fits.no_environment;
    few_exports = fits.exports.few;
    exports = λ i d within. let e = All-from_recursion FitsExport _ fits.exports.each i d within in
        record { name = e.name; params = e.params };
    few_imports = fits.imports.few;
    imports = λ i d within. (All-from_recursion (FitsImport comps) _ fits.imports.each i d within).comp;
    indexes = λ i d within. (All-from_recursion (FitsImport comps) _ fits.imports.each i d within).index;
  }

pub object_fits : (object : ObjectParts) → IsObject object → FitsParts object
object_fits object is = record {
  some = omega (arith, is.main);
  few = is.few_comps;
  main = is.main;
  own = is.own;
  faces = recursion_from_All (FitsFace _) _ (λ i d within. face_fits _ _ (is.faces i d within));
  code = record { short = is.short_code; each = recursion_from_All IsWord _ is.words };
  start = is.start;
  globals = record { short = is.short_globals; bytes = bytes_fit _ is.bytes };
} where
  face_fits : (comps : ℕ) (face : Face) → IsFace comps face → FitsFace comps face
  face_fits comps face is = record {
    name = is.name;
    no_environment = false_from_ne_true _ (λ same. is.no_environment ((bytes_decides _ _).0 same));
    exports = record {
      few = is.few_exports;
      each = recursion_from_All FitsExport _ (λ i d within. let e = is.exports i d within in
          record { name = e.name; params = e.params });
    };
    imports = record {
      few = is.few_imports;
      each = recursion_from_All (FitsImport comps) _ (λ i d within.
          record { comp = is.imports i d within; index = is.indexes i d within });
    };
  }

pub object_field : IsField object_at object_bytes IsObject
unfolding object_at
object_field = restated (followed mark_of_objects (λ (o : ObjectParts). codes "SCOB") (λ mark ok.
    followed version_field (λ (o : ObjectParts). 1) (λ version ok. whole_field) (λ version y a b. sym a))
    (λ mark y a b. sym a))
    (λ o h. refl)
    (λ o h. fits_again o h.1.1.0 h.1.1.1) (λ o is. (refl, (refl, (object_fits o is, is.rules))))

-- the lengths of an object's faces fit their fields
pub faces_fit : (object : ObjectParts) → IsObject object → All FaceFits object.faces
faces_fit object is i d within =
    let face = is.faces i d within in
    record { exports = omega (arith, face.few_exports); imports = omega (arith, face.few_imports) }
