-- The fields of an image: what is read is what is written.
use Rattle.sc_image.proofs.Common.{AllByRecursion, Bool, CompPart, Compartment, Contents, Count, ExportPart, Exports}
use Rattle.sc_image.proofs.Common.{ImageParts, ImportPart, Imports, List, Mark, Start, Version, ap, append_assoc, arith}
use Rattle.sc_image.proofs.Common.{bit, code_bytes, codes, comp_bytes, export_bytes, exports_bytes, false, flags}
use Rattle.sc_image.proofs.Common.{globals_bytes, imports_bytes, is_between, is_name, is_same_name, latest_version}
use Rattle.sc_image.proofs.Common.{le-leb, leb-true, length, little_bytes, lt-ltb, ltb-true, mark_at, most_flags}
use Rattle.sc_image.proofs.Common.{most_globals, name_bytes, nat_le, nat_lt, nat_tests, parts_at, parts_bytes}
use Rattle.sc_image.proofs.Common.{read_comp, read_exports, refl, stretch, sym, true, version_at, ℕ, ◌%◌, ◌*◌, ◌++◌}
use Rattle.sc_image.proofs.Common.{◌+◌, ◌/◌, ◌<◌, ◌==◌, ◌^◌, ◌∙◌, ◌∷◌, ◌≡◌, ◌≤◌, lit≤}
use Rattle.sc_image.specs.Reading.{read_export}
use Rattle.sc_fields.proofs.Compartments.{FitsCode, FitsGlobals, FitsImports, bit_again, bit_fits, bit_of, code_field}
use Rattle.sc_fields.proofs.Compartments.{comp_name_field, globals_field, imports_field, mark_field, name_field}
use Rattle.sc_fields.proofs.Compartments.{name_is_bytes}
use Rattle.sc_fields.proofs.Fields.{IsField, restated, made, tested, followed, number_field, byte_field, many_field}
use Rattle.sc_fields.proofs.Fields.{two_wide, four_wide}

-- exports

pub record FitsExport (export : ExportPart) : Type 0 where
  pub name : is_name export.name ≡ true
  pub params : export.params ≤ 8
  pub entry : export.entry < 2 ^ 32

abbrev pub export_with : (name : List ℕ) (params result entry : ℕ) → ExportPart
export_with name params result entry = record { name = name; params = params; result = result == 1; entry = entry }

export_again : (export : ExportPart) → export ≡ export_with export.name export.params (bit export.result) export.entry
export_again export = ap (λ (b : Bool). record export { result = b }) (sym (bit_again _))

pub export_field : IsField read_export export_bytes FitsExport
unfolding read_export
export_field = restated (followed (name_field Exports) (λ (export : ExportPart). export.name) (λ name ok.
    followed (tested (byte_field Exports) Exports (λ n. nat_le n 8)) (λ (export : ExportPart). export.params)
    (λ params ok.
    followed (tested (byte_field Exports) Exports (λ n. nat_le n 1)) (λ (export : ExportPart). bit export.result)
    (λ result ok.
    made (number_field Exports 4 four_wide) (export_with name params result) (λ (export : ExportPart). export.entry)
    (λ entry ok. refl)) (λ result y a b. ap (λ e. bit e.result) b.1 ∙ bit_of result (leb-true _ _ a.1)))
    (λ params y a b. ap (λ (e : ExportPart). e.params) b.1.1)) (λ name y a b. ap (λ (e : ExportPart). e.name) b.1.1.1))
    (λ export h. refl) (λ export h. record { name = h.0; params = leb-true _ _ h.1.0.1; entry = h.1.1.1.0 })
    (λ export h. (
      h.name,
      (
        (omega (arith, h.params), le-leb _ _ h.params),
        (bit_fits export.result, (h.entry, export_again export)),
      ),
    ))

pub record FitsExports (exports : List ExportPart) : Type 0 where
  pub few : length exports ≤ 4096
  pub each : AllByRecursion FitsExport exports

pub exports_field : IsField read_exports exports_bytes FitsExports
unfolding read_exports
exports_field = restated (followed (tested (number_field Exports 2 two_wide) Exports _) _
    (λ count ok. many_field _ export_bytes FitsExport export_field count) (λ count exports a b. b.0))
    (λ exports h. refl) (λ exports h. record { few = leb-true _ _ h.0.1; each = h.1.1 })
    (λ exports h. ((omega (arith, h.few), le-leb _ _ h.few), (refl, h.each)))

-- compartments

pub record FitsComp (version comps : ℕ) (comp : CompPart) : Type 0 where
  pub name : is_name comp.name ≡ true
  pub no_environment : is_same_name comp.name (codes "Env") ≡ false
  pub flags : flags comp ≤ most_flags version
  pub exports : FitsExports comp.exports
  pub imports : FitsImports comps comp.imports
  pub code : FitsCode stretch comp.code
  pub globals : FitsGlobals most_globals comp.globals

flags_of : (f : ℕ) → f ≤ 7 → bit (f % 2 == 1) + 2 * bit (f / 2 % 2 == 1) + 4 * bit (f / 4 == 1) ≡ f
flags_of f h = grind (arith, nat_tests)

low_flags : (version f : ℕ) → f ≤ most_flags version → f ≤ 7
low_flags version f low = grind (arith, nat_tests)

abbrev three_bits : (input output heap : Bool) → ℕ
three_bits input output heap = bit input + 2 * bit output + 4 * bit heap

record HasFlags (input output heap : Bool) : Type 0 where
  first : (three_bits input output heap % 2 == 1) ≡ input
  second : (three_bits input output heap / 2 % 2 == 1) ≡ output
  third : (three_bits input output heap / 4 == 1) ≡ heap

has_flags : (input output heap : Bool) → HasFlags input output heap
has_flags false false false = record { first = refl; second = refl; third = refl }
has_flags false false true = record { first = refl; second = refl; third = refl }
has_flags false true false = record { first = refl; second = refl; third = refl }
has_flags false true true = record { first = refl; second = refl; third = refl }
has_flags true false false = record { first = refl; second = refl; third = refl }
has_flags true false true = record { first = refl; second = refl; third = refl }
has_flags true true false = record { first = refl; second = refl; third = refl }
has_flags true true true = record { first = refl; second = refl; third = refl }

abbrev pub comp_with : (name : List ℕ) (flags : ℕ) (exports : List ExportPart) (imports : List ImportPart)
    (code globals : List ℕ) → CompPart
comp_with name flags exports imports code globals = record {
  name = name;
  input = flags % 2 == 1;
  output = flags / 2 % 2 == 1;
  heap = flags / 4 == 1;
  exports = exports;
  imports = imports;
  code = code;
  globals = globals;
}

comp_again : (comp : CompPart) → comp ≡ comp_with comp.name
    (flags comp) comp.exports comp.imports comp.code comp.globals
comp_again comp =
    let h = has_flags comp.input comp.output comp.heap in
    λ i. record comp { input = sym h.first i; output = sym h.second i; heap = sym h.third i }

grouped : (name exports imports code globals : List ℕ) (f : ℕ) →
    name ++ (f ∷ (exports ++ (imports ++ (code ++ globals)))) ≡ name ++ f ∷ exports ++ imports ++ code ++ globals
grouped name exports imports code globals f = simp append_assoc

-- an image of `comps` compartments
module _ (comps : ℕ) (few : comps ≤ 32) where
  pub comp_field : (version : ℕ) → IsField (read_comp version comps) comp_bytes (FitsComp version comps)
  unfolding read_comp
  comp_field version = restated (followed (comp_name_field Compartment) (λ (comp : CompPart). comp.name) (λ name ok.
      followed (tested (byte_field Compartment) Compartment (λ f. nat_le f (most_flags version)))
      (λ (comp : CompPart). flags comp)
      (λ f ok. followed exports_field (λ (comp : CompPart). comp.exports) (λ exports ok.
      followed (imports_field Imports comps few) (λ (comp : CompPart). comp.imports) (λ imports ok.
      followed (code_field Contents stretch (lit≤ tt)) (λ (comp : CompPart). comp.code) (λ code ok.
      made (globals_field Contents most_globals (lit≤ tt)) (comp_with name f exports imports code)
      (λ comp. comp.globals) (λ globals ok. refl))
      (λ code y a b. ap (λ c. c.code) b.1)) (λ imports y a b. ap (λ (c : CompPart). c.imports) b.1.1))
      (λ exports y a b. ap (λ (c : CompPart). c.exports) b.1.1.1))
      (λ f y a b. ap (λ (c : CompPart). flags c) b.1.1.1.1 ∙
      flags_of f (low_flags version f (leb-true _ _ a.1))))
      (λ name y a b. ap (λ (c : CompPart). c.name) b.1.1.1.1.1))
      (λ comp h. grouped (name_bytes comp.name) (exports_bytes comp.exports) (imports_bytes comp.imports)
      (code_bytes comp.code) (globals_bytes comp.globals) (flags comp)) (λ comp h. record {
        name = h.0.0;
        no_environment = h.0.1;
        flags = leb-true _ _ h.1.0.1;
        exports = h.1.1.0;
        imports = h.1.1.1.0;
        code = h.1.1.1.1.0;
        globals = h.1.1.1.1.1.0;
      }) (λ comp h.
      let low = low_flags version (flags comp) h.flags in (
        (h.name, h.no_environment),
        (
          (omega (arith, low), le-leb _ _ h.flags),
          (h.exports, (h.imports, (h.code, (h.globals, comp_again comp)))),
        ),
      ))

-- the whole image

pub record FitsParts (version : ℕ) (parts : ImageParts) : Type 0 where
  pub some : 1 ≤ length parts.comps
  pub few : length parts.comps ≤ 32
  pub main : parts.main < length parts.comps
  pub entry : parts.entry < 2 ^ 32
  pub comps : AllByRecursion (FitsComp version (length parts.comps)) parts.comps

pub count_within : (n : ℕ) → is_between 1 32 n ≡ true → (1 ≤ n) × (n ≤ 32)
count_within n h = (grind (arith, nat_tests), grind (arith, nat_tests))

count_passes : (n : ℕ) → 1 ≤ n → n ≤ 32 → is_between 1 32 n ≡ true
count_passes n low high = grind (arith, nat_tests)

between : (n : ℕ) → is_between 1 latest_version n ≡ true → (1 ≤ n) × (n ≤ latest_version)
between n h = (grind (arith, nat_tests), grind (arith, nat_tests))

passes : (n : ℕ) → 1 ≤ n → n ≤ latest_version → is_between 1 latest_version n ≡ true
passes n low high = grind (arith, nat_tests)

pub mark_field_of_images : IsField (mark_at Mark (codes "SCIM")) (λ mark. mark) (λ mark. mark ≡ codes "SCIM")
unfolding is_name
mark_field_of_images = mark_field Mark (codes "SCIM") (name_is_bytes (codes "SCIM") refl)

pub version_field : IsField version_at (little_bytes 2) (λ version. (1 ≤ version) × (version ≤ latest_version))
version_field = restated (tested (number_field Version 2 two_wide) Version (is_between 1 latest_version))
    (λ version h. refl) (λ version h. between version h.1) (λ version h. (omega (arith, h.1), passes version h.0 h.1))

-- what is read is what is written, and is read again
pub parts_field : (version : ℕ) → IsField (parts_at version) parts_bytes (FitsParts version)
unfolding parts_at
parts_field version = restated
    (followed (tested (byte_field Count) Count (is_between 1 32)) (λ (parts : ImageParts). length parts.comps)
    (λ count ok.
    followed (tested (byte_field Start) Start (λ c. nat_lt c count)) (λ (parts : ImageParts). parts.main)
    (λ main ok_main.
    followed (number_field Start 4 four_wide) (λ (parts : ImageParts). parts.entry) (λ entry ok_entry.
    made (many_field (read_comp version count) comp_bytes (FitsComp version count)
    (comp_field count (count_within count ok.1).1 version) count)
    (λ comps. record { main = main; entry = entry; comps = comps }) (λ (parts : ImageParts). parts.comps)
    (λ comps ok. refl)) (λ entry y a b. ap (λ (p : ImageParts). p.entry) b.1))
    (λ main y a b. ap (λ (p : ImageParts). p.main) b.1.1)) (λ count y a b. b.1.1.0.0))
    (λ parts h. refl)
    (λ parts h. record {
      some = (count_within (length parts.comps) h.0.1).0;
      few = (count_within (length parts.comps) h.0.1).1;
      main = ltb-true _ _ h.1.0.1;
      entry = h.1.1.0;
      comps = h.1.1.1.0.1;
    })
    (λ parts h. (
      (omega (arith, h.few), count_passes (length parts.comps) h.some h.few),
      ((omega (arith, h.main, h.few), lt-ltb _ _ h.main), (h.entry, ((refl, h.comps), refl))),
    ))
