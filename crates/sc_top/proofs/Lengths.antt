-- How many bytes an image has at most.
use Rattle.sc_top.proofs.Common.{AllByRecursion, ImageParts, IsComp, IsExport, IsWellFormed, List, Some, [], ap, arith}
use Rattle.sc_top.proofs.Common.{bit, comp_bytes, export_bytes, exports_bytes, flat_map, globals_bytes}
use Rattle.sc_top.proofs.Common.{import_bytes, imports_bytes, length, length-append, name_bytes, recursion_from_All}
use Rattle.sc_top.proofs.Common.{refl, slice_get, subst, suc, sym, ℕ, ◌*◌, ◌++◌, ◌+◌, ◌∷◌, ◌≡◌, ◌≤◌}
use Rattle.sc_image.specs.Prelude.{bytes_in_version, code_bytes}
use Rattle.byteorder.specs.Endian.{little_bytes}
use Rattle.sc_image.specs.declared.parts.CompPart.{CompPart}
use Rattle.sc_image.specs.declared.parts.ExportPart.{ExportPart}
use Rattle.sc_image.specs.Prelude.{ImportPart}
use Rattle.sc_base.proofs.Filled.{name_is_short}

-- pieces of at most `most` bytes
module _ {A : Type 0} (f : A → List ℕ) (most : ℕ) (bound : ℕ → ℕ)
    (step : (n : ℕ) → most + bound n ≤ bound (suc n)) where
  many : (xs : List A) → AllByRecursion (λ x. length (f x) ≤ most) xs → length (flat_map f xs) ≤ bound (length xs)
  many [] each = omega arith
  many (x ∷ xs) each =
      let first = each.0 in
      let others = many xs each.1 in
      let more = step (length xs) in
      let whole =
      length-append (f x) (flat_map f xs) in
      omega arith

every : {A : Type 0} (P : A → Type 0) (xs : List A) → ((x : A) → P x) → AllByRecursion P xs
every P [] each = tt
every P (x ∷ xs) each = (each x, every P xs each)

each_of : {A : Type 0} (P Q : A → Type 0) (xs : List A) → ((x : A) → P x → Q x) → AllByRecursion P xs →
    AllByRecursion Q xs
each_of P Q [] imply all = tt
each_of P Q (x ∷ xs) imply all = (imply x all.0, each_of P Q xs imply all.1)

each_at : {A : Type 0} (P : A → Type 0) (xs : List A) → ((i : ℕ) (x : A) → slice_get xs i ≡ Some x → P x) →
    AllByRecursion P xs
each_at P [] at = tt
each_at P (x ∷ xs) at = (at 0 x refl, each_at P xs (λ i y e. at (suc i) y e))

export_is_short : (image : ImageParts) (c : ℕ) (export : ExportPart) → IsExport image c export →
    length (export_bytes export) ≤ 70
export_is_short image c export is =
    let name = name_is_short export.name is.name in
    let whole = length-append (name_bytes export.name)
    (export.params ∷ bit export.result ∷ little_bytes 4 export.entry) in
    omega arith

pieces : (name : List ℕ) (flag : ℕ) (exports imports code globals : List ℕ) →
    length (name ++ flag ∷ exports ++ imports ++ code ++ globals) ≡
    length name + suc (length exports + (length imports + (length code + length globals)))
pieces name flag exports imports code globals = simp length-append (omega arith)

bounded : (name exports imports code globals : ℕ) → name ≤ 63 → exports ≤ 286722 → imports ≤ 12290 → code ≤ 1048580 →
    globals ≤ 458756 →
    suc (name + suc (exports + (imports + (code + globals)))) ≤ 2000000
bounded name exports imports code globals a b c d e = omega arith

exports_are_short : (image : ImageParts) (c : ℕ) (exports : List ExportPart) →
    AllByRecursion (IsExport image c) exports → length exports ≤ 4096 → length (exports_bytes exports) ≤ 286722
exports_are_short image c exports all few =
    let each = many export_bytes 70 (λ n. 70 * n) (λ n. omega arith) exports
    (each_of _ _ exports (export_is_short image c) all) in
    let whole = length-append (little_bytes 2 (length exports)) (flat_map export_bytes exports) in
    omega arith

imports_are_short : (imports : List ImportPart) → length imports ≤ 4096 → length (imports_bytes imports) ≤ 12290
imports_are_short imports few =
    let each = many import_bytes 3 (λ n. 3 * n) (λ n. omega arith) imports (every _ imports (λ import. omega arith)) in
    let whole = length-append (little_bytes 2 (length imports)) (flat_map import_bytes imports) in
    omega arith

code_is_short : (code : List ℕ) → 4 * length code ≤ 1048576 → length (code_bytes code) ≤ 1048580
code_is_short code short =
    let each = many (little_bytes 4) 4 (λ n. 4 * n) (λ n. omega arith) code (every _ code (λ word. omega arith)) in
    let whole = length-append (little_bytes 4 (4 * length code)) (flat_map (little_bytes 4) code) in
    omega arith

globals_are_short : (globals : List ℕ) → length globals ≤ 458752 → length (globals_bytes globals) ≤ 458756
globals_are_short globals short = let whole = length-append (little_bytes 4 (length globals)) globals in omega arith

comp_is_short : (image : ImageParts) (c : ℕ) (comp : CompPart) → IsComp image c comp →
    length (comp_bytes comp) ≤ 2000000
comp_is_short image c comp is =
    subst (λ n. n ≤ 2000000) (sym (ap suc (pieces _ _ _ _ _ _)))
    (bounded (length _) (length (exports_bytes _)) (length (imports_bytes _))
    (length (code_bytes _)) (length (globals_bytes _)) (name_is_short _ is.name)
    (exports_are_short image c comp.exports (recursion_from_All _ _ is.exports) is.few_exports)
    (imports_are_short comp.imports is.few_imports) (code_is_short comp.code is.short_code)
    (globals_are_short comp.globals is.short_globals))

-- so that a text of 1,048,576 bytes after it is within the limit, too
pub image_is_short : (version : ℕ) (image : ImageParts) → IsWellFormed image →
    length (bytes_in_version version image) ≤ 66060288
image_is_short version image formed =
    let few = formed.few_comps in
    let comps = many comp_bytes 2000000 (λ n. 2000000 * n) (λ n. omega arith) image.comps
    (each_at _ image.comps (λ i comp e. comp_is_short image i comp (formed.comps i comp e))) in
    let entry = length-append (little_bytes 4 image.entry) (flat_map comp_bytes image.comps) in
    omega arith
