-- Exports of a compartment: each is of a function of its section, takes few words, and has its place in the image.
use Rattle.sc_linker.proofs.Common.{Bool, ExportPart, Interface, Interfaces, List, None, Option, Proto, Some}
use Rattle.sc_linker.proofs.Common.{TypedFunction, TypedSection, [], all_at, and_first, and_rest, any_along, ap}
use Rattle.sc_linker.proofs.Common.{are_distinct, arith, bytes_eq, callable_in, entry_address, export_fits}
use Rattle.sc_linker.proofs.Common.{export_parts, first_of, found_passes, function_fits, global_fits, import_fits}
use Rattle.sc_linker.proofs.Common.{import_name, interface_fits, is_plain_name, is_some, leb-true, length, length-map}
use Rattle.sc_linker.proofs.Common.{list_all, main_name, map, most_exports, most_params, nat_le, not, option_map}
use Rattle.sc_linker.proofs.Common.{place_named, proto_signature, refl, same_signature, same_types, scalar_ty}
use Rattle.sc_linker.proofs.Common.{section_fits, signature_of, slice_get, slice_get_within, structs_fit, suc, sym}
use Rattle.sc_linker.proofs.Common.{true, zero, ℕ, ◌&&◌, ◌++◌, ◌+◌, ◌<◌, ◌∙◌, ◌∷◌, ◌≡◌, ◌≤◌}
use Rattle.sc_core.specs.declared.section.TypedParam.{TypedParam}
use Rattle.sc_core_kind_laws.proofs.Values.{types_length}

abbrev pub name_of : Proto → List ℕ
name_of proto = proto.name

-- the function that a name leads to
pub record Named (section : TypedSection) (name : List ℕ) : Type 0 where
  pub number : ℕ
  pub found : place_named name (Some section) ≡ Some number
  pub within : number < length section.functions

module _ (interfaces : Interfaces) (c : ℕ) (interface : Interface) (section : TypedSection) where
  -- what a section keeps
  module _ (fits : section_fits interfaces c interface section ≡ true) where
    pub structs_so : structs_fit section.structs 0 section.structs ≡ true
    structs_so = and_first (structs_fit section.structs 0 section.structs) _ fits

    pub globals_so : list_all (global_fits section.structs) section.globals ≡ true
    globals_so = and_first (list_all (global_fits section.structs) section.globals) _
        (and_rest (structs_fit section.structs 0 section.structs) _ fits)

    pub functions_so : list_all (function_fits (callable_in interfaces interface section) section) section.functions
        ≡ true
    functions_so =
        and_first (list_all (function_fits (callable_in interfaces interface section) section) section.functions) _
        (and_rest (list_all (global_fits section.structs) section.globals) _
        (and_rest (structs_fit section.structs 0 section.structs) _ fits))

  -- what its interface keeps
  module _ (interface_fitting : interface_fits interfaces c interface section ≡ true) where
    abbrev own_names : List (List ℕ)
    own_names = map {A = TypedFunction} (λ f. f.name) section.functions

    pub callable_apart : are_distinct (map (import_name interfaces) interface.imports ++ own_names) ≡ true
    callable_apart = and_first (are_distinct (map (import_name interfaces) interface.imports ++ own_names)) _
        interface_fitting

    pub names_apart : are_distinct (map name_of interface.exports) ≡ true
    names_apart = and_first (are_distinct (map name_of interface.exports)) _
        (and_rest (are_distinct (map (import_name interfaces) interface.imports ++ own_names)) _ interface_fitting)

    pub exports_so : list_all (export_fits section.functions) interface.exports ≡ true
    exports_so = and_first (list_all (export_fits section.functions) interface.exports) _
        (and_rest (are_distinct (map name_of interface.exports)) _
        (and_rest (are_distinct (map (import_name interfaces) interface.imports ++ own_names)) _ interface_fitting))

    pub imports_so : list_all (import_fits interfaces c) interface.imports ≡ true
    imports_so = and_first (list_all (import_fits interfaces c) interface.imports) _
        (and_rest (list_all (export_fits section.functions) interface.exports) _
        (and_rest (are_distinct (map name_of interface.exports)) _
        (and_rest (are_distinct (map (import_name interfaces) interface.imports ++ own_names)) _ interface_fitting)))

    few_so : (nat_le (length interface.exports) most_exports && nat_le (length interface.imports) most_exports) ≡ true
    few_so = and_rest (list_all (import_fits interfaces c) interface.imports) _
        (and_rest (list_all (export_fits section.functions) interface.exports) _
        (and_rest (are_distinct (map name_of interface.exports)) _
        (and_rest (are_distinct (map (import_name interfaces) interface.imports ++ own_names)) _ interface_fitting)))

    pub few_exports : length interface.exports ≤ 4096
    few_exports = leb-true (length interface.exports) most_exports
        (and_first (nat_le (length interface.exports) most_exports) _ few_so)

    pub few_imports : length interface.imports ≤ 4096
    few_imports = leb-true (length interface.imports) most_exports
        (and_rest (nat_le (length interface.exports) most_exports) _ few_so)

    abbrev has_head : Proto → TypedFunction → Bool
    has_head proto f = bytes_eq f.name proto.name && same_signature (signature_of f) (proto_signature proto)

    -- a function of the section has the export's name
    pub export_named : (i : ℕ) (proto : Proto) → slice_get interface.exports i ≡ Some proto → Named section proto.name
    export_named i proto is =
        let fit = all_at (export_fits section.functions) interface.exports exports_so i proto is in
        let defined = and_rest (not (bytes_eq proto.name main_name)) _ (and_rest (is_plain_name proto.name) _ fit) in
        let first = first_of (λ (f : TypedFunction). bytes_eq f.name proto.name) section.functions
        (any_along (has_head proto) (λ (f : TypedFunction). bytes_eq f.name proto.name)
        (λ f h. and_first (bytes_eq f.name proto.name) _ h) section.functions defined) in
        record {
          number = first.number;
          found = first.found;
          within = slice_get_within section.functions first.number first.item first.is;
        }

    -- and its parameters, which are few
    pub few_params : section_fits interfaces c interface section ≡ true → (i : ℕ) (proto : Proto) →
        slice_get interface.exports i ≡ Some proto → length proto.params ≤ 8
    few_params fits i proto is =
        let fit = all_at (export_fits section.functions) interface.exports exports_so i proto is in
        let defined = and_rest (not (bytes_eq proto.name main_name)) _ (and_rest (is_plain_name proto.name) _ fit) in
        let first = first_of (has_head proto) section.functions defined in
        let passing = found_passes (has_head proto) section.functions first.number first.found in
        let f : TypedFunction = passing.item in
        let few : length f.params ≤ most_params = leb-true (length f.params) most_params
        (and_first (nat_le (length f.params) most_params) _
        (all_at (function_fits (callable_in interfaces interface section) section) section.functions
        (functions_so fits) first.number f passing.is)) in
        let same : length (map {A = TypedParam} (λ p. p.ty) f.params) ≡ length (map scalar_ty proto.params) =
        types_length (signature_of f).params (proto_signature proto).params
        (and_first (same_types (signature_of f).params (proto_signature proto).params) _
        (and_rest (bytes_eq f.name proto.name) _ passing.passes)) in
        omega (arith, few, same, length-map f.params (λ (p : TypedParam). p.ty), length-map proto.params scalar_ty)

-- IN THE IMAGE
abbrev pub export_part : (c index : ℕ) → Proto → ExportPart
export_part c index proto =
    record {
      name = proto.name;
      params = length proto.params;
      result = is_some proto.result;
      entry = entry_address c index;
    }

pub parts_length : (c k : ℕ) (protos : List Proto) → length (export_parts c k protos) ≡ length protos
parts_length c k [] = refl
parts_length c k (proto ∷ protos) = ap suc (parts_length c (suc k) protos)

pub part_at : (c k number : ℕ) (protos : List Proto) (i : ℕ) → number ≡ k + i →
    slice_get (export_parts c k protos) i ≡ option_map (export_part c number) (slice_get protos i)
part_at c k number [] i e = refl
part_at c k number (proto ∷ protos) zero e =
    let same : k ≡ number = omega (arith, e) in ap (λ n. Some (export_part c n proto)) same
part_at c k number (proto ∷ protos) (suc i) e = part_at c (suc k) number protos i (omega (arith, e))

pub part_first : (c : ℕ) (protos : List Proto) (i : ℕ) →
    slice_get (export_parts c 0 protos) i ≡ option_map (export_part c i) (slice_get protos i)
part_first c protos i = part_at c 0 i protos i (omega arith)

-- an export of the image is of a proto
pub record IsOf (c : ℕ) (protos : List Proto) (i : ℕ) (export : ExportPart) : Type 0 where
  pub proto : Proto
  pub is : slice_get protos i ≡ Some proto
  pub same : export_part c i proto ≡ export

pub part_of : (c : ℕ) (protos : List Proto) (i : ℕ) (export : ExportPart) →
    slice_get (export_parts c 0 protos) i ≡ Some export → IsOf c protos i export
part_of c protos i export is = by (slice_get protos i) refl (sym (part_first c protos i) ∙ is) where
  by : (o : Option Proto) → slice_get protos i ≡ o → option_map (export_part c i) o ≡ Some export →
      IsOf c protos i export
  by None at h = absurd (cc)
  by (Some proto) at h = record { proto = proto; is = at; same = cc }
