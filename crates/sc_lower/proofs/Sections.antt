-- The code of a well-typed program keeps the rules of programs.
use Rattle.sc_lower.proofs.Common.{Bool, Callable, Interface, Interfaces, Judged, List, None, Option}
use Rattle.sc_lower.proofs.Common.{ProgramTree, Proto, Scalar, Scope, Signature, Some, TacSection, TacStmt-F, Ty}
use Rattle.sc_lower.proofs.Common.{TypedExpr}
use Rattle.sc_lower.proofs.Common.{TypedFunction, TypedLocal, TypedParam, TypedSection, TypedStruct, [], all_go_into}
use Rattle.sc_lower.proofs.Common.{allowed, and_first, and_from, and_rest, any_along, ap, calls_exports, calls_imports}
use Rattle.sc_lower.proofs.Common.{calls_own, cells_of, cross_call_fits, decayed, eq-eqb, export_at, false, false≢true}
use Rattle.sc_lower.proofs.Common.{function_imported, goes_into, imports, in_section, input_imported, is_array}
use Rattle.sc_lower.proofs.Common.{is_function, is_input, is_output, is_some, is_well_typed, judged, length, length-map}
use Rattle.sc_lower.proofs.Common.{list_all, list_any, lowered_function, lowered_section, lt-ltb, map, names_own_global}
use Rattle.sc_lower.proofs.Common.{not, not-true, option_map, option_map_or, option_signature, output_imported}
use Rattle.sc_lower.proofs.Common.{own_call_fits, passed_fits, passes_words, proto_signature, refl, result_ty}
use Rattle.sc_lower.proofs.Common.{same_import, scalar_ty, scope_of, signature_of, slice_get, slice_get-map, subst, suc}
use Rattle.sc_lower.proofs.Common.{sym, takes_result, target_signature, true, type_goes, ℕ, ◌++◌, ◌<◌, ◌==◌, ◌∙◌, ◌∷◌}
use Rattle.sc_lower.proofs.Common.{◌≡◌}
use Rattle.sc_event.specs.declared.interface.Import.{Import}
use Rattle.sc_event.specs.declared.interface.Import.TheVariants as import
use Rattle.sc_core.specs.declared.expr.CallTarget.TheVariants as target
use Rattle.sc_core.specs.declared.ty.Ty.TheVariants as ty
use Rattle.sc_tac.specs.declared.stmt.TacStmt.TheOpen as tac
use Rattle.sc_lower.proofs.Passing.{PassedByAll}
use Rattle.sc_lower.proofs.Rules.{found_allowed, function_at, place as place_of, callable, all}

-- a test of each item of a list that is made from another
pub all_made : {A B : Type 0} (p : B → Bool) (g : A → B) (xs : List A) →
    ((i : ℕ) (x : A) → slice_get xs i ≡ Some x → p (g x) ≡ true) → list_all p (map g xs) ≡ true
all_made p g [] h = refl
all_made p g (x ∷ xs) h = and_from (p (g x)) _ (h 0 x refl) (all_made p g xs (λ i y at. h (suc i) y at))

-- PARAMETERS TAKE WORDS
one_cell : (structs : List TypedStruct) (t : Ty) (v : Ty) → type_goes t v ≡ true → is_array t ≡ false →
    (cells_of structs t == 1) ≡ true
one_cell structs ty.Int v h a = refl
one_cell structs ty.Unsigned v h a = refl
one_cell structs (ty.Struct n) v h a = absurd (false≢true h)
one_cell structs (ty.Pointer stars b) v h a = refl
one_cell structs (ty.Array stars b length) v h a = absurd (false≢true (sym a))

words_go : (structs : List TypedStruct) (params : List TypedParam) (es : List Judged) (rest : List ℕ) →
    all_go_into (map {A = TypedParam} (λ p. p.ty) params) es ≡ true →
    list_all {X = TypedParam} (λ p. passed_fits structs p.ty) params ≡ true →
    passes_words (length params) (map {A = TypedParam} (λ p. cells_of structs p.ty) params ++ rest) ≡ true
words_go structs [] es rest h k = refl
words_go structs (p ∷ params) [] rest h k = absurd (false≢true h)
words_go structs (p ∷ params) (e ∷ es) rest h k =
    let goes = and_rest e.fits _ (and_first (goes_into p.ty e) _ h) in
    let passed = and_first (passed_fits structs p.ty) _ k in
    and_from _ _ (one_cell structs p.ty (decayed e.ty) goes
    (not-true (is_array p.ty) (and_first (not (is_array p.ty)) _ passed)))
    (words_go structs params es rest (and_rest (goes_into p.ty e) _ h) (and_rest (passed_fits structs p.ty) _ k))

takes : (dest : Option ℕ) (result : Bool) → (is_some dest ≡ true → result ≡ true) → takes_result dest result ≡ true
takes None result h = refl
takes (Some d) result h = h refl

pub result_same : (r : Option Scalar) → is_some (result_ty r) ≡ is_some r
result_same None = refl
result_same (Some s) = refl

-- IMPORTS
is_allowed : (b : Bool) (o : Option Signature) (signature : Signature) → allowed b o ≡ Some signature → b ≡ true
is_allowed true o signature h = refl
is_allowed false o signature h = absurd (cc)

module _ (program : ProgramTree) (typed : is_well_typed program ≡ true) (comp : ℕ) (section : TypedSection)
    (is : slice_get program.sections comp ≡ Some section) where
  abbrev interfaces : Interfaces
  interfaces = program.interfaces

  abbrev lowered : TacSection
  lowered = lowered_section interfaces comp section

  abbrev may : Callable
  may = callable program typed comp section is

  abbrev interface : Interface
  interface = (place_of program typed comp section is).interface

  -- a call of a function of the section
  own_fits : (scope : Scope) (o : Option TypedFunction) (n : ℕ) (signature : Signature) (dest : Option ℕ) (at : List ℕ)
      (es : List TypedExpr) → slice_get section.functions n ≡ o → option_map signature_of o ≡ Some signature →
      all_go_into signature.params (map (judged scope) es) ≡ true → length at ≡ length signature.params →
      (is_some dest ≡ true → is_some signature.result ≡ true) →
      own_call_fits (option_map (lowered_function interfaces comp section.structs) o) dest (length at) ≡ true
  own_fits scope None n signature dest at es item h goes count results = absurd (cc)
  own_fits scope (Some g) n signature dest at es item h goes count results =
      let same : signature_of g ≡ signature = cc in
      let own : all_go_into (map {A = TypedParam} (λ p. p.ty) g.params) (map (judged scope) es) ≡ true =
      subst (λ (s : Signature). all_go_into s.params (map (judged scope) es) ≡ true) (sym same) goes in
      let length_same : length at ≡ length g.params = count ∙ sym (ap (λ (s : Signature). length s.params) same)
      ∙ length-map g.params (λ p. p.ty) in
      and_from _ _ (eq-eqb (length g.params) (length at) (sym length_same))
      (and_from _ _
      (words_go section.structs g.params (map (judged scope) es)
      (map {A = TypedLocal} (λ l. cells_of section.structs l.ty) g.locals) own
      (function_at program typed interface section (place_of program typed comp section is).placed n g item).passed)
      (takes dest (is_some g.result) (λ k. ap (λ (s : Signature). is_some s.result) same ∙ results k)))

  call_own_fits : (scope : Scope) (n : ℕ) (signature : Signature) (dest : Option ℕ) (at : List ℕ)
      (es : List TypedExpr) → target_signature may (target.Own n) ≡ Some signature →
      all_go_into signature.params (map (judged scope) es) ≡ true → length at ≡ length signature.params →
      (is_some dest ≡ true → is_some signature.result ≡ true) →
      calls_own interfaces comp lowered (tac.CallOwn dest n at) ≡ true
  call_own_fits scope n signature dest at es h goes count results =
      ap (λ o. own_call_fits o dest (length at))
      (slice_get-map (lowered_function interfaces comp section.structs)
      section.functions n)
      ∙ own_fits scope (slice_get section.functions n) n signature dest at es refl
      (sym (slice_get-map signature_of section.functions n) ∙ h) goes count results

  -- a call of an export
  cross_fits : (o : Option Proto) (signature : Signature) (dest : Option ℕ) (at : List ℕ) →
      option_signature proto_signature o ≡ Some signature → length at ≡ length signature.params →
      (is_some dest ≡ true → is_some signature.result ≡ true) → cross_call_fits o dest (length at) ≡ true
  cross_fits None signature dest at h count results = absurd (cc)
  cross_fits (Some proto) signature dest at h count results =
      let same : proto_signature proto ≡ signature = cc in
      let length_same : length at ≡ length proto.params = count ∙ sym (ap (λ (s : Signature). length s.params) same)
      ∙ length-map proto.params scalar_ty in
      and_from _ _ (eq-eqb (length proto.params) (length at) (sym length_same))
      (takes dest (is_some proto.result) (λ k. sym (result_same proto.result) ∙ ap (λ (s : Signature). is_some s.result)
      same ∙ results k))

  -- only what is imported is called
  imports_so : (p q : Import → Bool) → ((x : Import) → p x ≡ true → q x ≡ true) → list_any p interface.imports ≡ true →
      imports interfaces comp q ≡ true
  imports_so p q on h =
      ap (λ (o : Option Interface). list_any q (option_map_or (λ found. found.imports) o []))
      (place_of program typed comp section is).is ∙ any_along p q on interface.imports h

  -- tests that what is emitted passes
  module _ (temps : ℕ) (f : TypedFunction) where
    abbrev Passes : (TacStmt-F Bool → Bool) → Type 0
    Passes = PassedByAll temps (scope_of section f) may f.result

    globals_passed : Passes (names_own_global interfaces comp lowered)
    globals_passed (tac.GlobalPlace d g) h =
        lt-ltb g (length section.globals) (subst (λ m. g < m) (length-map section.globals (λ g. g.ty)) h.1)
    globals_passed _ h = refl

    own_passed : Passes (calls_own interfaces comp lowered)
    own_passed (tac.CallOwn dest n at) h =
        call_own_fits (scope_of section f) n h.signature dest at h.args h.is h.go h.count h.results
    own_passed _ h = refl

    exports_passed : Passes (calls_exports interfaces comp lowered)
    exports_passed (tac.CallCross dest to index at) h =
        cross_fits (export_at interfaces to index) h.signature dest at
        (found_allowed (list_any (same_import (import.Function to index)) interface.imports)
        (option_signature proto_signature (export_at interfaces to index)) h.signature h.is) h.count h.results
    exports_passed _ h = refl

    imports_passed : Passes (calls_imports interfaces comp lowered)
    imports_passed (tac.CallCross dest to index at) h =
        imports_so (same_import (import.Function to index)) (is_function to index) (function_imported to index)
        (is_allowed (list_any (same_import (import.Function to index)) interface.imports)
        (option_signature proto_signature (export_at interfaces to index)) h.signature h.is)
    imports_passed (tac.Input dest) h =
        imports_so (same_import import.Input) is_input input_imported
        (is_allowed (list_any (same_import import.Input) interface.imports)
        (Some (record { params = []; result = Some ty.Int })) h.1.signature h.1.is)
    imports_passed (tac.Output v) h =
        imports_so (same_import import.Output) is_output output_imported
        (is_allowed (list_any (same_import import.Output) interface.imports)
        (Some (record { params = ty.Int ∷ []; result = None })) h.3.signature h.3.is)
    imports_passed _ h = refl

  -- the statements of a section
  pub globals_named : in_section (names_own_global interfaces comp lowered) lowered ≡ true
  globals_named = all_made _ (lowered_function interfaces comp section.structs) section.functions (λ n f item.
      all program typed comp section is n f item (names_own_global interfaces comp lowered) (globals_passed _ f))

  pub own_called : in_section (calls_own interfaces comp lowered) lowered ≡ true
  own_called = all_made _ (lowered_function interfaces comp section.structs) section.functions (λ n f item.
      all program typed comp section is n f item (calls_own interfaces comp lowered) (own_passed _ f))

  pub exports_called : in_section (calls_exports interfaces comp lowered) lowered ≡ true
  exports_called = all_made _ (lowered_function interfaces comp section.structs) section.functions (λ n f item.
      all program typed comp section is n f item (calls_exports interfaces comp lowered) (exports_passed _ f))

  pub imports_called : in_section (calls_imports interfaces comp lowered) lowered ≡ true
  imports_called = all_made _ (lowered_function interfaces comp section.structs) section.functions (λ n f item.
      all program typed comp section is n f item (calls_imports interfaces comp lowered) (imports_passed _ f))
