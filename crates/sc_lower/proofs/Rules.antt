-- The code of a function of a well-typed program keeps the rules of functions.
use Rattle.sc_lower.proofs.Common.{After, All, BaseTy, Bool, Callable, Export, ForSection, Interface, Interfaces}
use Rattle.sc_lower.proofs.Common.{IsFunction, IsLowerable, List, Main, None, Option, Part, Placed, ProgramTree, Proto}
use Rattle.sc_lower.proofs.Common.{Scalar, Scope, Signature, Some, TacOp, TacStmt-F, Ty, TypedFunction, TypedLocal}
use Rattle.sc_lower.proofs.Common.{TypedParam, TypedSection, TypedStruct, [], all_assigned_first, all_at, allowed}
use Rattle.sc_lower.proofs.Common.{and_first, and_from, and_rest, ap, are_distinct, arith as numbers, beq, block_code}
use Rattle.sc_lower.proofs.Common.{body_code, body_fits, both, bytes_eq, callable_in, cells_of, comp_at}
use Rattle.sc_lower.proofs.Common.{counts_elements, enters_by_words, entry_of, eq-eqb, eqb-true, everywhere, export_at}
use Rattle.sc_lower.proofs.Common.{export_called, export_fits, exports_of, false, false≢true, first_of as first_temp}
use Rattle.sc_lower.proofs.Common.{following, for_interface, for_section, found_passes, function_fits, global_fits}
use Rattle.sc_lower.proofs.Common.{has_elements, has_none, has_operands, has_words, if◌then◌else◌, import_fits}
use Rattle.sc_lower.proofs.Common.{import_name, in_turn, init_fits, inits_code, is_array, is_plain_name, is_some}
use Rattle.sc_lower.proofs.Common.{is_type, is_well_typed, le-leb, leb-true, length, length-append, length-map}
use Rattle.sc_lower.proofs.Common.{list_all, list_any, local_fits, lowered_function, lt-ltb, main_fits, main_name}
use Rattle.sc_lower.proofs.Common.{main_so, map, most_cells, most_exports, most_nodes, most_params, named_so}
use Rattle.sc_lower.proofs.Common.{names_own_object, names_own_temps, nat_le, nat_lt, nodes, not, one_or_none}
use Rattle.sc_lower.proofs.Common.{option_map, option_signature, own_names_differ, passed_fits, passes_few}
use Rattle.sc_lower.proofs.Common.{passes_words, position, proto_signature, refl, result_fits, returns_result}
use Rattle.sc_lower.proofs.Common.{same_base, same_import, same_signature, same_ty, same_types, scalar_ty, scope_of}
use Rattle.sc_lower.proofs.Common.{sections_so, signature_of, slice_get, slice_get-map, slice_index_or, stray_break}
use Rattle.sc_lower.proofs.Common.{stray_continue, structs_fit, subst, suc, sym, takes_two, target_signature, total}
use Rattle.sc_lower.proofs.Common.{true, type_within, types_length, variable_fits, variables, zero, ℕ, ◌&&◌, ◌++◌, ◌+◌}
use Rattle.sc_lower.proofs.Common.{◌<◌, ◌==◌, ◌^◌, ◌∙◌, ◌∷◌, ◌≡◌, ◌≤◌}
use Rattle.std.proofs.lemmas.List.Sums.{AllPass-from_list_all}
use Rattle.sc_tac.specs.declared.stmt.TacOp.TheVariants as tacop
use Rattle.sc_tac.specs.declared.stmt.TacStmt.TheOpen as tac
use Rattle.sc_event.specs.declared.interface.Import.TheVariants as import
use Rattle.sc_event.specs.declared.interface.Scalar.TheVariants as scalar
use Rattle.sc_core.specs.declared.expr.CallTarget.TheVariants as target
use Rattle.sc_core.specs.declared.ty.BaseTy.TheVariants as base
use Rattle.sc_core.specs.declared.ty.Ty.TheVariants as ty
use Rattle.sc_core_kind_laws.proofs.Sections.{first_of}
use Rattle.sc_lower.proofs.Beyond.{function_near, locals_few}
use Rattle.sc_lower.proofs.Elements.{points_to_elements}
use Rattle.sc_lower.proofs.Flowing.{all_assigned}
use Rattle.sc_lower.proofs.Passing.{FitsCall, InitsFit, PassedByAll, body_passes}
use Rattle.sc_lower.proofs.Sizes.{few_temps, light}
use Rattle.sc_lower.proofs.Strays.{breaks_in_loops, continues_in_bodies}
use Rattle.sc_lower.proofs.Tests.{Below, AllBelow, PointsToElements}

-- TESTS
pub beq_same : (a b : Bool) → a ≡ b → beq a b ≡ true
beq_same true true h = refl
beq_same true false h = absurd (cc)
beq_same false true h = absurd (cc)
beq_same false false h = refl

-- what takes one value counts no elements
one_counted : (o : TacOp) → takes_two o ≡ false → counts_elements o ≡ true
one_counted (tacop.Unary op scalar) h = refl
one_counted (tacop.Binary op scalar) h = refl
one_counted tacop.PointerNot h = refl
one_counted (tacop.PointerMove minus cells index) h = refl
one_counted (tacop.PointerMember offset) h = refl
one_counted (tacop.PointerDifference cells) h = absurd (false≢true (sym h))
one_counted (tacop.PointerCompare op) h = refl

module _ (temps : ℕ) where
  abbrev own : ℕ → Bool
  own t = nat_lt t temps

  own_one : (t : ℕ) → t < temps → list_all own (t ∷ []) ≡ true
  own_one t lt = and_from (own t) true (lt-ltb t temps lt) refl

  own_two : (t u : ℕ) → t < temps → u < temps → list_all own (t ∷ u ∷ []) ≡ true
  own_two t u lt lu = and_from (own t) _ (lt-ltb t temps lt) (own_one u lu)

  own_all : (ts : List ℕ) → AllBelow temps ts → list_all own ts ≡ true
  own_all [] h = refl
  own_all (t ∷ ts) h = and_from (own t) _ (lt-ltb t temps h.0) (own_all ts h.1)

  own_after : (dest : Option ℕ) (ts : List ℕ) → Below temps dest → AllBelow temps ts →
      list_all own (one_or_none dest ++ ts) ≡ true
  own_after None ts h k = own_all ts k
  own_after (Some d) ts h k = and_from (own d) _ (lt-ltb d temps h) (own_all ts k)

  own_option : (v : Option ℕ) → Below temps v → list_all own (one_or_none v) ≡ true
  own_option None h = refl
  own_option (Some v) h = own_one v h

  own_first : (ts : List ℕ) → length ts ≡ 1 → AllBelow temps ts → list_all own (first_temp ts ∷ []) ≡ true
  own_first [] one h = absurd (cc)
  own_first (t ∷ ts) one h = own_one t h.0

-- cells of an element are counted by a word
few_words : (words : ℕ) → nat_le words most_cells ≡ true → nat_lt words (2 ^ 32) ≡ true
few_words words h = lt-ltb words (2 ^ 32) (by words (leb-true words most_cells h)) where
  by : (w : ℕ) → w ≤ most_cells → w < 4294967296
  by w h = omega (numbers, h)

-- SIGNATURES
pub found_allowed : (b : Bool) (o : Option Signature) (signature : Signature) → allowed b o ≡ Some signature →
    o ≡ Some signature
found_allowed true o signature h = h
found_allowed false o signature h = absurd (cc)

output_takes_one : (b : Bool) (signature : Signature) →
    allowed b (Some (record { params = ty.Int ∷ []; result = None })) ≡ Some signature → length signature.params ≡ 1
output_takes_one b signature h =
    let is : ◌≡◌ {A = Option Signature} (Some (record { params = ty.Int ∷ []; result = None })) (Some signature) =
    found_allowed b (Some (record { params = ty.Int ∷ []; result = None })) signature h in
    let same : record { params = ty.Int ∷ []; result = None } ≡ signature = cc is in
    sym (ap (λ (s : Signature). length s.params) same)

same_base_self : (b : BaseTy) → same_base b b ≡ true
same_base_self base.Int = refl
same_base_self base.Unsigned = refl
same_base_self (base.Struct n) = eq-eqb n n refl

pub same_ty_self : (t : Ty) → same_ty t t ≡ true
same_ty_self ty.Int = refl
same_ty_self ty.Unsigned = refl
same_ty_self (ty.Struct n) = eq-eqb n n refl
same_ty_self (ty.Pointer stars b) = and_from _ _ (eq-eqb stars stars refl) (same_base_self b)
same_ty_self (ty.Array stars b length) =
    and_from _ _ (eq-eqb stars stars refl) (and_from _ _ (same_base_self b) (eq-eqb length length refl))

-- LOCALS
inits_fit : (scope : Scope) (k : ℕ) (locals : List TypedLocal) →
    ((i : ℕ) (l : TypedLocal) → slice_get locals i ≡ Some l → slice_get scope.locals (k + i) ≡ Some l.ty) →
    list_all (local_fits scope) locals ≡ true → InitsFit scope k locals
inits_fit scope k [] at h = tt
inits_fit scope k (l ∷ ls) at h =
    let here : k + 0 ≡ k = omega numbers in
    let first = and_first (local_fits scope l) _ h in (
      ap (λ o. is_type o l.ty) (sym (ap (slice_get scope.locals) here) ∙ at 0 l refl) ∙ same_ty_self l.ty,
      and_first (init_fits scope l.ty l.init) _ (and_rest (variable_fits scope.structs l.ty) _ first),
      inits_fit scope (suc k) ls (λ i m is. ap (slice_get scope.locals) (next k i) ∙ at (suc i) m is)
          (and_rest (local_fits scope l) _ h),
    ) where
      next : (k i : ℕ) → suc k + i ≡ k + suc i
      next k i = omega numbers

total_at : {A : Type 0} (f : A → ℕ) (xs : List A) (i : ℕ) (x : A) → slice_get xs i ≡ Some x → f x ≤ total (map f xs)
total_at f [] i x is = absurd (cc)
total_at f (y ∷ ys) zero x is = let same : y ≡ x =
    cc in subst (λ z. f z ≤ f y + total (map f ys)) same (by (f y) (total (map f ys))) where
      by : (a b : ℕ) → a ≤ a + b
      by a b = omega numbers
total_at f (y ∷ ys) (suc i) x is = by (f y) (total (map f ys)) (f x) (total_at f ys i x is) where
  by : (a b c : ℕ) → c ≤ b → c ≤ a + b
  by a b c h = omega (numbers, h)

-- words enter from outside
scalar_cells : (structs : List TypedStruct) (t : Ty) (s : Scalar) → same_ty t (scalar_ty s) ≡ true →
    (cells_of structs t == 1) ≡ true
scalar_cells structs ty.Int s h = refl
scalar_cells structs ty.Unsigned s h = refl
scalar_cells structs (ty.Struct n) scalar.Int h = absurd (false≢true h)
scalar_cells structs (ty.Struct n) scalar.Unsigned h = absurd (false≢true h)
scalar_cells structs (ty.Pointer stars b) s h = refl
scalar_cells structs (ty.Array stars b length) scalar.Int h = absurd (false≢true h)
scalar_cells structs (ty.Array stars b length) scalar.Unsigned h = absurd (false≢true h)

words_pass : (structs : List TypedStruct) (params : List TypedParam) (scalars : List Scalar) (rest : List ℕ) →
    same_types (map {A = TypedParam} (λ p. p.ty) params) (map scalar_ty scalars) ≡ true →
    passes_words (length params) (map {A = TypedParam} (λ p. cells_of structs p.ty) params ++ rest) ≡ true
words_pass structs [] scalars rest h = refl
words_pass structs (p ∷ params) [] rest h = absurd (false≢true h)
words_pass structs (p ∷ params) (s ∷ scalars) rest h =
    and_from _ _ (scalar_cells structs p.ty s (and_first (same_ty p.ty (scalar_ty s)) _ h))
    (words_pass structs params scalars rest (and_rest (same_ty p.ty (scalar_ty s)) _ h))

-- variables have few cells
small : (structs : List TypedStruct) (t : Ty) → variable_fits structs t ≡ true → cells_of structs t ≤ most_cells
small structs t h =
    leb-true (cells_of structs t) most_cells (and_rest (type_within (length structs) (length structs) t) _ h)

small_params : (structs : List TypedStruct) (params : List TypedParam) →
    list_all {X = TypedParam} (λ p. passed_fits structs p.ty) params ≡ true →
    All {X = TypedParam} (λ p. cells_of structs p.ty ≤ most_cells) params
small_params structs params h k d within =
    let t : Ty = (slice_index_or params k d).ty in
    small structs t (and_rest (not (is_array t)) _
    (AllPass-from_list_all {X = TypedParam} (λ p. passed_fits structs p.ty) params h k d within))

small_locals : (scope : Scope) (locals : List TypedLocal) → list_all (local_fits scope) locals ≡ true →
    All {X = TypedLocal} (λ l. cells_of scope.structs l.ty ≤ most_cells) locals
small_locals scope locals h k d within =
    let t : Ty = (slice_index_or locals k d).ty in
    small scope.structs t (and_first (variable_fits scope.structs t) _
    (AllPass-from_list_all (local_fits scope) locals h k d within))

module _ (program : ProgramTree) (typed : is_well_typed program ≡ true) where
  abbrev interfaces : Interfaces
  interfaces = program.interfaces

  -- what a function of a section fits
  pub record Fitting (callable : Callable) (section : TypedSection) (f : TypedFunction) : Type 0 where
    pub few : length f.params ≤ most_params
    pub passed : list_all {X = TypedParam} (λ p. passed_fits section.structs p.ty) f.params ≡ true
    pub locals : list_all (local_fits (scope_of section f)) f.locals ≡ true
    pub body : body_fits (scope_of section f) callable f.result f.body ≡ true

  fitting : (callable : Callable) (section : TypedSection) (f : TypedFunction) →
      function_fits callable section f ≡ true → Fitting callable section f
  fitting callable section f h =
      let following = and_rest (nat_le (length f.params) most_params) _ h in
      let later =
      and_rest (result_fits section.structs f.result)
      _ (and_rest (list_all {X = TypedParam} (λ p. passed_fits section.structs p.ty) f.params) _ following) in
      record {
        few = leb-true (length f.params) most_params (and_first (nat_le (length f.params) most_params) _ h);
        passed = and_first (list_all {X = TypedParam} (λ p. passed_fits section.structs p.ty) f.params) _ following;
        locals = and_first (list_all (local_fits (scope_of section f)) f.locals) _ later;
        body =
            and_first (body_fits (scope_of section f) callable f.result f.body)
            _ (and_rest (list_all (local_fits (scope_of section f)) f.locals) _ later);
      }

  functions_fit : (interface : Interface) (section : TypedSection) → Placed interfaces interface section →
      list_all (function_fits (callable_in interfaces interface section) section) section.functions ≡ true
  functions_fit interface section placed =
      and_first (list_all (function_fits (callable_in interfaces interface section) section) section.functions)
      _ (and_rest (list_all (global_fits section.structs) section.globals)
      _ (and_rest (structs_fit section.structs 0 section.structs) _ placed.fits))

  pub function_at : (interface : Interface) (section : TypedSection) → Placed interfaces interface section →
      (n : ℕ) (f : TypedFunction) → slice_get section.functions n ≡ Some f →
      Fitting (callable_in interfaces interface section) section f
  function_at interface section placed n f item =
      fitting (callable_in interfaces interface section) section f
      (all_at (function_fits (callable_in interfaces interface section) section) section.functions
      (functions_fit interface section placed) n f item)

  abbrev pub names : Interface → TypedSection → Bool
  names interface section =
      are_distinct (map (import_name interfaces) interface.imports ++ map {A = TypedFunction} (λ f. f.name)
      section.functions)

  pub exports_fit : (interface : Interface) (section : TypedSection) → Placed interfaces interface section →
      list_all (export_fits section.functions) interface.exports ≡ true
  exports_fit interface section placed =
      and_first (list_all (export_fits section.functions) interface.exports)
      _ (and_rest (are_distinct (map {A = Proto} (λ p. p.name) interface.exports)) _ (and_rest (names interface section)
      _ placed.interface_fitting))

  few_exported : (interface : Interface) (section : TypedSection) → Placed interfaces interface section →
      length interface.exports ≤ most_exports
  few_exported interface section placed =
      leb-true (length interface.exports) most_exports (and_first (nat_le (length interface.exports) most_exports)
      _ (and_rest (list_all (import_fits interfaces placed.number) interface.imports)
      _ (and_rest (list_all (export_fits section.functions) interface.exports)
      _ (and_rest (are_distinct (map {A = Proto} (λ p. p.name) interface.exports)) _ (and_rest (names interface section)
      _ placed.interface_fitting)))))

  -- an export has a function with its head
  pub any_headed : (functions : List TypedFunction) (proto : Proto) → export_fits functions proto ≡ true →
      list_any {X = TypedFunction} (λ f. bytes_eq f.name proto.name && same_signature (signature_of f)
      (proto_signature proto)) functions ≡ true
  any_headed functions proto h =
      and_rest (not (bytes_eq proto.name main_name)) _ (and_rest (is_plain_name proto.name) _ h)

  proto_few : (interface : Interface) (section : TypedSection) → Placed interfaces interface section →
      (proto : Proto) →
      export_fits section.functions proto ≡ true → length proto.params ≤ most_params
  proto_few interface section placed proto h =
      let test : TypedFunction → Bool =
      λ f. bytes_eq f.name proto.name && same_signature (signature_of f) (proto_signature proto) in
      let one = first_of test section.functions (any_headed section.functions proto h) in
      let passing = found_passes test section.functions one.number one.found in
      let same = and_first (same_types (signature_of passing.item).params (proto_signature proto).params)
      _ (and_rest (bytes_eq passing.item.name proto.name) _ passing.passes) in
      let count : length proto.params ≡ length passing.item.params =
      sym (length-map proto.params scalar_ty)
      ∙ sym (types_length (signature_of passing.item).params (proto_signature proto).params same)
      ∙ length-map passing.item.params (λ p. p.ty) in
      subst (λ m. m ≤ most_params) (sym count) (function_at interface section placed one.number passing.item
      passing.is).few

  export_few : (to index : ℕ) (proto : Proto) → export_at interfaces to index ≡ Some proto →
      length proto.params ≤ most_params
  export_few to index proto h =
      let found : After {A = Interface} (λ i. slice_get i.exports index) (comp_at interfaces to) proto =
      following (λ i. slice_get i.exports index) (comp_at interfaces to) proto h in
      let place = for_interface interfaces 0 interfaces.comps program.sections (sections_so program typed)
      to found.item
      found.is in
      proto_few found.item place.section place.placed proto (all_at (export_fits place.section.functions)
      found.item.exports (exports_fit found.item place.section place.placed) index proto found.gives)

  module _ (comp : ℕ) (section : TypedSection) (is : slice_get program.sections comp ≡ Some section) where
    pub place : ForSection interfaces interfaces.comps comp section
    place = for_section interfaces 0 interfaces.comps program.sections (sections_so program typed) comp
        section is

    abbrev pub callable : Callable
    callable = callable_in interfaces place.interface section

    -- the names of its functions differ
    pub distinct_names : are_distinct (map {A = TypedFunction} (λ f. f.name) section.functions) ≡ true
    distinct_names =
        own_names_differ (map (import_name interfaces) place.interface.imports) section.functions
        (and_first (names place.interface section) _ place.placed.interface_fitting)

    -- calls take at most 8 arguments
    own_few : (o : Option TypedFunction) (n : ℕ) (signature : Signature) → slice_get section.functions n ≡ o →
        option_map signature_of o ≡ Some signature → length signature.params ≤ most_params
    own_few None n signature at h = absurd (cc)
    own_few (Some f) n signature at h =
        let same : signature_of f ≡ signature = cc in
        subst (λ m. m ≤ most_params) (sym (length-map f.params (λ p. p.ty)) ∙ ap (λ (s : Signature). length s.params)
        same) (function_at place.interface section place.placed n f at).few

    cross_few : (o : Option Proto) (to index : ℕ) (signature : Signature) → export_at interfaces to index ≡ o →
        option_signature proto_signature o ≡ Some signature → length signature.params ≤ most_params
    cross_few None to index signature at h = absurd (cc)
    cross_few (Some proto) to index signature at h =
        let same : proto_signature proto ≡ signature = cc in
        subst (λ m. m ≤ most_params) (sym (length-map proto.params scalar_ty) ∙ ap (λ (s : Signature). length s.params)
        same) (export_few to index proto at)

    own_call_few : (n : ℕ) (signature : Signature) (at : List ℕ) →
        target_signature callable (target.Own n) ≡ Some signature → length at ≡ length signature.params →
        nat_le (length at) most_params ≡ true
    own_call_few n signature at h count =
        le-leb (length at) most_params (subst (λ m. m ≤ most_params) (sym count)
        (own_few (slice_get section.functions n) n signature refl (sym (slice_get-map signature_of section.functions n)
        ∙ h)))

    cross_call_few : (to index : ℕ) (signature : Signature) (at : List ℕ) →
        target_signature callable (target.Cross to index) ≡ Some signature → length at ≡ length signature.params →
        nat_le (length at) most_params ≡ true
    cross_call_few to index signature at h count =
        le-leb (length at) most_params (subst (λ m. m ≤ most_params) (sym count)
        (cross_few (export_at interfaces to index) to index signature refl
        (found_allowed (list_any (same_import (import.Function to index)) place.interface.imports)
        (option_signature proto_signature (export_at interfaces to index)) signature h)))

    -- tests that what is emitted passes
    module _ (temps : ℕ) (scope : Scope) (result : Option Ty) where
      abbrev Passes : (TacStmt-F Bool → Bool) → Type 0
      Passes = PassedByAll temps scope callable result

      output_names_own : (v : ℕ) (dest : Option ℕ) (at : List ℕ) → first_temp at ≡ v →
          FitsCall temps scope callable target.Output dest at → list_all (own temps) (v ∷ []) ≡ true
      output_names_own v dest at is call =
          subst (λ v. list_all (own temps) (v ∷ []) ≡ true) is (own_first temps at
          (call.count ∙ output_takes_one (list_any (same_import import.Output) place.interface.imports) call.signature
          call.is) call.every)

      temps_passed : Passes (names_own_temps temps)
      temps_passed (tac.Const d c) h = own_one temps d h.1
      temps_passed (tac.Op d o x None) h = own_two temps d x h.1 h.2
      temps_passed (tac.Op d o x (Some y)) h =
          and_from (own temps d) _ (lt-ltb d temps h.2) (own_two temps x y h.3 h.4)
      temps_passed (tac.ObjectPlace d i) h = own_one temps d h.0
      temps_passed (tac.GlobalPlace d g) h = own_one temps d h.0
      temps_passed (tac.Load d x b) h = own_two temps d x h.0 h.1
      temps_passed (tac.If c a b) h = own_one temps c h
      temps_passed (tac.Store q v) h = own_two temps q v h.0 h.1
      temps_passed (tac.Loop a b c) h = refl
      temps_passed tac.Break h = refl
      temps_passed tac.Continue h = refl
      temps_passed (tac.CallOwn dest n at) h = own_after temps dest at h.below h.every
      temps_passed (tac.CallCross dest to index at) h = own_after temps dest at h.below h.every
      temps_passed (tac.Input dest) h = own_after temps dest [] h.1.below tt
      temps_passed (tac.Output v) h = output_names_own v h.0 h.1 h.2 h.3
      temps_passed (tac.Return v) h = own_option temps v h.1
      temps_passed (tac.Copy d x) h = absurd h
      temps_passed (tac.Alloc d x words) h = own_two temps d x h.0 h.1
      temps_passed (tac.Free x) h = own_one temps x h

      objects_passed : (objects : ℕ) → objects ≡ length scope.params + length scope.locals →
          Passes (names_own_object objects)
      objects_passed objects same (tac.ObjectPlace d i) h =
          lt-ltb i objects (subst (λ m. i < m) (sym same) h.1)
      objects_passed objects same _ h = refl

      words_passed : Passes has_words
      words_passed (tac.Const d c) h = h.0
      words_passed (tac.Alloc d x words) h = few_words words h.2
      words_passed _ h = refl

      elements_passed : Passes has_elements
      elements_passed (tac.Op d o x None) h = one_counted o h.0
      elements_passed (tac.Op d o x (Some y)) h = h.1
      elements_passed _ h = refl

      operands_passed : Passes has_operands
      operands_passed (tac.Op d o x None) h = beq_same false (takes_two o) (sym h.0)
      operands_passed (tac.Op d o x (Some y)) h = beq_same true (takes_two o) (sym h.0)
      operands_passed _ h = refl

      few_passed : Passes passes_few
      few_passed (tac.CallOwn dest n at) h = own_call_few n h.signature at h.is h.count
      few_passed (tac.CallCross dest to index at) h = cross_call_few to index h.signature at h.is h.count
      few_passed _ h = refl

      returns_passed : Passes (returns_result (is_some result))
      returns_passed (tac.Return v) h = beq_same (is_some v) (is_some result) h.0
      returns_passed _ h = refl

    module _ (n : ℕ) (f : TypedFunction) (item : slice_get section.functions n ≡ Some f) where
      abbrev pub scope : Scope
      scope = scope_of section f

      fits : Fitting callable section f
      fits = function_at place.interface section place.placed n f item

      inits : InitsFit scope 0 f.locals
      inits = inits_fit scope 0 f.locals (λ i l at. by i l at) fits.locals where
        by : (i : ℕ) (l : TypedLocal) → slice_get f.locals i ≡ Some l →
            slice_get (map {A = TypedLocal} (λ l. l.ty) f.locals) (0 + i) ≡ Some l.ty
        by i l at =
            let same : 0 + i ≡ i = omega numbers in
            ap (slice_get (map {A = TypedLocal} (λ l. l.ty) f.locals)) same ∙ slice_get-map (λ l. l.ty) f.locals i
            ∙ ap (option_map (λ l. l.ty)) at

      -- addresses point to elements
      elements : PointsToElements scope section.structs
      elements =
          let following = and_rest (structs_fit section.structs 0 section.structs) _ place.placed.fits in
          points_to_elements section f (and_first (structs_fit section.structs 0 section.structs) _ place.placed.fits)
          (and_first (list_all (global_fits section.structs) section.globals) _ following) fits.passed fits.locals

      params_same : length scope.params ≡ length f.params
      params_same = length-map f.params (λ p. p.ty)

      -- the code of the body, where `params` parameters stand before the locals
      abbrev code_with : ℕ → Part
      code_with params =
          both (in_turn (inits_code section.structs params 0 f.locals)) (block_code section.structs params f.body) 0

      abbrev pub temps : ℕ
      temps = (body_code section.structs f 0).next

      within : (code_with (length scope.params)).next ≤ temps
      within = subst (λ p. (code_with p).next ≤ temps) (sym params_same) (itself temps) where
        itself : (n : ℕ) → n ≤ n
        itself n = omega numbers

      pub all : (test : TacStmt-F Bool → Bool) → PassedByAll temps scope callable f.result test →
          everywhere test (body_code section.structs f 0).code ≡ true
      all test passed =
          subst (λ p. everywhere test (code_with p).code ≡ true) params_same
          ((body_passes temps scope callable f.result test passed section.structs elements f.locals f.body inits
          fits.body).passes 0 within)

      objects_same : length (variables section.structs f) ≡ length scope.params + length scope.locals
      objects_same =
          length-append (map {A = TypedParam} (λ p. cells_of section.structs p.ty) f.params)
          (map {A = TypedLocal} (λ l. cells_of section.structs l.ty) f.locals)
          ∙ (λ i. (length-map f.params (λ p. cells_of section.structs p.ty) ∙ sym (length-map f.params (λ p. p.ty)))
          i + (length-map f.locals (λ l. cells_of section.structs l.ty) ∙ sym (length-map f.locals (λ l. l.ty))) i)

      own_temps : everywhere (names_own_temps temps) (body_code section.structs f 0).code ≡ true
      own_temps = all (names_own_temps temps) (temps_passed temps scope f.result)

      own_objects : everywhere (names_own_object (length (variables section.structs f)))
          (body_code section.structs f 0).code ≡ true
      own_objects =
          all (names_own_object (length (variables section.structs f)))
          (objects_passed temps scope f.result (length (variables section.structs f)) objects_same)

      words : everywhere has_words (body_code section.structs f 0).code ≡ true
      words = all has_words (words_passed temps scope f.result)

      elements_counted : everywhere has_elements (body_code section.structs f 0).code ≡ true
      elements_counted = all has_elements (elements_passed temps scope f.result)

      operands : everywhere has_operands (body_code section.structs f 0).code ≡ true
      operands = all has_operands (operands_passed temps scope f.result)

      few_arguments : everywhere passes_few (body_code section.structs f 0).code ≡ true
      few_arguments = all passes_few (few_passed temps scope f.result)

      results_returned : everywhere (returns_result (is_some f.result)) (body_code section.structs f 0).code ≡ true
      results_returned = all (returns_result (is_some f.result)) (returns_passed temps scope f.result)

      -- words enter
      abbrev parameters : List ℕ
      parameters = map {A = TypedParam} (λ p. cells_of section.structs p.ty) f.params

      abbrev others : List ℕ
      others = map {A = TypedLocal} (λ l. cells_of section.structs l.ty) f.locals

      main_enters : (comp == interfaces.main) ≡ true → bytes_eq f.name main_name ≡ true →
          passes_words (length f.params) (parameters ++ others) ≡ true
      main_enters here called =
          let own : comp ≡ interfaces.main = eqb-true comp interfaces.main here in
          let there : slice_get program.sections interfaces.main ≡ Some section =
          subst (λ c. slice_get program.sections c ≡ Some section) own is in
          let any : main_fits (Some section) ≡ true =
          subst (λ o. main_fits o ≡ true) there (main_so program typed) in
          let same =
          named_so main_name (λ f. same_signature (signature_of f) (record { params = []; result = Some ty.Int }))
          section.functions distinct_names any n f item called in
          words_pass section.structs f.params [] others (and_first (same_types (signature_of f).params []) _ same)

      export_enters : (o : Option ℕ) →
          position {X = Proto} (λ proto. bytes_eq f.name proto.name) place.interface.exports ≡ o →
          enters_by_words (option_map Export o) (length f.params) (parameters ++ others) ≡ true
      export_enters None at = refl
      export_enters (Some i) at =
          let found = found_passes (λ (proto : Proto). bytes_eq f.name proto.name) place.interface.exports i at in
          let headed =
          any_headed section.functions found.item (all_at (export_fits section.functions) place.interface.exports
          (exports_fit place.interface section place.placed) i found.item found.is) in
          let same = named_so found.item.name (λ f. same_signature (signature_of f) (proto_signature found.item))
          section.functions distinct_names headed n f item found.passes in
          words_pass section.structs f.params found.item.params others
          (and_first (same_types (signature_of f).params (proto_signature found.item).params) _ same)

      words_enter : enters_by_words (entry_of interfaces comp f.name) (length f.params)
          (variables section.structs f) ≡ true
      words_enter = by (comp == interfaces.main && bytes_eq f.name main_name) refl where
        by : (b : Bool) → (comp == interfaces.main && bytes_eq f.name main_name) ≡ b →
            enters_by_words (if b then Some Main else export_called interfaces comp f.name) (length f.params)
            (parameters ++ others) ≡ true
        by true own = main_enters (and_first (comp == interfaces.main) _ own)
            (and_rest (comp == interfaces.main) _ own)
        by false own =
            ap (λ (o : Option Interface). enters_by_words
            (option_map Export (position {X = Proto} (λ proto. bytes_eq f.name proto.name) (exports_of o)))
            (length f.params) (parameters ++ others)) place.is
            ∙ export_enters (position {X = Proto} (λ proto. bytes_eq f.name proto.name) place.interface.exports) refl

      few_nodes : nodes f ≤ most_nodes
      few_nodes =
          let functions = list_all (function_fits callable section) section.functions in
          let counts =
          and_rest functions _ (and_rest (list_all (global_fits section.structs) section.globals)
          _ (and_rest (structs_fit section.structs 0 section.structs) _ place.placed.fits)) in
          let small = and_first (nat_le (total (map nodes section.functions)) most_nodes) _ counts in
          by (nodes f) (total (map nodes section.functions)) (total_at nodes section.functions n f item)
          (leb-true (total (map nodes section.functions)) most_nodes small) where
            by : (a b : ℕ) → a ≤ b → b ≤ most_nodes → a ≤ most_nodes
            by a b h k = omega (numbers, h, k)

      few_locals : length scope.locals ≤ most_nodes
      few_locals = by _ _ _ _ _ (length-map f.locals (λ l. l.ty)) (locals_few f.locals) few_nodes where
        by : (n a b c p : ℕ) → n ≡ a → a ≤ b → suc p + b + c ≤ most_nodes → n ≤ most_nodes
        by n a b c p same h k = omega (numbers, same, h, k)

      params_stored : length f.params ≤ length (variables section.structs f)
      params_stored =
          subst (λ m. length f.params ≤ m) (sym objects_same) (by (length f.params) (length scope.params)
          (length scope.locals) params_same) where
            by : (a b c : ℕ) → b ≡ a → a ≤ b + c
            by a b c h = omega (numbers, h)

      few_exports : length (exports_of (comp_at interfaces comp)) ≤ most_exports
      few_exports =
          subst (λ (o : Option Interface). length (exports_of o) ≤ most_exports) (sym place.is)
          (few_exported place.interface section place.placed)

      pub function_kept : IsFunction (lowered_function interfaces comp section.structs f)
      function_kept = record {
        few_params = fits.few;
        few_nodes = few_nodes;
        few_temps = few_temps section.structs f;
        light = light section.structs f;
        params_stored = params_stored;
        words_enter = words_enter;
        own_temps = own_temps;
        own_objects = own_objects;
        words = words;
        elements = elements_counted;
        operands = operands;
        few_arguments = few_arguments;
        results_returned = results_returned;
        breaks_in_loops =
            subst (λ p. has_none stray_break (code_with p).code ≡ true) params_same
            (breaks_in_loops scope callable f.result section.structs elements f.locals f.body inits fits.body);
        continues_in_bodies = subst (λ p. has_none stray_continue (code_with p).code ≡ true) params_same
            (continues_in_bodies scope callable f.result section.structs elements f.locals f.body inits fits.body);
        assigned_first = subst (λ p. all_assigned_first temps (code_with p).code ≡ true) params_same
            (all_assigned scope callable f.result section.structs elements f.locals f.body inits fits.body temps);
      }

      pub lowerable : IsLowerable interfaces comp section.structs f
      lowerable = record {
        kept = function_kept;
        few_params = fits.few;
        few_nodes = few_nodes;
        near = function_near scope few_locals callable f.result f inits fits.body;
        few_exports = few_exports;
        param_cells = small_params section.structs f.params fits.passed;
        local_cells = small_locals (scope_of section f) f.locals fits.locals;
      }
