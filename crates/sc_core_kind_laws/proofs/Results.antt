-- What functions of a well-typed program return, and which calls they ask for.
use Rattle.sc_core_kind_laws.proofs.Common.{Arith, BadType, Body, Bool, CallTarget, Callable, Denotations, Function}
use Rattle.sc_core_kind_laws.proofs.Common.{Here, Interface, Interfaces, List, None, Null, Option, Piece, ProgramTree}
use Rattle.sc_core_kind_laws.proofs.Common.{Ptr, Reached, Roles, Signature, Some, State, Stopped, Ty, TypedFunction}
use Rattle.sc_core_kind_laws.proofs.Common.{TypedSection, Value, Word, [], allowed, and_first, and_from, and_rest}
use Rattle.sc_core_kind_laws.proofs.Common.{and_then, ap, are_distinct, back_own, begun, bodies_of, body_does}
use Rattle.sc_core_kind_laws.proofs.Common.{body_fits, bytes_eq, call_cross, call_own, callable_in, called, calls}
use Rattle.sc_core_kind_laws.proofs.Common.{closed, crossing, denotations_of, done, entry_in, eq-eqb, eqb-true}
use Rattle.sc_core_kind_laws.proofs.Common.{export_fits, false, false≢true, found, function, function_at, function_fits}
use Rattle.sc_core_kind_laws.proofs.Common.{function_of, functions_in, global_fits, has_kind, have_kinds, if◌then◌else◌}
use Rattle.sc_core_kind_laws.proofs.Common.{import_name, is_plain_name, is_pointer, is_some, is_well_typed, is_word}
use Rattle.sc_core_kind_laws.proofs.Common.{leads, length, list_all, list_any, local_fits, main_fits, main_name, map}
use Rattle.sc_core_kind_laws.proofs.Common.{may_call, most_params, nat_le, not, option_and_then, option_map}
use Rattle.sc_core_kind_laws.proofs.Common.{option_map_or, option_signature, option_value, passed_fits, performs}
use Rattle.sc_core_kind_laws.proofs.Common.{place_of_export, position, proto_signature, refl, result_fits, result_ty}
use Rattle.sc_core_kind_laws.proofs.Common.{returns_kind, rows_left, run_step, same_import, same_results}
use Rattle.sc_core_kind_laws.proofs.Common.{same_signature, same_types, scalar_ty, scope_of, scripted_step}
use Rattle.sc_core_kind_laws.proofs.Common.{section_functions, signature_of, slice_get, slice_index_or, structs_fit}
use Rattle.sc_core_kind_laws.proofs.Common.{subst, suc, sym, target_signature, true, turn, word_back, zero, ℕ, ◌&&◌}
use Rattle.sc_core_kind_laws.proofs.Common.{◌++◌, ◌==◌, ◌∙◌, ◌∷◌, ◌≡◌}
use Rattle.sc_event.specs.Prelude.{comp_at, export_at, imports, is_function, is_input, is_output, takes}
use Rattle.std.proofs.lemmas.Option.{slice_get-map}
use Rattle.std.proofs.lemmas.List.{length-map}
use Rattle.sc_event.specs.declared.interface.Proto.{Proto}
use Rattle.sc_event.specs.declared.interface.Scalar.{Scalar}
use Rattle.sc_event.specs.declared.interface.Scalar.TheVariants as scalar
use Rattle.sc_event.specs.declared.interface.Import.{Import}
use Rattle.sc_event.specs.declared.interface.Import.TheVariants as import
use Rattle.sc_event.specs.declared.row.Entry.TheVariants.{Export}
use Rattle.sc_core.specs.declared.ty.Ty.TheVariants as ty
use Rattle.sc_core.specs.declared.expr.CallTarget.TheVariants.{Own, Cross, Input, Output}
use Rattle.sc_core.specs.declared.run.RunEnd.TheVariants.{Blamed}
use Rattle.sc_core_kind_laws.proofs.Values.{same_kind}
use Rattle.sc_core_kind_laws.proofs.Pieces.{Lasting, Same, Any, then_same, ExitOk}
use Rattle.sc_core_kind_laws.proofs.Bodies.{CallsFit, body_same, closed_same}
use Rattle.sc_core_kind_laws.proofs.Sections.{ForSection, for_section, for_interface, index_map, all_at, first_of}
use Rattle.sc_core_kind_laws.proofs.Sections.{found_passes, main_so, sections_so, any_along, named_so, own_names_differ}

-- OPTIONS
record Of {A B : Type 0} (f : A → B) (o : Option A) (y : B) : Type 0 where
  pub item : A
  pub is : o ≡ Some item
  pub gives : f item ≡ y

map_of : {A B : Type 0} (f : A → B) (o : Option A) (y : B) → option_map f o ≡ Some y → Of f o y
map_of f None y h = absurd (cc)
map_of f (Some x) y h = record { item = x; is = refl; gives = cc }

signature_made : {A : Type 0} (f : A → Signature) (o : Option A) (y : Signature) → option_signature f o ≡ Some y →
    Of f o y
signature_made f None y h = absurd (cc)
signature_made f (Some x) y h = record { item = x; is = refl; gives = cc }

record Allowed (b : Bool) (o : Option Signature) (y : Signature) : Type 0 where
  pub test : b ≡ true
  pub is : o ≡ Some y

allowed_so : (b : Bool) (o : Option Signature) (y : Signature) → allowed b o ≡ Some y → Allowed b o y
allowed_so true o y h = record { test = refl; is = h }
allowed_so false o y h = absurd (cc)

pub record After {A B : Type 0} (f : A → Option B) (o : Option A) (y : B) : Type 0 where
  pub item : A
  pub is : o ≡ Some item
  pub gives : f item ≡ Some y

pub following : {A B : Type 0} (f : A → Option B) (o : Option A) (y : B) → option_and_then f o ≡ Some y → After f o y
following f None y h = absurd (cc)
following f (Some x) y h = record { item = x; is = refl; gives = h }

-- KINDS OF LISTS
kinds_length : (types : List Ty) (vs : List Value) → have_kinds types vs ≡ true → length types ≡ length vs
kinds_length [] [] h = refl
kinds_length [] (v ∷ vs) h = absurd (false≢true h)
kinds_length (t ∷ types) [] h = absurd (false≢true h)
kinds_length (t ∷ types) (v ∷ vs) h = ap suc (kinds_length types vs (and_rest (has_kind t v) _ h))

word_of_kind : (s : Scalar) (v : Value) → has_kind (scalar_ty s) v ≡ true → is_word v ≡ true
word_of_kind scalar.Int (Word w) h = refl
word_of_kind scalar.Int Null h = h
word_of_kind scalar.Int (Ptr p) h = h
word_of_kind scalar.Unsigned (Word w) h = refl
word_of_kind scalar.Unsigned Null h = h
word_of_kind scalar.Unsigned (Ptr p) h = h

words_of_kinds : (scalars : List Scalar) (vs : List Value) → have_kinds (map scalar_ty scalars) vs ≡ true →
    list_all is_word vs ≡ true
words_of_kinds [] [] h = refl
words_of_kinds [] (v ∷ vs) h = absurd (false≢true h)
words_of_kinds (s ∷ scalars) [] h = refl
words_of_kinds (s ∷ scalars) (v ∷ vs) h =
    and_from (is_word v) (list_all is_word vs) (word_of_kind s v (and_first (has_kind (scalar_ty s) v) _ h))
    (words_of_kinds scalars vs (and_rest (has_kind (scalar_ty s) v) _ h))

one_word : (vs : List Value) → have_kinds (ty.Int ∷ []) vs ≡ true → (length vs == 1 && list_all is_word vs) ≡ true
one_word [] h = absurd (false≢true h)
one_word (Word w ∷ []) h = refl
one_word (Null ∷ []) h = absurd (false≢true h)
one_word (Ptr p ∷ []) h = absurd (false≢true h)
one_word (v ∷ x ∷ vs) h = absurd (false≢true (and_rest (has_kind ty.Int v) _ h))

-- what crosses is a word where a result is promised
crossed_kind : (r : Option Scalar) (v : Option Value) → returns_kind (result_ty r) (option_value (word_back r v)) ≡ true
crossed_kind None v = refl
crossed_kind (Some scalar.Int) None = refl
crossed_kind (Some scalar.Int) (Some v) = refl
crossed_kind (Some scalar.Unsigned) None = refl
crossed_kind (Some scalar.Unsigned) (Some v) = refl

scalar_kind : (s : Scalar) → is_pointer (scalar_ty s) ≡ false
scalar_kind scalar.Int = refl
scalar_kind scalar.Unsigned = refl

-- a value of a scalar's kind crosses as it is
crossing_itself : (r : Option Scalar) (own : Option Ty) → same_results own (result_ty r) ≡ true → (v : Option Value) →
    returns_kind own v ≡ true → option_value (word_back r v) ≡ v
crossing_itself None None same None h = refl
crossing_itself None None same (Some v) h = absurd (false≢true h)
crossing_itself None (Some t) same v h = absurd (false≢true same)
crossing_itself (Some s) None same v h = absurd (false≢true same)
crossing_itself (Some s) (Some t) same None h = absurd (false≢true h)
crossing_itself (Some s) (Some t) same (Some (Word w)) h = refl
crossing_itself (Some s) (Some t) same (Some Null) h =
    absurd (false≢true (sym (same_kind t (scalar_ty s) same ∙ scalar_kind s) ∙ h))
crossing_itself (Some s) (Some t) same (Some (Ptr p)) h =
    absurd (false≢true (sym (same_kind t (scalar_ty s) same ∙ scalar_kind s) ∙ h))

int_returned : (r : Option Ty) → same_results r (Some ty.Int) ≡ true → returns_kind r (Some (Word 0)) ≡ true
int_returned None h = absurd (false≢true h)
int_returned (Some t) h = ap not (same_kind t ty.Int h)

-- IMPORTS
pub function_imported : (to index : ℕ) (x : Import) → same_import (import.Function to index) x ≡ true →
    is_function to index x ≡ true
function_imported to index import.Input h = h
function_imported to index import.Output h = h
function_imported to index (import.Function owner place) h =
    and_from (owner == to) (place == index) (eq-eqb owner to (sym (eqb-true to owner (and_first (to == owner) _ h))))
    (eq-eqb place index (sym (eqb-true index place (and_rest (to == owner) _ h))))

pub input_imported : (x : Import) → same_import import.Input x ≡ true → is_input x ≡ true
input_imported import.Input h = refl
input_imported import.Output h = h
input_imported (import.Function owner place) h = h

pub output_imported : (x : Import) → same_import import.Output x ≡ true → is_output x ≡ true
output_imported import.Input h = h
output_imported import.Output h = refl
output_imported (import.Function owner place) h = h

-- PIECES
lasting_then : {V W : Type 0} (G : V → Type 0) (H : W → Type 0) (o : Piece V) (k : V → State → Piece W) → Lasting G o →
    ((v : V) → G v → (s : State) → Lasting H (k v s)) → Lasting H (and_then o k)
lasting_then G H (Reached v s) k h x = x v h s
lasting_then G H (Stopped end s) k h x = tt

any_lasting : {V : Type 0} (o : Piece V) → Lasting Any o
any_lasting (Reached v s) = tt
any_lasting (Stopped end s) = tt

found_lasting : {V : Type 0} (o : Option V) (s : State) → Lasting (λ v. o ≡ Some v) (found o s)
found_lasting None s = tt
found_lasting (Some v) s = refl

pub reached_good : {V : Type 0} (G : V → Type 0) (o : Piece V) (v : V) (t : State) → o ≡ Reached v t → Lasting G o → G v
reached_good G o v t is h = subst (Lasting G) is h

-- EXPORTS
-- an export, with what its interface keeps, and the section that has its function
pub record Exported (program : ProgramTree) (to index : ℕ) (proto : Proto) : Type 0 where
  pub interface : Interface
  pub interface_found : comp_at program.interfaces to ≡ Some interface
  pub at : slice_get interface.exports index ≡ Some proto
  pub section : TypedSection
  pub is : slice_get program.sections to ≡ Some section
  pub fits : export_fits section.functions proto ≡ true
  pub named : list_any {X = TypedFunction} (λ f. bytes_eq f.name proto.name &&
      same_signature (signature_of f) (proto_signature proto)) section.functions ≡ true
  pub exports_differ : are_distinct (map {A = Proto} (λ p. p.name) interface.exports) ≡ true
  pub functions_differ : are_distinct (map {A = TypedFunction} (λ f. f.name) section.functions) ≡ true

pub exported : (program : ProgramTree) → is_well_typed program ≡ true → (to index : ℕ) (proto : Proto) →
    export_at program.interfaces to index ≡ Some proto → Exported program to index proto
exported program typed to index proto h =
    let found : After {A = Interface} (λ i. slice_get i.exports index) (comp_at program.interfaces to) proto =
    following (λ i. slice_get i.exports index) (comp_at program.interfaces to) proto h in
    let place = for_interface program.interfaces 0 program.interfaces.comps program.sections
    (sections_so program typed) to found.item found.is in
    let names = are_distinct (map (import_name program.interfaces) found.item.imports ++
    map {A = TypedFunction} (λ f. f.name) place.section.functions) in
    let own = are_distinct (map {A = Proto} (λ p. p.name) found.item.exports) in
    let exports = list_all (export_fits place.section.functions) found.item.exports in
    let rest = and_rest names _ place.placed.interface_fitting in
    let fits = all_at (export_fits place.section.functions) found.item.exports
    (and_first exports _ (and_rest own _ rest)) index proto found.gives in
    record {
      interface = found.item;
      interface_found = found.is;
      at = found.gives;
      section = place.section;
      is = place.is;
      fits = fits;
      named = and_rest (not (bytes_eq proto.name main_name)) _ (and_rest (is_plain_name proto.name) _ fits);
      exports_differ = and_first own _ rest;
      functions_differ = own_names_differ (map (import_name program.interfaces) found.item.imports)
          place.section.functions (and_first names _ place.placed.interface_fitting);
    }

module _ (arith : Arith) (program : ProgramTree) (typed : is_well_typed program ≡ true) (roles : Roles) where
  abbrev L : Denotations
  L = denotations_of arith program

  abbrev interfaces : Interfaces
  interfaces = program.interfaces

  -- DENOTED FUNCTIONS
  denoted_function : (comp : ℕ) (section : TypedSection) → slice_get program.sections comp ≡ Some section → (n : ℕ) →
      function L comp n ≡ option_map (function_of arith interfaces.main section.structs)
      (slice_get section.functions n)
  denoted_function comp section is n =
      ap (λ fs. slice_get fs n) (index_map (functions_in arith interfaces.main) program.sections comp section is)
      ∙ slice_get-map (function_of arith interfaces.main section.structs) section.functions n

  -- a function with its section and its interface
  record Whole (comp n : ℕ) (f : TypedFunction) : Type 0 where
    pub section : TypedSection
    pub is : slice_get program.sections comp ≡ Some section
    pub item : slice_get section.functions n ≡ Some f

  whole : (comp n : ℕ) (f : TypedFunction) → function_at program comp n ≡ Some f → Whole comp n f
  whole comp n f h = by (slice_get program.sections comp) refl h where
    by : (o : Option TypedSection) → slice_get program.sections comp ≡ o → slice_get (section_functions o) n ≡ Some f →
        Whole comp n f
    by None is h = absurd (cc)
    by (Some section) is h = record { section = section; is = is; item = h }

  function_is : (comp n : ℕ) (f : TypedFunction) (w : Whole comp n f) →
      function L comp n ≡ Some (function_of arith interfaces.main w.section.structs f)
  function_is comp n f w = denoted_function comp w.section w.is n ∙
      ap (option_map (function_of arith interfaces.main w.section.structs)) w.item

  -- what functions that don't perform do, if it returns, returns a value of the result's kind
  abbrev BodyGood : Body → Type 0
  BodyGood body =
      (number : ℕ) (here : Here) (f : TypedFunction) → roles.scripted here.comp ≡ false →
      function_at program here.comp number ≡ Some f → (s : State) →
      Lasting (λ v. returns_kind f.result v ≡ true) (body number here s)

  leads_so : (to index : ℕ) (proto : Proto) → export_at interfaces to index ≡ Some proto →
      leads L to (entry_in program to (Export index)) ≡ true
  leads_so to index proto h =
      let at = exported program typed to index proto h in
      let any = any_along {A = TypedFunction} (λ f. bytes_eq f.name proto.name &&
      same_signature (signature_of f) (proto_signature proto)) (λ f. bytes_eq f.name proto.name)
      (λ f k. and_first (bytes_eq f.name proto.name) _ k) at.section.functions at.named in
      let first = first_of {A = TypedFunction} (λ f. bytes_eq f.name proto.name) at.section.functions any in
      let entry : entry_in program to (Export index) ≡ Some first.number =
      (λ i. place_of_export (h i) (at.is i)) ∙ first.found in
      let there : function L to first.number ≡
      Some (function_of arith interfaces.main at.section.structs first.item) =
      denoted_function to at.section at.is first.number ∙
      ap (option_map (function_of arith interfaces.main at.section.structs)) first.is in
      ap (leads L to) entry ∙ ap is_some there

  module _ (body : Body) (good : BodyGood body) (comp : ℕ) (plain : roles.scripted comp ≡ false)
      (section : TypedSection) (is : slice_get program.sections comp ≡ Some section) where
    place : ForSection interfaces interfaces.comps comp section
    place = for_section interfaces 0 interfaces.comps program.sections (sections_so program typed) comp
        section is

    abbrev callable : Callable
    callable = callable_in interfaces place.interface section

    -- an import of the compartment
    imports_so : (p q : Import → Bool) → ((x : Import) → p x ≡ true → q x ≡ true) →
        list_any p place.interface.imports ≡ true → imports interfaces comp q ≡ true
    imports_so p q on h =
        ap (λ (o : Option Interface). list_any q (option_map_or (λ found. found.imports) o [])) place.is ∙
        any_along p q on place.interface.imports h

    -- a call that fits may be made, and comes to a value of its result's kind
    record Good (target : CallTarget) (signature : Signature) (args : List Value) (s : State) : Type 0 where
      pub may : may_call L comp target args ≡ true
      pub comes : Lasting (λ v. returns_kind signature.result v ≡ true) (called L body comp target args s)

    own_good : (n : ℕ) (signature : Signature) → target_signature callable (Own n) ≡ Some signature →
        (args : List Value) (s : State) → Good (Own n) signature args s
    own_good n signature h args s =
        let f = map_of signature_of (slice_get section.functions n) signature
        (sym (slice_get-map signature_of section.functions n) ∙ h) in
        let at : function_at program comp n ≡ Some f.item = ap (λ o. slice_get (section_functions o) n) is ∙ f.is in
        let there : function L comp n ≡ Some (function_of arith interfaces.main section.structs f.item) =
        denoted_function comp section is n ∙
        ap (option_map (function_of arith interfaces.main section.structs)) f.is in
        record {
          may = ap is_some there;
          comes = lasting_then Any (λ v. returns_kind signature.result v ≡ true) (turn s)
              (λ _ s. call_own L body comp n args s) (any_lasting (turn s)) (λ u any s.
              lasting_then Any (λ v. returns_kind signature.result v ≡ true) (found (function L comp n) s)
              (λ g s. and_then (body n (record { comp = comp; first = length (s.memory comp) })
              (begun comp g args s)) (λ v t. back_own v (done comp g (length (s.memory comp)) t)))
              (any_lasting (found (function L comp n) s)) (λ g any s.
              lasting_then (λ v. returns_kind f.item.result v ≡ true) (λ v. returns_kind signature.result v ≡ true)
              (body n (record { comp = comp; first = length (s.memory comp) }) (begun comp g args s))
              (λ v t. back_own v (done comp g (length (s.memory comp)) t))
              (good n (record { comp = comp; first = length (s.memory comp) }) f.item plain at (begun comp g args s))
              (λ v k t.
              subst (λ x. returns_kind x.result v ≡ true) f.gives k)));
        }

    cross_good : (to index : ℕ) (signature : Signature) → target_signature callable (Cross to index) ≡ Some signature →
        (args : List Value) → have_kinds signature.params args ≡ true → (s : State) →
        Good (Cross to index) signature args s
    cross_good to index signature h args kinds s =
        let test = allowed_so (list_any (same_import (import.Function to index)) place.interface.imports)
        (option_signature proto_signature (export_at interfaces to index)) signature h in
        let proto = signature_made proto_signature (export_at interfaces to index) signature test.is in
        let own : have_kinds (map scalar_ty proto.item.params) args ≡ true =
        subst (λ x. have_kinds x.params args ≡ true) (sym proto.gives) kinds in
        let count : length proto.item.params ≡ length args =
        sym (length-map proto.item.params scalar_ty) ∙ kinds_length (map scalar_ty proto.item.params) args own in
        let back : (v : Option Value) → returns_kind signature.result
        (option_value (crossing (export_at interfaces to index) v)) ≡ true =
        λ v. subst (λ x. returns_kind x.result (option_value (crossing (export_at interfaces to index) v)) ≡
        true) proto.gives (subst (λ o. returns_kind (result_ty proto.item.result) (option_value (crossing o v)) ≡
        true) (sym proto.is) (crossed_kind proto.item.result v)) in
        record {
          may = and_from (imports interfaces comp (is_function to index)) _
              (imports_so (same_import (import.Function to index)) (is_function to index)
              (function_imported to index) test.test)
              (and_from (takes interfaces to index (length args)) _
              (ap (λ (o : Option Proto). option_map_or (λ found. length found.params == length args) o false) proto.is ∙
              eq-eqb (length proto.item.params) (length args) count)
              (and_from (list_all is_word args) _ (words_of_kinds proto.item.params args own)
              (leads_so to index proto.item proto.is)));
          comes = lasting_then Any (λ v. returns_kind signature.result v ≡ true) (turn s)
              (λ _ s. call_cross L body comp to index args s) (any_lasting (turn s)) (λ u any s.
              lasting_then Any (λ v. returns_kind signature.result v ≡ true) (found (L.entered to (Export index)) s) _
              (any_lasting (found (L.entered to (Export index)) s)) (λ n any s.
              lasting_then Any (λ v. returns_kind signature.result v ≡ true) (found (function L to n) _) _
              (any_lasting (found (function L to n) _)) (λ g any s.
              lasting_then Any (λ v. returns_kind signature.result v ≡ true) (body n _ _) _ (any_lasting (body n _ _))
              (λ v any t. back v))));
        }

    input_good : (signature : Signature) → target_signature callable Input ≡ Some signature →
        (args : List Value) (s : State) → Good Input signature args s
    input_good signature h args s =
        let test = allowed_so (list_any (same_import import.Input) place.interface.imports)
        (Some (record { params = []; result = Some ty.Int })) signature h in
        let same : record { params = []; result = Some ty.Int } ≡ signature = cc test.is in
        record {
          may = imports_so (same_import import.Input) is_input input_imported test.test;
          comes = subst (λ (x : Signature). Lasting (λ v. returns_kind x.result v ≡ true)
              (called L body comp Input args s)) same refl;
        }

    output_good : (signature : Signature) → target_signature callable Output ≡ Some signature → (args : List Value) →
        have_kinds signature.params args ≡ true → (s : State) → Good Output signature args s
    output_good signature h args kinds s =
        let test = allowed_so (list_any (same_import import.Output) place.interface.imports)
        (Some (record { params = ty.Int ∷ []; result = None })) signature h in
        let same : record { params = ty.Int ∷ []; result = None } ≡ signature = cc test.is in
        record {
          may = and_from (imports interfaces comp is_output) _
              (imports_so (same_import import.Output) is_output output_imported test.test)
              (one_word args (subst (λ (x : Signature). have_kinds x.params args ≡ true) (sym same) kinds));
          comes = subst (λ (x : Signature). Lasting (λ v. returns_kind x.result v ≡ true)
              (called L body comp Output args s)) same refl;
        }

    call_good : (target : CallTarget) (signature : Signature) → target_signature callable target ≡ Some signature →
        (args : List Value) → have_kinds signature.params args ≡ true → (s : State) → Good target signature args s
    call_good (Own n) signature h args kinds s = own_good n signature h args s
    call_good (Cross to index) signature h args kinds s = cross_good to index signature h args kinds s
    call_good Input signature h args kinds s = input_good signature h args s
    call_good Output signature h args kinds s = output_good signature h args kinds s

    calls_fit : CallsFit callable comp (calls L body) (called L body)
    calls_fit target signature h args kinds s =
        let call = call_good target signature h args kinds s in
        let same : called L body comp target args s ≡ calls L body comp target args s =
        sym (ap (λ b. if b then called L body comp target args s else
        Stopped (Blamed comp BadType 0) s) call.may) in
        record { same = same; good = subst (Lasting (λ v. returns_kind signature.result v ≡ true)) same call.comes }

    -- `main` of the main compartment is of type `int`
    main_int : (n : ℕ) (f : TypedFunction) → slice_get section.functions n ≡ Some f →
        (comp == interfaces.main && bytes_eq f.name main_name) ≡ true →
        returns_kind f.result (Some (Word 0)) ≡ true
    main_int n f item h =
        let here : comp ≡ interfaces.main =
        eqb-true comp interfaces.main (and_first (comp == interfaces.main) _ h) in
        let own : slice_get program.sections interfaces.main ≡ Some section =
        subst (λ c. slice_get program.sections c ≡ Some section) here is in
        let any : main_fits (Some section) ≡ true = subst (λ o. main_fits o ≡ true) own (main_so program typed) in
        let names = are_distinct (map (import_name interfaces) place.interface.imports ++
        map {A = TypedFunction} (λ f. f.name) section.functions) in
        let distinct = own_names_differ (map (import_name interfaces) place.interface.imports) section.functions
        (and_first names _ place.placed.interface_fitting) in
        let signature = named_so main_name (λ f. same_signature (signature_of f)
        (record { params = []; result = Some ty.Int })) section.functions distinct any n f item
        (and_rest (comp == interfaces.main) _ h) in
        int_returned f.result (and_rest (same_types (signature_of f).params []) _ signature)

    function_body : (n : ℕ) (f : TypedFunction) → slice_get section.functions n ≡ Some f →
        body_fits (scope_of section f) callable f.result f.body ≡ true
    function_body n f item =
        let functions = list_all (function_fits callable section) section.functions in
        let each = and_first functions _ (and_rest (list_all (global_fits section.structs) section.globals) _
        (and_rest (structs_fit section.structs 0 section.structs) _ place.placed.fits)) in
        let fits = all_at (function_fits callable section) section.functions each n f item in
        and_first (body_fits (scope_of section f) callable f.result f.body) _
        (and_rest (list_all (local_fits (scope_of section f)) f.locals) _
        (and_rest (result_fits section.structs f.result) _
        (and_rest (list_all (λ p. passed_fits section.structs p.ty) f.params) _
        (and_rest (nat_le (length f.params) most_params) _ fits))))

    does_same : (n : ℕ) (f : TypedFunction) → slice_get section.functions n ≡ Some f → (first : ℕ) (s : State) →
        Same (λ v. returns_kind f.result v ≡ true) ((function_of arith interfaces.main section.structs f).does
        (calls L body) (record { comp = comp; first = first }) s)
        ((function_of arith interfaces.main section.structs f).does (called L body)
        (record { comp = comp; first = first }) s)
    does_same n f item first s =
        let here : Here = record { comp = comp; first = first } in
        then_same (ExitOk f.result) (λ v. returns_kind f.result v ≡ true)
        (body_does arith section.structs here (length f.params) (calls L body) f tt s)
        (body_does arith section.structs here (length f.params) (called L body) f tt s)
        (λ left s. closed left.exit (is_some f.result)
        (comp == interfaces.main && bytes_eq f.name main_name) f.close_line here s)
        (λ left s. closed left.exit (is_some f.result)
        (comp == interfaces.main && bytes_eq f.name main_name) f.close_line here s)
        (body_same arith section.structs here (length f.params) (scope_of section f) callable f.result
        (calls L body) (called L body) calls_fit f (function_body n f item) tt s) (λ left ok t.
        closed_same arith section.structs here (length f.params) (scope_of section f) callable f.result (calls L body)
        (called L body) calls_fit left.exit (comp == interfaces.main && bytes_eq f.name main_name) f.close_line t
        ok
        (main_int n f item))

  run_good : (body : Body) → BodyGood body → BodyGood (run_step L body)
  run_good body good number here f plain h s =
      let w = whole here.comp number f h in
      lasting_then (λ g. function L here.comp number ≡ Some g) (λ v. returns_kind f.result v ≡ true)
      (found (function L here.comp number) s) (λ g s. g.does (calls L body) here s)
      (found_lasting (function L here.comp number) s) (λ g is t.
      let two : Some (function_of arith interfaces.main w.section.structs f) ≡ Some g =
      sym (function_is here.comp number f w) ∙ is in
      let same : function_of arith interfaces.main w.section.structs f ≡ g = cc two in
      subst (λ (x : Function). Lasting (λ v. returns_kind f.result v ≡ true) (x.does (calls L body) here t)) same
      (does_same body good here.comp plain w.section w.is number f w.item here.first t).good)

  -- a function of a compartment that doesn't perform does its own step
  step_good : (body : Body) → BodyGood body → BodyGood (scripted_step L roles (run_step L) body)
  step_good body good number here f plain h s =
      subst (λ b. Lasting (λ v. returns_kind f.result v ≡ true)
      (if b then performs L body (rows_left roles here.comp s.trace) number here s else
      run_step L body number here s)) (sym plain) (run_good body good number here f plain h s)

  abbrev its_bodies : (open_calls : ℕ) → Body
  its_bodies = bodies_of arith program roles

  pub within_good : (n : ℕ) → BodyGood (its_bodies n)
  within_good zero = λ number here f plain h s. tt
  within_good (suc n) = step_good (its_bodies n) (within_good n)

  -- `g` is the denotation of a function of the program
  record OfTree (comp n : ℕ) (g : Function) : Type 0 where
    pub section : TypedSection
    pub is : slice_get program.sections comp ≡ Some section
    pub f : TypedFunction
    pub item : slice_get section.functions n ≡ Some f
    pub same : function_of arith interfaces.main section.structs f ≡ g

  no_functions : (sections : List TypedSection) (comp : ℕ) → slice_get sections comp ≡ None →
      slice_index_or (map (functions_in arith interfaces.main) sections) comp [] ≡ []
  no_functions [] comp h = refl
  no_functions (x ∷ xs) zero h = absurd (cc)
  no_functions (x ∷ xs) (suc comp) h = no_functions xs comp h

  of_tree : (comp n : ℕ) (g : Function) → function L comp n ≡ Some g → OfTree comp n g
  of_tree comp n g h = by (slice_get program.sections comp) refl where
    by : (o : Option TypedSection) → slice_get program.sections comp ≡ o → OfTree comp n g
    by None is =
        let none : ◌≡◌ {A = Option Function} None (Some g) =
        sym (ap (λ fs. slice_get fs n) (no_functions program.sections comp is)) ∙ h in absurd (cc none)
    by (Some section) is =
        let made = map_of (function_of arith interfaces.main section.structs) (slice_get section.functions n) g
        (sym (denoted_function comp section is n) ∙ h) in
        record { section = section; is = is; f = made.item; item = made.is; same = made.gives }

  pub asks_only_callable : (n number : ℕ) (here : Here) (g : Function) → roles.scripted here.comp ≡ false →
      function L here.comp number ≡ Some g → (s : State) →
      g.does (called L (its_bodies n)) here s ≡ g.does (calls L (its_bodies n)) here s
  asks_only_callable n number here g plain h s =
      let t = of_tree here.comp number g h in
      subst (λ (x : Function). x.does (called L (its_bodies n)) here s ≡ x.does (calls L (its_bodies n)) here s)
      t.same
      (does_same (its_bodies n) (within_good n) here.comp plain t.section t.is number t.f t.item here.first s).same

  pub returned_good : (n number : ℕ) (here : Here) (f : TypedFunction) → roles.scripted here.comp ≡ false →
      function_at program here.comp number ≡ Some f →
      (s t : State) (v : Option Value) → its_bodies n number here s ≡ Reached v t → returns_kind f.result v ≡ true
  returned_good n number here f plain h s t v is =
      reached_good (λ v. returns_kind f.result v ≡ true) (its_bodies n number here s) v t is
      (within_good n number here f plain h s)

  pub crosses_itself : (n index number : ℕ) (here : Here) (proto : Proto) → roles.scripted here.comp ≡ false →
      export_at interfaces here.comp index ≡ Some proto →
      entry_in program here.comp (Export index) ≡ Some number →
      (s t : State) (v : Option Value) → its_bodies n number here s ≡ Reached v t →
      option_value (crossing (Some proto) v) ≡ v
  crosses_itself n index number here proto plain h entry s t v is =
      let at = exported program typed here.comp index proto h in
      let placed : position (λ f. bytes_eq f.name proto.name) at.section.functions ≡ Some number =
      sym (λ i. place_of_export (h i) (at.is i)) ∙ entry in
      let passing = found_passes (λ f. bytes_eq f.name proto.name) at.section.functions number placed in
      let signature = named_so proto.name (λ f. same_signature (signature_of f)
      (proto_signature proto)) at.section.functions at.functions_differ at.named number passing.item passing.is
      passing.passes in
      let own : function_at program here.comp number ≡ Some passing.item =
      ap (λ o. slice_get (section_functions o) number) at.is ∙ passing.is in
      crossing_itself proto.result passing.item.result
      (and_rest (same_types (signature_of passing.item).params (proto_signature proto).params) _ signature) v
      (returned_good n number here passing.item plain own s t v is)
