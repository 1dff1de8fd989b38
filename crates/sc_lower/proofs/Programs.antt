-- The code of a well-typed program keeps the rules of programs.
use Rattle.sc_lower.proofs.Common.{Bool, Entry, Export, Interface, Interfaces, IsProgram, KeepsRules, List, Main, None}
use Rattle.sc_lower.proofs.Common.{Option, ProgramTree, Proto, Some, TacFnTree, TacSection, Ty, TypedFunction}
use Rattle.sc_lower.proofs.Common.{TypedSection, [], and_first, and_from, and_rest, any_along, ap, are_distinct}
use Rattle.sc_lower.proofs.Common.{are_entered, arith as numbers, beq, bytes_eq, comp_at, count, entry_known, entry_of}
use Rattle.sc_lower.proofs.Common.{eq-eqb, export_at, export_called, export_fits, exports_entered, exports_of, false}
use Rattle.sc_lower.proofs.Common.{false≢true, found_passes, if◌then◌else◌, implies, interface_fits, is_entered}
use Rattle.sc_lower.proofs.Common.{is_main, is_some, is_well_typed, length, length-map, list_all, list_any}
use Rattle.sc_lower.proofs.Common.{lowered_function, lowered_program, lowered_section, lowered_sections, main_entered}
use Rattle.sc_lower.proofs.Common.{main_fits, main_name, mains_so, map, name_of, named_so, not, not-true, numbered}
use Rattle.sc_lower.proofs.Common.{option_and_then, option_map, position, proto_signature, refl, result_ty}
use Rattle.sc_lower.proofs.Common.{same_either_way, same_entry, same_results, same_signature, same_text, same_types}
use Rattle.sc_lower.proofs.Common.{scalar_ty, section_fits, sections_fit, sections_so, signature_of, slice_get, subst}
use Rattle.sc_lower.proofs.Common.{suc, sym, true, truth, types_length, ℕ, ◌&&◌, ◌+◌, ◌==◌, ◌||◌, ◌∙◌, ◌∷◌, ◌≡◌}
use Rattle.sc_core.specs.declared.ty.Ty.TheVariants as ty
use Rattle.sc_lower.proofs.Entries.{first_at, main_is, called_so, export_of}
use Rattle.sc_lower.proofs.Rules.{place as place_of, any_headed, exports_fit, distinct_names, beq_same, function_kept}
use Rattle.sc_lower.proofs.Sections.{all_made, result_same, globals_named, own_called, exports_called, imports_called}

-- COUNTS
count_made : {A B : Type 0} (p : B → Bool) (g : A → B) (xs : List A) → count p (map g xs) ≡ count (λ x. p (g x)) xs
count_made p g [] = refl
count_made p g (x ∷ xs) = ap (λ n. truth (p (g x)) + n) (count_made p g xs)

count_none : {A : Type 0} (p : A → Bool) (xs : List A) → list_any p xs ≡ false → count p xs ≡ 0
count_none p [] h = refl
count_none p (x ∷ xs) h = by (p x) h (count_none p xs) where
  by : (b : Bool) → (b || list_any p xs) ≡ false → (list_any p xs ≡ false → count p xs ≡ 0) → truth b + count p xs ≡ 0
  by true h later = absurd (false≢true (sym h))
  by false h later = zero_first (count p xs) (later h) where
    zero_first : (n : ℕ) → n ≡ 0 → 0 + n ≡ 0
    zero_first n h = omega (numbers, h)

named_none : (name : List ℕ) (fs : List TypedFunction) → list_any (bytes_eq name) (map name_of fs) ≡ false →
    list_any {X = TypedFunction} (λ f. bytes_eq f.name name) fs ≡ false
named_none name [] h = refl
named_none name (f ∷ fs) h =
    ap (λ b. b || list_any {X = TypedFunction} (λ f. bytes_eq f.name name) fs) (same_either_way f.name name)
    ∙ by (bytes_eq name f.name) h (named_none name fs) where
      by : (b : Bool) → (b || list_any (bytes_eq name) (map name_of fs)) ≡ false →
          (list_any (bytes_eq name) (map name_of fs) ≡ false →
          list_any {X = TypedFunction} (λ f. bytes_eq f.name name) fs ≡ false) →
          (b || list_any {X = TypedFunction} (λ f. bytes_eq f.name name) fs) ≡ false
      by true h later = absurd (false≢true (sym h))
      by false h later = later h

-- where names differ, one function has a name
named_once : (name : List ℕ) (fs : List TypedFunction) → are_distinct (map name_of fs) ≡ true →
    list_any {X = TypedFunction} (λ f. bytes_eq f.name name) fs ≡ true →
    count {X = TypedFunction} (λ f. bytes_eq f.name name) fs ≡ 1
named_once name [] distinct h = absurd (false≢true h)
named_once name (f ∷ fs) distinct h =
    by (bytes_eq f.name name) refl h (named_once name fs (and_rest (not (list_any (bytes_eq f.name) (map name_of fs)))
    _ distinct)) where
      one_first : (n : ℕ) → n ≡ 0 → 1 + n ≡ 1
      one_first n h = omega (numbers, h)

      zero_first : (n : ℕ) → n ≡ 1 → 0 + n ≡ 1
      zero_first n h = omega (numbers, h)

      by : (b : Bool) → bytes_eq f.name name ≡ b → (b || list_any {X = TypedFunction} (λ f. bytes_eq f.name name) fs)
          ≡ true → (list_any {X = TypedFunction} (λ f. bytes_eq f.name name) fs ≡ true →
          count {X = TypedFunction} (λ f. bytes_eq f.name name) fs ≡ 1) →
          truth b + count {X = TypedFunction} (λ f. bytes_eq f.name name) fs ≡ 1
      by true is h later =
          one_first (count {X = TypedFunction} (λ f. bytes_eq f.name name) fs)
          (count_none {A = TypedFunction} (λ f. bytes_eq f.name name) fs
          (named_none name fs (subst (λ n. list_any (bytes_eq n) (map name_of fs) ≡ false) (same_text f.name name is)
          (not-true (list_any (bytes_eq f.name) (map name_of fs))
          (and_first (not (list_any (bytes_eq f.name) (map name_of fs))) _ distinct)))))
      by false is h later = zero_first (count {X = TypedFunction} (λ f. bytes_eq f.name name) fs) (later h)

results_there : (a b : Option Ty) → same_results a b ≡ true → is_some a ≡ is_some b
results_there None None h = refl
results_there None (Some t) h = absurd (false≢true h)
results_there (Some t) None h = absurd (false≢true h)
results_there (Some t) (Some u) h = refl

module _ (program : ProgramTree) (typed : is_well_typed program ≡ true) where
  abbrev interfaces : Interfaces
  interfaces = program.interfaces

  -- a test of each section of the code
  numbered_all : (test : ℕ → TacSection → Bool) (k : ℕ) (sections : List TypedSection) →
      ((i : ℕ) (section : TypedSection) → slice_get sections i ≡ Some section →
      test (k + i) (lowered_section interfaces (k + i) section) ≡ true) →
      numbered test k (lowered_sections interfaces k sections) ≡ true
  numbered_all test k [] h = refl
  numbered_all test k (x ∷ xs) h =
      let here : k + 0 ≡ k = omega numbers in
      and_from (test k (lowered_section interfaces k x)) _
      (subst (λ n. test n (lowered_section interfaces n x) ≡ true) here
      (h 0 x refl))
      (numbered_all test (suc k) xs (λ i section at. subst
      (λ n. test n (lowered_section interfaces n section) ≡ true)
      (next k i) (h (suc i) section at))) where
        next : (k i : ℕ) → k + suc i ≡ suc k + i
        next k i = omega numbers

  each_section : (test : ℕ → TacSection → Bool) →
      ((comp : ℕ) (section : TypedSection) → slice_get program.sections comp ≡ Some section →
      test comp (lowered_section interfaces comp section) ≡ true) →
      numbered test 0 (lowered_sections interfaces 0 program.sections) ≡ true
  each_section test h =
      numbered_all test 0 program.sections
      (λ i section at. subst (λ n. test n (lowered_section interfaces n section) ≡ true)
      (first i) (h i section at)) where
        first : (i : ℕ) → i ≡ 0 + i
        first i = omega numbers

  lowered_length : (k : ℕ) (sections : List TypedSection) →
      length (lowered_sections interfaces k sections) ≡ length sections
  lowered_length k [] = refl
  lowered_length k (x ∷ xs) = ap suc (lowered_length (suc k) xs)

  fit_length : (k : ℕ) (comps : List Interface) (sections : List TypedSection) →
      sections_fit interfaces k comps sections ≡ true → length sections ≡ length comps
  fit_length k [] [] h = refl
  fit_length k [] (y ∷ ys) h = absurd (false≢true h)
  fit_length k (x ∷ xs) [] h = absurd (false≢true h)
  fit_length k (x ∷ xs) (y ∷ ys) h =
      ap suc (fit_length (suc k) xs ys
      (and_rest (interface_fits interfaces k x y) _ (and_rest (section_fits interfaces k x y)
      _ h)))

  module _ (comp : ℕ) (section : TypedSection) (is : slice_get program.sections comp ≡ Some section) where
    abbrev lowered : TacSection
    lowered = lowered_section interfaces comp section

    abbrev interface : Interface
    interface = (place_of program typed comp section is).interface

    distinct : are_distinct (map name_of section.functions) ≡ true
    distinct = distinct_names program typed comp section is

    -- an entry by which functions of one name are entered
    entered : (entry : Entry) (name : List ℕ) (params : ℕ) (result : Bool) →
        ((f : TypedFunction) → same_entry entry (entry_of interfaces comp f.name) ≡ bytes_eq f.name name) →
        list_any {X = TypedFunction} (λ f. bytes_eq f.name name) section.functions ≡ true →
        ((n : ℕ) (f : TypedFunction) → slice_get section.functions n ≡ Some f → bytes_eq f.name name ≡ true →
        (length f.params == params && beq (is_some f.result) result) ≡ true) →
        is_entered entry params result lowered ≡ true
    entered entry name params result so any head =
        and_from _ _ (eq-eqb _ 1 (count_made (λ (f : TacFnTree). same_entry entry f.entry)
        (lowered_function interfaces comp section.structs) section.functions ∙
        ap (λ p. count p section.functions)
        (λ i f. so f i) ∙ named_once name section.functions distinct any))
        (all_made _ (lowered_function interfaces comp section.structs) section.functions
        (λ n f item. implies (same_entry entry (entry_of interfaces comp f.name))
        (length f.params == params && beq
        (is_some f.result) result) (λ k. head n f item (sym (so f) ∙ k))))

    headed : (f : TypedFunction) (types : List Ty) (result : Option Ty) →
        same_signature (signature_of f) (record { params = types; result = result }) ≡ true →
        (length f.params == length types && beq (is_some f.result) (is_some result)) ≡ true
    headed f types result h =
        and_from _ _ (eq-eqb (length f.params) (length types) (sym (length-map f.params (λ p. p.ty))
        ∙ types_length (signature_of f).params types (and_first (same_types (signature_of f).params types) _ h)))
        (beq_same (is_some f.result) (is_some result)
        (results_there f.result result (and_rest (same_types (signature_of f).params types) _ h)))

    -- an export
    export_entered : (index : ℕ) (proto : Proto) → export_at interfaces comp index ≡ Some proto →
        export_fits section.functions proto ≡ true →
        is_entered (Export index) (length proto.params) (is_some proto.result) lowered ≡ true
    export_entered index proto at fits =
        let any = any_headed program typed section.functions proto fits in
        entered (Export index) proto.name (length proto.params) (is_some proto.result)
        (λ f. export_of program typed comp section is index f.name ∙ ap (called_so f.name) at)
        (any_along {A = TypedFunction} (λ f. bytes_eq f.name proto.name && same_signature (signature_of f)
        (proto_signature proto)) (λ f. bytes_eq f.name proto.name) (λ f k. and_first (bytes_eq f.name proto.name) _ k)
        section.functions any)
        (λ n f item called.
        let same =
        headed f (map scalar_ty proto.params) (result_ty proto.result)
        (named_so proto.name (λ f. same_signature (signature_of f) (proto_signature proto)) section.functions distinct
        any n f item called) in
        subst (λ m. (length f.params == m && beq (is_some f.result) (is_some proto.result)) ≡ true)
        (length-map proto.params scalar_ty)
        (subst (λ b. (length f.params == length (map scalar_ty proto.params) && beq (is_some f.result) b) ≡ true)
        (result_same proto.result) same))

    exports_at : (k : ℕ) (protos : List Proto) →
        ((i : ℕ) (proto : Proto) → slice_get protos i ≡ Some proto →
        export_at interfaces comp (k + i) ≡ Some proto) →
        list_all (export_fits section.functions) protos ≡ true → are_entered k protos lowered ≡ true
    exports_at k [] at fits = refl
    exports_at k (proto ∷ protos) at fits =
        let here : k + 0 ≡ k = omega numbers in
        and_from _ _ (export_entered k proto (ap (export_at interfaces comp) (sym here) ∙ at 0 proto refl)
        (and_first (export_fits section.functions proto) _ fits))
        (exports_at (suc k) protos (λ i p is. ap (export_at interfaces comp) (next k i) ∙ at (suc i) p is)
        (and_rest (export_fits section.functions proto) _ fits)) where
          next : (k i : ℕ) → suc k + i ≡ k + suc i
          next k i = omega numbers

    all_entered : exports_entered (comp_at interfaces comp) lowered ≡ true
    all_entered =
        ap (λ o. exports_entered o lowered) (place_of program typed comp section is).is
        ∙ exports_at 0 interface.exports (λ i proto at. by i proto at) (exports_fit program typed interface section
        (place_of program typed comp section is).placed) where
          by : (i : ℕ) (proto : Proto) → slice_get interface.exports i ≡ Some proto →
              export_at interfaces comp (0 + i) ≡ Some proto
          by i proto at =
              let same : 0 + i ≡ i = omega numbers in
              ap (export_at interfaces comp) same
              ∙ ap (λ (o : Option Interface). option_and_then (λ found. slice_get found.exports i) o)
              (place_of program typed comp section is).is ∙ at

    -- `main`
    is_main_entered : comp ≡ interfaces.main → main_fits (Some section) ≡ true →
        is_entered Main 0 true lowered ≡ true
    is_main_entered here any =
        entered Main main_name 0 true
        (λ f. main_is interfaces comp f.name ∙
        ap (λ b. b && bytes_eq f.name main_name) (eq-eqb comp interfaces.main here))
        (any_along {A = TypedFunction} (λ f. is_main f && same_signature (signature_of f)
        (record { params = []; result = Some ty.Int })) is_main (λ f k. and_first (is_main f) _ k) section.functions
        any)
        (λ n f item called. headed f [] (Some ty.Int)
        (named_so main_name (λ f. same_signature (signature_of f) (record { params = []; result = Some ty.Int }))
        section.functions distinct any n f item called))

    -- entries
    export_known : (name : List ℕ) (o : Option ℕ) →
        position {X = Proto} (λ proto. bytes_eq name proto.name) interface.exports ≡ o →
        entry_known interfaces comp (option_map Export o) ≡ true
    export_known name None at = refl
    export_known name (Some i) at =
        ap (λ (o : Option Interface). is_some (option_and_then (λ found. slice_get found.exports i) o))
        (place_of program typed comp section is).is
        ∙ ap is_some (found_passes (λ (proto : Proto). bytes_eq name proto.name) interface.exports i at).is

    known : (name : List ℕ) → entry_known interfaces comp (entry_of interfaces comp name) ≡ true
    known name = by (comp == interfaces.main && bytes_eq name main_name) refl where
      by : (b : Bool) → (comp == interfaces.main && bytes_eq name main_name) ≡ b →
          entry_known interfaces comp (if b then Some Main else export_called interfaces comp name) ≡ true
      by true own = and_first (comp == interfaces.main) _ own
      by false own =
          ap (λ (o : Option Interface). entry_known interfaces comp
          (option_map Export (position {X = Proto} (λ proto. bytes_eq name proto.name) (exports_of o))))
          (place_of program typed comp section is).is
          ∙ export_known name (position {X = Proto} (λ proto. bytes_eq name proto.name) interface.exports) refl

  main_so : main_entered (slice_get (lowered_sections interfaces 0 program.sections) interfaces.main) ≡
      true
  main_so = ap main_entered (first_at interfaces program.sections interfaces.main) ∙
      by (slice_get program.sections interfaces.main)
      refl (and_first (main_fits (slice_get program.sections interfaces.main)) _ (mains_so program typed)) where
        by : (o : Option TypedSection) → slice_get program.sections interfaces.main ≡ o → main_fits o ≡ true →
            main_entered (option_map (lowered_section interfaces interfaces.main) o) ≡ true
        by None at h = absurd (false≢true h)
        by (Some section) at h = is_main_entered interfaces.main section at refl h

  pub program_kept : IsProgram (lowered_program program)
  program_kept = record {
    sections = lowered_length 0 program.sections ∙ fit_length 0 interfaces.comps program.sections
        (sections_so program typed);
    numbers =
        each_section _ (λ comp section is. all_made _ (lowered_function interfaces comp section.structs)
        section.functions
        (λ n f item. eq-eqb comp comp refl));
    globals = each_section _ (λ comp section is. globals_named program typed comp section is);
    own_calls = each_section _ (λ comp section is. own_called program typed comp section is);
    cross_calls = each_section _ (λ comp section is. exports_called program typed comp section is);
    imported = each_section _ (λ comp section is. imports_called program typed comp section is);
    exported = each_section _ (λ comp section is. all_entered comp section is);
    main_there = main_so;
    entries =
        each_section _ (λ comp section is. all_made _ (lowered_function interfaces comp section.structs)
        section.functions
        (λ n f item. known comp section is f.name));
  }

pub keeps_rules : KeepsRules
keeps_rules program typed = record {
  functions = λ comp section is number f item. function_kept program typed comp section is number f item;
  programs = program_kept program typed;
}
