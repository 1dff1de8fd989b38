-- A text that breaks no rule is a well-typed program.
use Rattle.sc_types.proofs.Common.{AreLow, Bool, Callees, Decl, Function, FunctionTree, Interface, IsWellTyped, List}
use Rattle.sc_types.proofs.Common.{Option, SectionTree, Some, TypedSection, [], and_first, and_from, and_rest}
use Rattle.sc_types.proofs.Common.{any_passes_from_place, ap, append_assoc, are_distinct, arith, bytes_eq, callees_of}
use Rattle.sc_types.proofs.Common.{codes, counts_broken, decl_count, defines_main, environment, false, function_decls}
use Rattle.sc_types.proofs.Common.{get_after, globals_in, head_of, if◌then◌else◌, interface_broken, interface_fits}
use Rattle.sc_types.proofs.Common.{interface_of, interfaces_from, interfaces_of, is_main, is_numbered, is_well_typed}
use Rattle.sc_types.proofs.Common.{length, length-map, line_of_text, list_any, list_any-append, main_fits, main_from}
use Rattle.sc_types.proofs.Common.{main_name, mains_in, map, map-append, most_compartments, most_nodes, names_broken}
use Rattle.sc_types.proofs.Common.{nat_le, nat_tests, not, option_map, option_map_or, program_of, refl, same_Some}
use Rattle.sc_types.proofs.Common.{same_signature, section_fits, section_height, sections_fit, sections_from}
use Rattle.sc_types.proofs.Common.{signature_of, slice_get, slice_get-map, structs, structs_in, subst, suc, sym, tags}
use Rattle.sc_types.proofs.Common.{true, truth, typed_function, typed_global, typed_section, types_broken, zero, ℕ}
use Rattle.sc_types.proofs.Common.{◌&&◌, ◌++◌, ◌+◌, ◌==◌, ◌||◌, ◌∙◌, ◌∷◌, ◌≡◌, ◌≤◌}
use Rattle.sc_core.specs.declared.ty.Ty.TheVariants as ty
use Rattle.sc_types_scope.specs.Names as names
use Rattle.sc_types_elab.specs.Sections as elab
use Rattle.sc_types_interfaces.specs.Rules as interface_rules
use Rattle.sc_types.specs.Counts as counts
use Rattle.sc_types.proofs.Lookups.{rule_holds, prefix_empty, back_empty, map_empty, Each, each_empty, each_passes}
use Rattle.sc_types.proofs.Lookups.{find, none_some, Text, any_found, each_at, each_function, same_sym, FoundFunction}
use Rattle.sc_types.proofs.Lookups.{find_function}
use Rattle.sc_types.proofs.Structs.{AllSmall, structs_all_fit, structs_length}
use Rattle.sc_types.proofs.Facts.{Fresh, fresh_distinct, DeclFacts, InterfaceFacts, interface_facts, decls_hold}
use Rattle.sc_types.proofs.Facts.{CountFacts, count_facts}
use Rattle.sc_types.proofs.Calls.{input_signature, length_snoc, own_signature, plus_none, plus_zero}
use Rattle.sc_types.proofs.Callees as called
use Rattle.sc_types.proofs.Functions.{small_from, After, functions_are, globals_are, structs_known}
use Rattle.sc_types.proofs.Sections.{none_beyond, interface_is}
use Rattle.std.proofs.Math.Bool.{or-false}

-- The structs, globals and functions among declarations are no more than these.

kept_in : (decls : List Decl) →
    length (structs_in decls) + (length (globals_in decls) + length (function_decls decls)) ≤ length decls
kept_in [] = omega arith
kept_in (decl ∷ decls) = grind (arith, kept_in decls)

decl_count_is : (section : SectionTree) (callees : Callees) → decl_count (typed_section section callees) ≡
    length (structs_in section.decls) + (length (globals_in section.decls) + length (function_decls section.decls))
decl_count_is section callees = cc (
  structs_length (structs_in section.decls),
  length-map (structs_in section.decls)
      (λ tree. tree.name),
  length-map (globals_in section.decls) (typed_global (tags section)),
  length-map (function_decls section.decls) (typed_function section callees),
)

few_kept : (section : SectionTree) (callees : Callees) → nat_le (length section.decls) most_nodes ≡ true →
    nat_le (decl_count (typed_section section callees)) most_nodes ≡ true
few_kept section callees few =
    grind (arith, nat_tests, decl_count_is section callees, kept_in section.decls)

-- What each section keeps.

abbrev name_of : SectionTree → Text
name_of section = section.name

-- what holds of each item and its number, counted from one on
abbrev EachFrom : {A : Type 0} → (ℕ → A → Type 0) → ℕ → List A → Type 0
EachFrom P k [] = Unit {0}
EachFrom P k (x ∷ xs) = P k x × EachFrom P (suc k) xs

each_from : {A : Type 0} (P : ℕ → A → Type 0) (k : ℕ) (xs : List A) (j : ℕ) (x : A) → EachFrom P k xs →
    slice_get xs j ≡ Some x → P (k + j) x
each_from P k [] j x each got = cc
each_from P k (y ∷ xs) zero x each got = rw (← plus_zero k) (subst (P k) (same_Some y x got) each.0)
each_from P k (y ∷ xs) (suc j) x each got = subst (λ n. P n x) (plus_one k j) (each_from P _ xs j x each.1 got) where
  plus_one : (n m : ℕ) → suc n + m ≡ n + suc m
  plus_one n m = omega arith

each_here : {A : Type 0} (P : ℕ → A → Type 0) (xs : List A) (j : ℕ) (x : A) → EachFrom P 0 xs →
    slice_get xs j ≡ Some x → P j x
each_here P xs j x each got = subst (λ n. P n x) (plus_none j) (each_from P 0 xs j x each got)

module _ (sections : List SectionTree) where
  -- the rules of interfaces, by the section's number
  interfaces_each : (k : ℕ) (before rest : List SectionTree) → interface_rules.interface_lines_from sections k before
      rest ≡ [] →
      EachFrom (InterfaceFacts sections) k rest
  interfaces_each k before [] h = tt
  interfaces_each k before (s ∷ rest) h = (
    interface_facts _ k s (list_any defines_main before) before (map_empty _ _ (prefix_empty _ _ h)),
    interfaces_each (suc k) (before ++ s ∷ []) rest (back_empty _ _ h),
  )

  pub hold : interface_broken sections ≡ [] → (j : ℕ) (section : SectionTree) → slice_get sections j ≡ Some section →
      InterfaceFacts sections j section
  hold h j section got = each_here (InterfaceFacts sections) _ j section (interfaces_each 0 [] _ (prefix_empty _ _ h))
      got

  -- the rules of counts, by the section's number
  abbrev Counted : ℕ → SectionTree → Type 0
  Counted n section = counts.section_count_lines section (callees_of sections n section) ≡ []

  counts_each : (k : ℕ) (rest : List SectionTree) → counts.count_lines_from sections k rest ≡ [] → EachFrom Counted k
      rest
  counts_each k [] h = tt
  counts_each k (s ∷ rest) h = (map_empty _ _ (prefix_empty _ _ h), counts_each (suc k) rest (back_empty _ _ h))

  pub count_at : counts.count_lines_from sections 0 sections ≡ [] → (j : ℕ) (section : SectionTree) →
      slice_get sections j ≡ Some section → counts.section_count_lines section (callees_of sections j section) ≡ []
  count_at h j section got = each_here Counted _ j section (counts_each 0 _ h) got

  module _ (low : AreLow sections) (in_names : names_broken sections ≡ []) (in_types : types_broken sections ≡ [])
      (in_interfaces : interface_broken sections ≡ []) (in_counts : counts_broken sections ≡ []) where
    counts_of : counts.count_lines_from sections 0 sections ≡ []
    counts_of = back_empty (counts.line_beyond (λ section. line_of_text _ 1) most_compartments sections) _ in_counts

    -- The section of a number.
    module _ (number : ℕ) (section : SectionTree) (there : slice_get sections number ≡ Some section) where
      names_at : names.section_name_lines section ≡ []
      names_at = map_empty _ _ (each_at (λ section. map (line_of_text _)
          (names.section_name_lines section) ≡ []) _ number section (each_empty _ _ in_names) there)

      types_at : elab.section_type_lines section (callees_of sections number section) ≡ []
      types_at = map_empty _ _ (each_at (λ section. map (line_of_text section.line) (elab.section_type_lines section
          (callees_of sections 0 section)) ≡ []) _ number section (each_empty _ _ in_types) there)

      counted : counts.section_count_lines section (callees_of sections number section) ≡ []
      counted = count_at counts_of number section there

      low_at : nat_le (section_height section) 256 ≡ true
      low_at = each_at (λ section. nat_le _ 256 ≡ true) _ number section (each_passes _ _ low) there

      abbrev typed : TypedSection
      typed = typed_section section (callees_of sections number section)

      abbrev callees : Callees
      callees = callees_of sections number section

      abbrev facts : CountFacts section callees
      facts = count_facts section callees counted

      small : AllSmall (structs section) 0 (structs_in section.decls)
      small = small_from section 0 _ facts.structs

      all : After section callees [] section.decls
      all = record { whole = refl; in_names = names_at; holds = types_at }

      section_is : section_fits (interfaces_of sections) number (interface_of sections number section) typed ≡ true
      section_is = and_from _ _ (structs_all_fit _ (structs_known section callees [] _ all) small) (and_from _ _
          (globals_are section callees [] _ all facts.globals) (and_from _ _ (functions_are section callees
          (called.callable _ (hold in_interfaces) number section there) (called.same_signature_called _
          (hold in_interfaces) number section there) small [] _ all facts.heads facts.functions low_at)
          (and_from _ _ (and_first _ _ facts.nodes) (few_kept section callees (and_rest (nat_le _ _) _ facts.nodes)))))

      interfaces_is : interface_fits (interfaces_of sections) number (interface_of sections number section) typed ≡ true
      interfaces_is = interface_is _ (hold in_interfaces) number section there names_at facts

    -- All sections.
    sections_are : (prefix rest : List SectionTree) → prefix ++ rest ≡ sections →
        sections_fit (interfaces_of sections) (length prefix) (interfaces_from sections (length prefix) rest)
        (sections_from sections (length prefix) rest) ≡ true
    sections_are prefix [] whole = refl
    sections_are prefix (section ∷ rest) whole =
        let there = ap (λ list. slice_get list (length prefix)) (sym whole) ∙ get_after prefix section rest in
        and_from _ _ (section_is _ section there)
        (and_from _ _ (interfaces_is _ section there) (subst (λ n. sections_fit (interfaces_of sections) n
        (interfaces_from sections n rest) (sections_from sections n rest) ≡ true)
        (length_snoc prefix section) (sections_are (prefix ++ section ∷ []) rest (append_assoc prefix _ rest ∙ whole))))

    -- Names of compartments.
    compartments : (k : ℕ) (before rest : List SectionTree) → interface_rules.interface_lines_from sections k before
        rest ≡ [] →
        Fresh (map name_of before) (map name_of rest) ×
        Each (λ name. bytes_eq name environment ≡ false) (map name_of rest)
    compartments k before [] h = (tt, tt)
    compartments k before (section ∷ rest) h =
        let next = compartments (suc k) (before ++ section ∷ []) rest (back_empty _ _ h) in
        let holds : (not (is_numbered (map name_of before) section.name) && not (bytes_eq section.name environment)) ≡
        true = rule_holds _ 1 (prefix_empty _ _ (map_empty _ _ (prefix_empty _ _ h))) in
        grind (arith, next, map-append name_of before (section ∷ []))

    no_environment : (all : List Text) → Each (λ name. bytes_eq name environment ≡ false) all →
        is_numbered all environment ≡ false
    no_environment [] each = refl
    no_environment (name ∷ all) each = grind (arith, same_sym environment name, no_environment all)

    interface_names : (k : ℕ) (rest : List SectionTree) →
        map {A = Interface} (λ i. i.name) (interfaces_from sections k rest) ≡ map name_of rest
    interface_names k [] = refl
    interface_names k (section ∷ rest) = cc (interface_names (suc k) rest)

    names_distinct : are_distinct (codes "Env" ∷ map {A = Interface} (λ i. i.name) (interfaces_of sections).comps) ≡
        true
    names_distinct =
        let c = compartments 0 [] sections (prefix_empty _ _ in_interfaces) in
        subst (λ all. are_distinct (codes "Env" ∷ all) ≡ true) (sym (interface_names 0 sections))
        (and_from _ _ (ap not (no_environment _ c.1)) (fresh_distinct [] _ c.0))

    -- `main`.

    mains_same : (section : SectionTree) (of : Callees) (trees : List FunctionTree) →
        list_any is_main (map (typed_function section of) trees) ≡
        is_numbered (map {A = FunctionTree} (λ tree. tree.head.name) trees) main_name
    mains_same section of [] = refl
    mains_same section of (tree ∷ trees) = cc (same_sym tree.head.name main_name, mains_same section of trees)

    section_mains : (section : SectionTree) (callees : Callees) →
        list_any is_main (typed_section section callees).functions ≡ defines_main section
    section_mains section callees = mains_same section callees (function_decls section.decls)

    -- the function `main` of a section
    module _ (k : ℕ) (section : SectionTree) (mains : Bool)
        (each : Each (DeclFacts sections k section mains) section.decls) (has : defines_main section ≡ true) where
      main_found : FoundFunction main_name (function_decls section.decls)
      main_found = find_function _ _ has

      main_rule : interface_rules.main_holds mains (head_of main_found.tree.head) ≡ true
      main_rule = (each_at (λ tree. DeclFacts sections k section mains (Function tree))
          (function_decls section.decls) main_found.at main_found.tree (each_function _ _ each) main_found.got).1

      only_main : (not mains && interface_rules.is_main_head (head_of main_found.tree.head)) ≡ true
      only_main = grind (arith, main_found.named, main_rule)

    main_typed : (k : ℕ) (section : SectionTree) → slice_get sections k ≡ Some section → defines_main section ≡ true →
        main_fits (Some (typed_section section (callees_of sections k section))) ≡ true
    main_typed k section got has =
        let facts = hold in_interfaces k section got in
        let g = main_found k section facts.mains facts.decls has in
        let is = and_rest (not facts.mains) _ (only_main k section facts.mains facts.decls has) in
        any_passes_from_place (λ f. is_main f && same_signature (signature_of f)
        (record { params = []; result = Some ty.Int })) (typed_section section (callees_of _ k section)).functions g.at
        (typed_function section (callees_of _ k section) g.tree) (slice_get-map _ _ g.at ∙ ap (option_map _) g.got)
        (and_from _ _ g.named (ap (λ s. same_signature s (record { params = []; result = Some ty.Int }))
        (own_signature section (callees_of sections k section) g.tree ∙ input_signature _ (head_of g.tree.head) is)))

    any_append : (before : List SectionTree) (section : SectionTree) →
        list_any defines_main (before ++ section ∷ []) ≡ (list_any defines_main before || defines_main section)
    any_append before section =
        list_any-append _ before _ ∙ ap (λ b. list_any defines_main before || b) (or-false (defines_main section))

    count_by : (b d more : Bool) (n : ℕ) → (d ≡ true → not b ≡ true) → n ≡ (if b || d then 0 else truth more) →
        truth d + n ≡ (if b then 0 else truth (d || more))
    count_by b d more n alone h = grind arith

    none_more : (b : Bool) → truth false ≡ (if b then 0 else truth false)
    none_more b = grind arith

    mains_count : (k : ℕ) (before rest : List SectionTree) → interface_rules.interface_lines_from sections k before rest
        ≡ [] →
        mains_in (sections_from sections k rest) ≡ (if list_any defines_main before then 0 else
        truth (list_any defines_main rest))
    mains_count k before [] h = none_more _
    mains_count k before (section ∷ rest) h = ap (λ b. truth b + mains_in (sections_from sections (suc k) rest))
        (section_mains section (callees_of _ k section)) ∙ count_by _ (defines_main section)
        (list_any _ rest) (mains_in _) (λ has. and_first _ _ (only_main k section _ (decls_hold _ k section _ before
        (map_empty _ _ (prefix_empty _ _ h))) has)) (mains_count (suc k) (before ++ section ∷ []) rest
        (back_empty _ _ h) ∙ ap (λ b. if b then 0 else truth (list_any defines_main rest)) (any_append before section))

    has_main : list_any defines_main sections ≡ true
    has_main = rule_holds _ 0 (back_empty (interface_rules.interface_lines_from sections 0 [] sections) _ in_interfaces)

    one_main : (mains_in (sections_from sections 0 sections) == 1) ≡ true
    one_main = ap (λ n. n == 1) (mains_count 0 [] _ (prefix_empty _ _ in_interfaces) ∙ ap truth has_main)

    -- The section of `main`.

    main_place : (k : ℕ) (rest : List SectionTree) →
        main_from k rest ≡ option_map_or (λ j. k + j) (find defines_main rest) 0
    main_place k [] = refl
    main_place k (section ∷ rest) =
        by_case (defines_main section) (find defines_main rest) _ (main_place (suc k) rest) where
          by_case : (b : Bool) (o : Option ℕ) (m : ℕ) → m ≡ option_map_or (λ j. suc k + j) o 0 →
              (if b then k else m) ≡ option_map_or (λ j. k + j) (if b then Some 0 else option_map suc o) 0
          by_case b o m h = grind arith

    typed_from : (k : ℕ) (rest : List SectionTree) (j : ℕ) (section : SectionTree) → slice_get rest j ≡ Some section →
        slice_get (sections_from sections k rest) j ≡ Some (typed_section section (callees_of sections (k + j) section))
    typed_from k [] j section got = none_some section got
    typed_from k (s ∷ rest) zero section got = ap (λ t. Some (typed_section t (callees_of sections k t)))
        (same_Some s section got) ∙ ap (λ n. Some (typed_section section (callees_of sections n section))) (omega arith)
    typed_from k (s ∷ rest) (suc j) section got = typed_from _ rest j section got
        ∙ ap (λ n. Some (typed_section section (callees_of sections n section))) (omega arith)

    main_is : main_fits (slice_get (sections_from sections 0 sections) (interfaces_of sections).main) ≡ true
    main_is =
        let m = any_found defines_main sections has_main in
        ap (λ n. main_fits (slice_get (sections_from sections 0 sections) n))
        (main_place 0 sections ∙ ap (λ o. option_map_or (λ j. 0 + j) o 0) m.is ∙ plus_none m.at) ∙ ap main_fits
        (typed_from 0 _ m.at _ m.got) ∙ ap (λ n. main_fits (Some (typed_section m.item (callees_of sections n m.item))))
        (plus_none m.at) ∙ main_typed m.at _ m.got m.passes

    -- The whole.

    typed_length : (k : ℕ) (rest : List SectionTree) → length (sections_from sections k rest) ≡ length rest
    typed_length k [] = refl
    typed_length k (section ∷ rest) = ap suc (typed_length _ rest)

    few : nat_le (length (sections_from sections 0 sections)) most_compartments ≡ true
    few = ap (λ n. nat_le n most_compartments) (typed_length 0 _)
        ∙ none_beyond (λ section. line_of_text section.line 1) most_compartments sections (prefix_empty _ _ in_counts)

    is_typed : is_well_typed (program_of sections) ≡ true
    is_typed = and_from _ _ few
        (and_from _ _ names_distinct (and_from _ _ (sections_are [] _ refl) (and_from _ _ main_is one_main)))

-- trees that break no rule are those of a well-typed program
pub well_typed : (sections : List SectionTree) → AreLow sections → names_broken sections ≡ [] →
    types_broken sections ≡ [] → interface_broken sections ≡ [] → counts_broken sections ≡ [] →
    IsWellTyped (program_of sections)
well_typed sections low in_names in_types in_interfaces in_counts =
    is_typed sections low in_names in_types in_interfaces in_counts
