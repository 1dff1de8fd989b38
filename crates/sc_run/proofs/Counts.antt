-- A well-typed program has few variables, and each has few cells.
use Rattle.sc_run.proofs.Common.{Block, Bool, Cell, List, None, Option, ProgramTree, Some, TypedGlobal, TypedLocal}
use Rattle.sc_run.proofs.Common.{TypedParam, TypedSection, TypedStruct, [], ap, arith, cells_of, first_blocks, get_or}
use Rattle.sc_run.proofs.Common.{global_block, globals_of, is_array, length, length-append, length-map, length-take}
use Rattle.sc_run.proofs.Common.{map, not, refl, slice_get, struct_zeros, subst, suc, sym, take, true, with_blocks}
use Rattle.sc_run.proofs.Common.{with_words, zero, zeros_of, ℕ, ◌++◌, ◌<◌, ◌∙◌, ◌∷◌, ◌≡◌, ◌≤◌}
use Rattle.std.proofs.Common.{leb-true, nat_le, ◌^◌}
use Rattle.std.proofs.lemmas.Bool.{and_from}
use Rattle.std.specs.List.{list_all}
use Rattle.sc_base.proofs.Bools.{and_first, and_rest}
use Rattle.sc_event.specs.declared.interface.Interface.{Interface}
use Rattle.sc_event.specs.declared.interface.Interfaces.{Interfaces}
use Rattle.sc_core.specs.Prelude.{IsWellTyped, Memory, callable_in, function_fits, global_fits, local_fits, local_nodes}
use Rattle.sc_core.specs.Prelude.{most_cells, most_compartments, most_nodes, most_params, nodes, params_fit}
use Rattle.sc_core.specs.Prelude.{passed_fits, result_fits, scope_of, structs_fit, total, type_within, variable_fits}
use Rattle.sc_core.specs.declared.section.TypedFunction.{TypedFunction}
use Rattle.sc_core_kind_laws.proofs.Cells.{variable_many, words_length}
use Rattle.sc_core_kind_laws.proofs.Sections.{Placed, all_at, for_section, sections_so}
use Rattle.sc_run.specs.Numbers.{AreSmall, HasFewVariables, NumbersSuffice, HasSmallGlobals, HaveSmallGlobals}
use Rattle.sc_run.proofs.Making.{at_itself, local_sizes, param_sizes}
use Rattle.sc_run.proofs.Numbers.{next_number, numbers_fewer, numbers_for_one}

-- SIZES, ONE AFTER THE OTHER

module _ (p : ℕ → Bool) where
  all_both : (xs ys : List ℕ) → list_all p xs ≡ true → list_all p ys ≡ true → list_all p (xs ++ ys) ≡ true
  all_both [] ys h k = k
  all_both (x ∷ xs) ys h k =
      and_from (p x) _ (and_first (p x) _ h) (all_both xs ys (and_rest (p x) (list_all p xs) h) k)

  pub all_before : (xs ys : List ℕ) → list_all p (xs ++ ys) ≡ true → list_all p xs ≡ true
  all_before [] ys h = refl
  all_before (x ∷ xs) ys h = and_from (p x) _ (and_first (p x) _ h) (all_before xs ys (and_rest (p x) _ h))

  pub all_after : (xs ys : List ℕ) → list_all p (xs ++ ys) ≡ true → list_all p ys ≡ true
  all_after [] ys h = h
  all_after (x ∷ xs) ys h = all_after xs ys (and_rest (p x) _ h)

module _ {A : Type 0} (f : A → ℕ) where
  small_of : (q : A → Bool) → ((x : A) → q x ≡ true → nat_le (f x) most_cells ≡ true) → (xs : List A) →
      list_all q xs ≡ true → AreSmall (map f xs)
  small_of q on [] h = refl
  small_of q on (x ∷ xs) h =
      and_from (nat_le (f x) most_cells) _ (on x (and_first (q x) _ h)) (small_of q on xs (and_rest (q x) _ h))

  -- each of them is small
  pub small_at : (xs : List A) (at : ℕ) {x : A} {size : ℕ} → at < length xs → x ≡ get_or xs at x → size ≡ f x →
      AreSmall (map f xs) → size ≤ most_cells
  small_at [] at there item is h = absurd (omega (arith, there))
  small_at (y ∷ ys) zero there item is h =
      leb-true _ most_cells (subst (λ n. nat_le n most_cells ≡ true) (sym (is ∙ ap f item))
      (and_first (nat_le (f y) most_cells) _ h))
  small_at (y ∷ ys) (suc at) there item is h =
      small_at ys at (omega (arith, there)) item is (and_rest (nat_le (f y) most_cells) _ h)

-- FUNCTIONS

local_count : (locals : List TypedLocal) → length locals ≤ total (map local_nodes locals)
local_count [] = omega arith
local_count (l ∷ locals) = omega (arith, local_count locals)

node_count : (functions : List TypedFunction) (number : ℕ) (f : TypedFunction) →
    slice_get functions number ≡ Some f → nodes f ≤ total (map nodes functions)
node_count [] number f is = absurd (cc is)
node_count (g ∷ functions) zero f is =
    let same : g ≡ f = cc is in let as_many : nodes g ≡ nodes f = ap nodes same in omega (arith, as_many)
node_count (g ∷ functions) (suc number) f is = omega (arith, node_count functions number f is)

module _ (structs : List TypedStruct) where
  variable_small : (t : _) → variable_fits structs t ≡ true → nat_le (cells_of structs t) most_cells ≡ true
  variable_small t h = and_rest (type_within (length structs) (length structs) t) _ h

  param_small : (q : TypedParam) → passed_fits structs q.ty ≡ true → nat_le (cells_of structs q.ty) most_cells ≡ true
  param_small q h = variable_small q.ty (and_rest (not (is_array q.ty)) _ h)

module _ {interfaces : Interfaces} {interface : Interface} {section : TypedSection}
    (placed : Placed interfaces interface section) where
  -- each function has few variables
  pub few_variables : (number : ℕ) (f : TypedFunction) → slice_get section.functions number ≡ Some f →
      HasFewVariables section.structs f
  few_variables number f is =
      let structs = section.structs in
      let scope = scope_of section f in
      let fit = function_fits (callable_in interfaces interface section) section in
      let after_structs = and_rest (structs_fit structs 0 structs) _ placed.fits in
      let after_globals = and_rest (list_all (global_fits structs) section.globals) _ after_structs in
      let functions = and_first (list_all fit section.functions) _ after_globals in
      let counts = and_rest (list_all fit section.functions) _ after_globals in
      let few = leb-true _ most_nodes (and_first (nat_le (total (map nodes section.functions)) most_nodes) _ counts) in
      let own = all_at fit section.functions functions number f is in
      let after_count = and_rest (nat_le (length f.params) most_params) _ own in
      let after_params = and_rest (params_fit structs f.params) _ after_count in
      let after_result = and_rest (result_fits structs f.result) _ after_params in
      let sizes = map {A = TypedParam} (λ q. cells_of structs q.ty) f.params in
      let local_sizes = map {A = TypedLocal} (λ l. cells_of structs l.ty) f.locals in
      record {
        few = omega (
          arith,
          few,
          node_count section.functions number f is,
          local_count f.locals,
          length-append sizes local_sizes,
          length-map f.params (λ (q : TypedParam). cells_of structs q.ty),
          length-map f.locals (λ (l : TypedLocal). cells_of structs l.ty),
        );
        short = omega (arith, few, node_count section.functions number f is);
        small = all_both (λ n. nat_le n most_cells) sizes local_sizes
            (small_of {A = TypedParam} (λ q. cells_of structs q.ty) (λ q. passed_fits structs q.ty)
            (param_small structs) f.params (and_first (params_fit structs f.params) _ after_count))
            (small_of {A = TypedLocal} (λ l. cells_of structs l.ty) (local_fits scope)
            (λ l h. variable_small structs l.ty (and_first (variable_fits structs l.ty) _ h)) f.locals
            (and_first (list_all (local_fits scope) f.locals) _ after_result));
      }

  -- its globals are few, and small
  pub small_globals : HasSmallGlobals section
  small_globals =
      let structs = section.structs in
      let fit = function_fits (callable_in interfaces interface section) section in
      let structs_so = and_first (structs_fit structs 0 structs) _ placed.fits in
      let after_structs = and_rest (structs_fit structs 0 structs) _ placed.fits in
      let globals_so = and_first (list_all (global_fits structs) section.globals) _ after_structs in
      let after_globals = and_rest (list_all (global_fits structs) section.globals) _ after_structs in
      let counts = and_rest (list_all fit section.functions) _ after_globals in
      let few = leb-true _ most_nodes
      (and_rest (nat_le (total (map nodes section.functions)) most_nodes) _ counts) in
      let size : TypedGlobal → ℕ = λ g. length (zeros_of (struct_zeros [] structs) g.ty) in
      record {
        few = omega (arith, few, length-map section.globals size);
        small = small_of size (global_fits structs)
            (λ g h. let own = and_first (variable_fits structs g.ty) _ h in
            subst (λ n. nat_le n most_cells ≡ true) (sym (variable_many structs g.ty structs_so own))
            (variable_small structs g.ty own)) section.globals globals_so;
      }

-- VARIABLES AND GLOBALS, ONE AFTER THE OTHER

module _ {structs : List TypedStruct} {f : TypedFunction} (h : HasFewVariables structs f) where
  pub param_number : length f.params < 2 ^ 32
  param_number = omega (
    arith,
    h.few,
    length-append (param_sizes structs f) (local_sizes structs f),
    length-map f.params (λ (q : TypedParam). cells_of structs q.ty),
  )

  pub local_number : length f.locals < 2 ^ 32
  local_number = omega (
    arith,
    h.few,
    length-append (param_sizes structs f) (local_sizes structs f),
    length-map f.locals (λ (l : TypedLocal). cells_of structs l.ty),
  )

  pub few_params : (at : ℕ) → length (take at (param_sizes structs f)) < most_nodes
  few_params at = omega (
    arith,
    h.few,
    length-take at (param_sizes structs f),
    length-append (param_sizes structs f) (local_sizes structs f),
  )

  pub few_locals : (at : ℕ) → length (param_sizes structs f ++ take at (local_sizes structs f)) < most_nodes
  few_locals at = omega (
    arith,
    h.few,
    length-take at (local_sizes structs f),
    length-append (param_sizes structs f) (take at (local_sizes structs f)),
    length-append (param_sizes structs f) (local_sizes structs f),
  )

  pub small_param : (at : ℕ) {q : TypedParam} {size : ℕ} → at < length f.params → q ≡ get_or f.params at q →
      size ≡ cells_of structs q.ty → size < 2 ^ 32
  small_param at there item is = omega (
    arith,
    small_at {A = TypedParam} (λ q. cells_of structs q.ty) f.params at there item is
        (all_before (λ n. nat_le n most_cells) (param_sizes structs f) (local_sizes structs f) h.small),
  )

  pub small_local : (at : ℕ) {l : TypedLocal} {size : ℕ} → at < length f.locals → l ≡ get_or f.locals at l →
      size ≡ cells_of structs l.ty → size < 2 ^ 32
  small_local at there item is = omega (
    arith,
    small_at {A = TypedLocal} (λ l. cells_of structs l.ty) f.locals at there item is
        (all_after (λ n. nat_le n most_cells) (param_sizes structs f) (local_sizes structs f) h.small),
  )

pub words_many : (words : List ℕ) (cells : List Cell) → length (with_words words cells) ≡ length cells
words_many = words_length

module _ {section : TypedSection} (h : HasSmallGlobals section) where
  abbrev zeros : List (List Cell)
  zeros = struct_zeros [] section.structs

  pub few_globals : (comp at : ℕ) (memory : Memory) {now : Memory} → memory comp ≡ [] →
      now ≡ with_blocks comp (memory comp ++ map (global_block zeros) (take at section.globals)) memory →
      length (now comp) < 2 ^ 63
  few_globals comp at memory {now} none is =
      let made = map (global_block zeros) (take at section.globals) in
      let there : now comp ≡ memory comp ++ made = (λ i. is i comp) ∙ at_itself comp memory in
      omega (
        arith,
        h.few,
        ap (length {A = Block}) there,
        ap (length {A = Block}) none,
        length-append (memory comp) made,
        length-map (take at section.globals) (global_block zeros),
        length-take at section.globals,
        length-map section.globals (λ (g : TypedGlobal). length (zeros_of zeros g.ty)),
      )

  pub small_global : (at : ℕ) {g : TypedGlobal} {known : List (List Cell)} → at < length section.globals →
      g ≡ get_or section.globals at g → known ≡ zeros → length (zeros_of known g.ty) < 2 ^ 32
  small_global at {g} there item is =
      subst (λ z. length (zeros_of z g.ty) < 2 ^ 32) (sym is) (omega (
        arith,
        small_at {A = TypedGlobal} (λ g. length (zeros_of zeros g.ty)) section.globals at there item refl h.small,
      ))

-- PROGRAMS

module _ (program : ProgramTree) (typed : IsWellTyped program) where
  module _ (comp : ℕ) {section : TypedSection} (is : slice_get program.sections comp ≡ Some section) where
    pub functions_small : (number : ℕ) (f : TypedFunction) → slice_get section.functions number ≡ Some f →
        HasFewVariables section.structs f
    functions_small = few_variables (for_section program.interfaces 0 program.interfaces.comps program.sections
        (sections_so program typed) comp section is).placed

    globals_small : HasSmallGlobals section
    globals_small = small_globals (for_section program.interfaces 0 program.interfaces.comps program.sections
        (sections_so program typed) comp section is).placed

  few_compartments : length program.sections ≤ most_compartments
  few_compartments = leb-true (length program.sections) most_compartments
      (and_first (nat_le (length program.sections) most_compartments) _ typed)

  pub sections_small : HaveSmallGlobals program.sections
  sections_small = record { few = few_compartments; small = λ comp section is. globals_small comp is }

  pub few_at : (comp : ℕ) (section : Option TypedSection) → slice_get program.sections comp ≡ section →
      length (first_blocks section) ≤ most_nodes
  few_at comp None is = omega arith
  few_at comp (Some section) is =
      omega (
        arith,
        (globals_small comp is).few,
        length-map section.globals (λ (g : TypedGlobal). length (zeros_of (struct_zeros [] section.structs) g.ty)),
        length-map section.globals (global_block (struct_zeros [] section.structs)),
      )

  -- numbers suffice for the call of `main`, and for those in the turns that follow
  pub numbers_at_first : {memory : Memory} {turns : ℕ} → turns < 2 ^ 32 → memory ≡ globals_of program.sections →
      NumbersSuffice memory (suc turns)
  numbers_at_first {turns} below is = subst (λ m. NumbersSuffice m (suc turns)) (sym is)
      (record {
        numbers = λ comp. omega (arith, below, few_at comp (slice_get program.sections comp) refl);
      })

-- the same, numbers for the turns by themselves, where the sections are the program's
pub numbers_started : {program tree : ProgramTree} {sections : List TypedSection} {memory : Memory} {turns : ℕ} →
    IsWellTyped program → tree ≡ program → sections ≡ tree.sections → memory ≡ globals_of sections → turns < 2 ^ 32 →
    NumbersSuffice memory turns
numbers_started {program} typed same are is below =
    numbers_fewer (omega arith) (numbers_at_first program typed below
    (is ∙ ap globals_of (are ∙ ap (λ (p : ProgramTree). p.sections) same)))

pub ruleset beginning = (next_number, numbers_for_one, param_number, local_number)
