-- The section of each compartment of a well-typed program can be linked.
use Rattle.sc_linker.proofs.Common.{All, All-weaker, AreKnown, Bool, CanBeLinked, CodeTree, Entry, Function, Global}
use Rattle.sc_linker.proofs.Common.{Interface, Interfaces, IsLinkable, IsSome, IsWellTyped, List, None, Option}
use Rattle.sc_linker.proofs.Common.{ProgramTree, Proto, RefersInside, Relocation, Some, Target, TypedFunction}
use Rattle.sc_linker.proofs.Common.{TypedSection, [], and_first, and_rest, ap, are_distinct, arith, bytes_eq}
use Rattle.sc_linker.proofs.Common.{callable_names, codes_at, codes_in, comp_at, cond, drop, export_at, export_fits}
use Rattle.sc_linker.proofs.Common.{export_names, exports_at, exports_in, false, false≢true, get_or, global_fits}
use Rattle.sc_linker.proofs.Common.{has_distinct_names, has_few_compartments, has_fitting_sections, import_fits}
use Rattle.sc_linker.proofs.Common.{instructions, interface_fits, is_known, is_named, is_plain_name, is_some, leb-true}
use Rattle.sc_linker.proofs.Common.{length, length-drop, length-take-le, list_all, list_all_along, list_any, main_name}
use Rattle.sc_linker.proofs.Common.{map, most_exports, nat_le, nat_lt, not, place_named, position, position-cons}
use Rattle.sc_linker.proofs.Common.{proto_signature, refl, same_signature, section_at, section_fits, section_or_none}
use Rattle.sc_linker.proofs.Common.{sections_fit, signature_of, slice_get, slice_get_within, stretch, structs_fit}
use Rattle.sc_linker.proofs.Common.{subst, suc, sym, total, true, zero, ℕ, ◌&&◌, ◌*◌, ◌+◌, ◌<◌, ◌||◌, ◌∙◌, ◌∷◌, ◌≡◌}
use Rattle.sc_linker.proofs.Common.{◌≤◌}
use Rattle.std.proofs.lemmas.List.Sums.{AllPass-from_list_all}
use Rattle.std.specs.Option.{option_map}

-- the section of a compartment fits its interface
pub record HasSection (sections : List TypedSection) (comp : ℕ) (interface : Interface) : Type 0 where
  pub section : TypedSection
  pub there : slice_get sections comp ≡ Some section
  pub structs : structs_fit section.structs 0 section.structs ≡ true
  pub globals : list_all (global_fits section.structs) section.globals ≡ true
  pub exports : list_all (export_fits section.functions) interface.exports ≡ true
  pub few : length interface.exports ≤ most_exports

module _ (interfaces : Interfaces) where
  first_section : (comp : ℕ) (interface : Interface) (section : TypedSection) (sections : List TypedSection) →
      section_fits interfaces comp interface section ≡ true → interface_fits interfaces comp interface section ≡ true →
      HasSection (section ∷ sections) 0 interface
  first_section comp interface section sections fits interface_fitting =
      let following = and_rest (structs_fit section.structs 0 section.structs) _ fits in
      let distinct = and_rest (are_distinct (export_names interface)) _
      (and_rest (are_distinct (callable_names interfaces interface section)) _ interface_fitting) in
      record {
        section = section;
        there = refl;
        structs = and_first (structs_fit section.structs 0 section.structs) _ fits;
        globals = and_first (list_all (global_fits section.structs) section.globals) _ following;
        exports = and_first (list_all (export_fits section.functions) interface.exports) _ distinct;
        few = leb-true (length interface.exports) most_exports
            (and_first (nat_le (length interface.exports) most_exports) _
            (and_rest (list_all (import_fits interfaces comp) interface.imports) _
            (and_rest (list_all (export_fits section.functions) interface.exports) _ distinct)));
      }

  later_section : (comp : ℕ) (interface : Interface) (section : TypedSection) (sections : List TypedSection) →
      HasSection sections comp interface → HasSection (section ∷ sections) (suc comp) interface
  later_section comp interface section sections has = record {
    section = has.section;
    there = has.there;
    structs = has.structs;
    globals = has.globals;
    exports = has.exports;
    few = has.few;
  }

  has_section : (first comp : ℕ) (comps : List Interface) (sections : List TypedSection) (interface : Interface) →
      sections_fit interfaces first comps sections ≡ true → slice_get comps comp ≡ Some interface →
      HasSection sections comp interface
  has_section first comp [] sections interface fit there = absurd (cc)
  has_section first comp (i ∷ comps) [] interface fit there = absurd (false≢true fit)
  has_section first zero (i ∷ comps) (section ∷ sections) interface fit there =
      let same : i ≡ interface = cc there in
      subst (HasSection (section ∷ sections) 0) same
      (first_section first i section sections (and_first (section_fits interfaces first i section) _ fit)
      (and_first (interface_fits interfaces first i section) _
      (and_rest (section_fits interfaces first i section) _ fit)))
  has_section first (suc comp) (i ∷ comps) (section ∷ sections) interface fit there =
      later_section comp interface section sections
      (has_section (suc first) comp comps sections interface
      (and_rest (interface_fits interfaces first i section) _
      (and_rest (section_fits interfaces first i section) _ fit)) there)

-- what passes is somewhere
some_place : {X : Type 0} (p q : X → Bool) → ((x : X) → p x ≡ true → q x ≡ true) → (xs : List X) →
    list_any p xs ≡ true → is_some (position q xs) ≡ true
some_place p q on [] some = absurd (false≢true some)
some_place {X} p q on (x ∷ xs) some =
    ap is_some (position-cons q x xs) ∙ by (p x) refl (q x) refl (some_place p q on xs) where
      following : (o : Option ℕ) → is_some o ≡ true → is_some (option_map suc o) ≡ true
      following None h = absurd (false≢true h)
      following (Some n) h = refl

      by : (a : Bool) → p x ≡ a → (b : Bool) → q x ≡ b → (list_any p xs ≡ true → is_some (position q xs) ≡ true) →
          is_some (cond b (Some 0) (option_map suc (position q xs))) ≡ true
      by a first true second later = refl
      by true first false second later = absurd (false≢true (sym second ∙ on x first))
      by false first false second later =
          following (position q xs) (later (subst (λ c. (c || list_any p xs) ≡ true) first some))

-- an export has a function
exports_named : (section : TypedSection) (exports : List Proto) →
    list_all (export_fits section.functions) exports ≡ true →
    All {X = Proto} (λ proto. IsSome (place_named proto.name (Some section))) exports
exports_named section exports fit k d within =
    let proto : Proto = get_or exports k d in
    let fits : export_fits section.functions proto ≡ true =
    AllPass-from_list_all (export_fits section.functions) exports fit k d within in
    some_place (λ (f : TypedFunction). bytes_eq f.name proto.name && same_signature (signature_of f) (proto_signature
    proto)) (λ (f : TypedFunction). bytes_eq f.name proto.name) (λ f h. and_first (bytes_eq f.name proto.name) _ h)
    section.functions (and_rest (not (bytes_eq proto.name main_name)) _ (and_rest (is_plain_name proto.name) _ fits))

abbrev pub functions_count : TypedSection → ℕ
functions_count section = length section.functions

-- a section has a code for each function
each_code : (sections : List TypedSection) (codes : List CodeTree) (comp : ℕ) (section : TypedSection) →
    length codes ≡ total (map functions_count sections) → slice_get sections comp ≡ Some section →
    length (codes_in comp sections codes) ≡ functions_count section
each_code [] codes comp section each there = absurd (cc)
each_code (s ∷ sections) codes zero section each there =
    let same : s ≡ section = cc there in
    length-take-le (functions_count s) codes (omega (arith, each)) ∙ ap functions_count same
each_code (s ∷ sections) codes (suc comp) section each there =
    each_code sections (drop (functions_count s) codes) comp section
    (length-drop (functions_count s) codes ∙ omega (arith, each)) there

-- what is inside is known
target_known : (program : ProgramTree) (section : TypedSection) (target : Target) →
    is_named (λ number. nat_lt number (length section.functions))
    (λ to index. is_some (export_at program.interfaces to index))
    (λ number. nat_lt number (length section.globals)) target ≡ true →
    is_known (length section.functions) (length section.globals) target ≡ true
target_known program section (Function number) h = h
target_known program section (Entry comp index) h = refl
target_known program section (Global number) h = h

module _ (program : ProgramTree) (codes : List CodeTree) (comp : ℕ) (interface : Interface)
    (typed : IsWellTyped program) (linkable : IsLinkable program codes)
    (there : comp_at program.interfaces comp ≡ Some interface) where
  pub has : HasSection program.sections comp interface
  has =
      has_section program.interfaces 0 comp program.interfaces.comps program.sections interface
      (and_first (has_fitting_sections program) _ (and_rest (has_distinct_names program) _
      (and_rest (has_few_compartments program) _ typed))) there

  pub section_is : section_at program comp ≡ has.section
  section_is = ap section_or_none has.there

  pub exports_are : exports_at program comp ≡ interface.exports
  exports_are = ap exports_in there

  pub within : comp < length program.sections
  within = slice_get_within program.sections comp has.section has.there

  pub can_link : CanBeLinked comp interface.exports (section_at program comp) (codes_at program codes comp)
  can_link = record {
    each = each_code program.sections codes comp has.section linkable.each has.there ∙
        ap functions_count (sym section_is);
    few = has.few;
    code = subst (λ (exports : List Proto).
        4 * (length exports + instructions (codes_at program codes comp)) ≤ stretch) exports_are (linkable.code comp);
    globals = linkable.globals comp;
    inside = All-weaker (RefersInside program comp)
        (λ (code : CodeTree). AreKnown (length (section_at program comp).functions)
        (length (section_at program comp).globals) code.relocations)
        (λ code inside. list_all_along {A = Relocation} _ _
        (λ relocation h. target_known program (section_at program comp) relocation.target h) code.relocations inside)
        (codes_at program codes comp) (linkable.inside comp);
    named = subst (λ section. All {X = Proto} (λ proto. IsSome (place_named proto.name (Some section)))
        interface.exports) (sym section_is) (exports_named has.section interface.exports has.exports);
  }

  -- the same of values that are these
  module _ (section : TypedSection) (is : section ≡ section_at program comp) where
    same_section : section ≡ has.section
    same_section = is ∙ section_is

    pub few_exports : (exports : List Proto) → exports ≡ interface.exports → length exports ≤ 4096
    few_exports exports are = subst (λ (protos : List Proto). length protos ≤ 4096) (sym are) has.few

    pub section_links : (exports : List Proto) (own : List CodeTree) → exports ≡ interface.exports →
        own ≡ codes_at program codes comp → CanBeLinked comp exports section own
    section_links exports own are these =
        subst (λ protos. CanBeLinked comp protos section own) (sym are)
        (subst (λ s. CanBeLinked comp interface.exports s own) (sym is)
        (subst (λ cs. CanBeLinked comp interface.exports (section_at program comp) cs) (sym these) can_link))

    pub structs_keep : structs_fit section.structs 0 section.structs ≡ true
    structs_keep = subst (λ (s : TypedSection). structs_fit s.structs 0 s.structs ≡ true) (sym same_section) has.structs

    pub globals_keep : list_all (global_fits section.structs) section.globals ≡ true
    globals_keep =
        subst (λ (s : TypedSection). list_all (global_fits s.structs) s.globals ≡ true) (sym same_section) has.globals
