-- An entry leads to the same function in the code of a well-typed program.
use Rattle.sc_lower.proofs.Common.{Bool, Entry, Export, ForSection, Interface, Interfaces, List, Main, None, Option}
use Rattle.sc_lower.proofs.Common.{ProgramTree, Proto, Some, TacFnTree, TypedFunction, TypedSection, [], all_at}
use Rattle.sc_lower.proofs.Common.{and_first, and_rest, any_along, ap, are_distinct, arith as numbers, bytes_eq}
use Rattle.sc_lower.proofs.Common.{bytes_eq_self, comp_at, cond, entry_in, entry_of, eq-eqb, eqb-true, export_at}
use Rattle.sc_lower.proofs.Common.{export_called, export_fits, exports_of, false, false≢true, for_section}
use Rattle.sc_lower.proofs.Common.{function_entered, if◌then◌else◌, import_name, is_main, is_plain_name, is_well_typed}
use Rattle.sc_lower.proofs.Common.{list_all, list_any, lowered_function, lowered_section, lowered_sections, main_fits}
use Rattle.sc_lower.proofs.Common.{main_name, main_so, mains_in, mains_so, map, not, not-true, option_and_then}
use Rattle.sc_lower.proofs.Common.{option_map, place_named, place_of_export, position, refl, same_entry, same_text}
use Rattle.sc_lower.proofs.Common.{sections_so, slice_get, subst, suc, sym, true, truth, zero, ℕ, ◌&&◌, ◌++◌, ◌+◌, ◌==◌}
use Rattle.sc_lower.proofs.Common.{◌||◌, ◌∙◌, ◌∷◌, ◌≡◌, ◌≤◌}
use Rattle.std.proofs.Math.Dec.{eqb-suc-zero, eqb-zero-suc, eqb-suc-suc}
use Rattle.sc_base.proofs.Lists.{position-cons, position_map}

-- POSITIONS

position_never : {A : Type 0} (p : A → Bool) (xs : List A) → list_any p xs ≡ false → position p xs ≡ None
position_never p [] h = refl
position_never p (x ∷ xs) h = by (position_never p xs) (p x) refl where
  by : (list_any p xs ≡ false → position p xs ≡ None) → (b : Bool) → p x ≡ b → position p (x ∷ xs) ≡ None
  by later true is = absurd (false≢true (sym h ∙ ap (λ b. b || list_any p xs) is))
  by later false is =
      position-cons p x xs ∙ ap (λ b. cond b (Some 0) (option_map suc (position p xs))) is
      ∙ ap (option_map suc) (later (sym (ap (λ b. b || list_any p xs) is) ∙ h))

never : {A : Type 0} (xs : List A) → list_any (λ x. false) xs ≡ false
never [] = refl
never (x ∷ xs) = never xs

-- SECTIONS BY NUMBERS
pub lowered_at : (interfaces : Interfaces) (k : ℕ) (sections : List TypedSection) (comp : ℕ) →
    slice_get (lowered_sections interfaces k sections) comp ≡ option_map (lowered_section interfaces (k + comp))
    (slice_get sections comp)
lowered_at interfaces k [] comp = refl
lowered_at interfaces k (x ∷ xs) zero =
    let same : k ≡ k + 0 = omega numbers in ap (λ n. Some (lowered_section interfaces n x)) same
lowered_at interfaces k (x ∷ xs) (suc comp) =
    let same : suc k + comp ≡ k + suc comp = omega numbers in
    lowered_at interfaces (suc k) xs comp ∙ ap (λ n. option_map (lowered_section interfaces n) (slice_get xs comp)) same

pub first_at : (interfaces : Interfaces) (sections : List TypedSection) (comp : ℕ) →
    slice_get (lowered_sections interfaces 0 sections) comp ≡ option_map (lowered_section interfaces comp)
    (slice_get sections comp)
first_at interfaces sections comp =
    let same : 0 + comp ≡ comp = omega numbers in
    lowered_at interfaces 0 sections comp
    ∙ ap (λ n. option_map (lowered_section interfaces n) (slice_get sections comp)) same

-- MAINS
mains_one : (sections : List TypedSection) (i : ℕ) (a : TypedSection) → slice_get sections i ≡ Some a →
    list_any is_main a.functions ≡ true → 1 ≤ mains_in sections
mains_one [] i a is h = absurd (cc)
mains_one (x ∷ xs) zero a is h =
    let same : x ≡ a = cc in
    let one : truth (list_any is_main x.functions) ≡ 1 = ap (λ y. truth (list_any is_main y.functions)) same
    ∙ ap truth h in
    subst (λ n. 1 ≤ n + mains_in xs) (sym one) (omega numbers)
mains_one (x ∷ xs) (suc i) a is h =
    more (truth (list_any is_main x.functions)) (mains_in xs) (mains_one xs i a is h) where
      more : (t m : ℕ) → 1 ≤ m → 1 ≤ t + m
      more t m h = omega (numbers, h)

too_many : (t m : ℕ) → t ≡ 1 → 1 ≤ m → t + m ≡ 1 → ⊥
too_many t m one le sum = omega (numbers, one, le, sum)

last_one : (t m : ℕ) → 1 ≤ m → t + m ≡ 1 → m ≡ 1
last_one t m le sum = omega (numbers, le, sum)

-- only one section has `main`
mains_apart : (sections : List TypedSection) (i j : ℕ) (a b : TypedSection) → slice_get sections i ≡ Some a →
    list_any is_main a.functions ≡ true → slice_get sections j ≡ Some b → list_any is_main b.functions ≡ true →
    mains_in sections ≡ 1 → i ≡ j
mains_apart [] i j a b is h at k one = absurd (cc)
mains_apart (x ∷ xs) zero zero a b is h at k one = refl
mains_apart (x ∷ xs) zero (suc j) a b is h at k one =
    let same : x ≡ a = cc in
    absurd (too_many (truth (list_any is_main x.functions)) (mains_in xs)
    (ap (λ y. truth (list_any is_main y.functions)) same ∙ ap truth h) (mains_one xs j b at k) one)
mains_apart (x ∷ xs) (suc i) zero a b is h at k one =
    let same : x ≡ b = cc in
    absurd (too_many (truth (list_any is_main x.functions)) (mains_in xs)
    (ap (λ y. truth (list_any is_main y.functions)) same ∙ ap truth k) (mains_one xs i a is h) one)
mains_apart (x ∷ xs) (suc i) (suc j) a b is h at k one =
    ap suc (mains_apart xs i j a b is h at k (last_one (truth (list_any is_main x.functions)) (mains_in xs)
    (mains_one xs i a is h) one))

-- ENTRIES OF NAMES
no_main : (o : Option ℕ) → same_entry Main (option_map Export o) ≡ false
no_main None = refl
no_main (Some i) = refl

pub main_is : (interfaces : Interfaces) (comp : ℕ) (name : List ℕ) →
    same_entry Main (entry_of interfaces comp name) ≡ (comp == interfaces.main && bytes_eq name main_name)
main_is interfaces comp name = by (comp == interfaces.main && bytes_eq name main_name) where
  by : (b : Bool) → same_entry Main (if b then Some Main else export_called interfaces comp name) ≡ b
  by true = refl
  by false = no_main (position {X = Proto} (λ proto. bytes_eq name proto.name) (exports_of (comp_at interfaces comp)))

abbrev pub name_of : Proto → List ℕ
name_of proto = proto.name

-- an export of this name
abbrev pub called_so : List ℕ → Option Proto → Bool
called_so name None = false
called_so name (Some proto) = bytes_eq name proto.name

none_called : (name : List ℕ) (ps : List Proto) (i : ℕ) → list_any (bytes_eq name) (map name_of ps) ≡ false →
    called_so name (slice_get ps i) ≡ false
none_called name [] i h = refl
none_called name (p ∷ ps) zero h = by (bytes_eq name p.name) h where
  by : (b : Bool) → (b || list_any (bytes_eq name) (map name_of ps)) ≡ false → b ≡ false
  by true h = absurd (false≢true (sym h))
  by false h = refl
none_called name (p ∷ ps) (suc i) h = none_called name ps i (by (bytes_eq name p.name) h) where
  by : (b : Bool) → (b || list_any (bytes_eq name) (map name_of ps)) ≡ false →
      list_any (bytes_eq name) (map name_of ps) ≡ false
  by true h = absurd (false≢true (sym h))
  by false h = h

none_first : (o : Option ℕ) → same_entry (Export 0) (option_map Export (option_map suc o)) ≡ false
none_first None = refl
none_first (Some i) = eqb-zero-suc i

one_further : (i : ℕ) (o : Option ℕ) → same_entry (Export (suc i)) (option_map Export (option_map suc o))
    ≡ same_entry (Export i) (option_map Export o)
one_further i None = refl
one_further i (Some j) = eqb-suc-suc i j

-- where names differ, the first export of a name is the one
export_is : (name : List ℕ) (ps : List Proto) (index : ℕ) → are_distinct (map name_of ps) ≡ true →
    same_entry (Export index) (option_map Export (position (λ p. bytes_eq name p.name) ps))
    ≡ called_so name (slice_get ps index)
export_is name [] index h = refl
export_is name (p ∷ ps) index h =
    by (λ i. export_is name ps i (and_rest (not (list_any (bytes_eq p.name) (map name_of ps))) _ h))
    (bytes_eq name p.name) refl index where
      along : (index : ℕ) →
          same_entry (Export index) (option_map Export (position (λ p. bytes_eq name p.name) (p ∷ ps)))
          ≡ same_entry (Export index)
          (option_map Export (cond (bytes_eq name p.name) (Some 0)
          (option_map suc (position (λ p. bytes_eq name p.name) ps))))
      along index =
          ap (λ o. same_entry (Export index) (option_map Export o)) (position-cons (λ (p : Proto). bytes_eq name p.name)
          p
          ps)

      by : ((i : ℕ) → same_entry (Export i) (option_map Export (position (λ p. bytes_eq name p.name) ps))
          ≡ called_so name (slice_get ps i)) → (b : Bool) → bytes_eq name p.name ≡ b → (index : ℕ) →
          same_entry (Export index) (option_map Export (position (λ p. bytes_eq name p.name) (p ∷ ps)))
          ≡ called_so name (slice_get (p ∷ ps) index)
      by later true is zero =
          along 0 ∙ ap
          (λ b. same_entry (Export 0)
          (option_map Export (cond b (Some 0) (option_map suc (position (λ p. bytes_eq name p.name) ps))))) is ∙ sym is
      by later true is (suc i) =
          along (suc i)
          ∙ ap (λ b. same_entry (Export (suc i))
          (option_map Export (cond b (Some 0) (option_map suc (position (λ p. bytes_eq name p.name) ps))))) is
          ∙ eqb-suc-zero i
          ∙ sym (none_called name ps i (subst (λ n. list_any (bytes_eq n) (map name_of ps) ≡ false)
          (sym (same_text name p.name is)) (not-true (list_any (bytes_eq p.name) (map name_of ps))
          (and_first (not (list_any (bytes_eq p.name) (map name_of ps))) _ h))))
      by later false is zero =
          along 0 ∙ ap
          (λ b. same_entry (Export 0)
          (option_map Export (cond b (Some 0) (option_map suc (position (λ p. bytes_eq name p.name) ps))))) is
          ∙ none_first (position (λ p. bytes_eq name p.name) ps) ∙ sym is
      by later false is (suc i) =
          along (suc i)
          ∙ ap (λ b. same_entry (Export (suc i))
          (option_map Export (cond b (Some 0) (option_map suc (position (λ p. bytes_eq name p.name) ps))))) is
          ∙ one_further i (position (λ p. bytes_eq name p.name) ps) ∙ later i

-- `main` is no export
main_not_called : (functions : List TypedFunction) (ps : List Proto) (index : ℕ) (name : List ℕ) →
    list_all (export_fits functions) ps ≡ true → bytes_eq name main_name ≡ true →
    called_so name (slice_get ps index) ≡ false
main_not_called functions ps index name fits is = by (slice_get ps index) refl where
  plain : (proto : Proto) → export_fits functions proto ≡ true → (b : Bool) → bytes_eq name proto.name ≡ b → b ≡ false
  plain proto h true called =
      let same : proto.name ≡ main_name = sym (same_text name proto.name called) ∙ same_text name main_name is in
      let self : bytes_eq proto.name main_name ≡ true =
      subst (λ x. bytes_eq proto.name x ≡ true) same (bytes_eq_self proto.name) in
      absurd (false≢true (sym (ap not self) ∙ and_first (not (bytes_eq proto.name main_name))
      _ (and_rest (is_plain_name proto.name) _ h)))
  plain proto h false called = refl

  by : (o : Option Proto) → slice_get ps index ≡ o → called_so name o ≡ false
  by None at = refl
  by (Some proto) at = plain proto (all_at (export_fits functions) ps fits index proto at) (bytes_eq name proto.name)
      refl

module _ (program : ProgramTree) (typed : is_well_typed program ≡ true) where
  abbrev program_interfaces : Interfaces
  program_interfaces = program.interfaces

  abbrev sections : List TypedSection
  sections = program.sections

  one_main : mains_in sections ≡ 1
  one_main =
      eqb-true (mains_in sections) 1 (and_rest (main_fits (slice_get sections program_interfaces.main)) _
      (mains_so program typed))

  -- a section that defines `main` is the main one
  pub main_there : (comp : ℕ) (section : TypedSection) → slice_get sections comp ≡ Some section →
      list_any is_main section.functions ≡ true → comp ≡ program_interfaces.main
  main_there comp section is h =
      by (slice_get sections program_interfaces.main) refl (main_so program typed) where
        by : (o : Option TypedSection) → slice_get sections program_interfaces.main ≡ o → main_fits o ≡ true →
            comp ≡ program_interfaces.main
        by None at fits = absurd (false≢true fits)
        by (Some own) at fits =
            mains_apart sections comp program_interfaces.main section own is h at
            (any_along {A = TypedFunction} _ is_main
            (λ f k. and_first (is_main f) _ k) own.functions fits) one_main

  module _ (comp : ℕ) (section : TypedSection) (is : slice_get sections comp ≡ Some section) where
    pub place : ForSection program_interfaces program_interfaces.comps comp section
    place = for_section program_interfaces 0 program_interfaces.comps sections (sections_so program typed) comp section
        is

    abbrev exports : List Proto
    exports = place.interface.exports

    pub export_names : are_distinct (map name_of exports) ≡ true
    export_names =
        and_first (are_distinct (map name_of exports))
        _ (and_rest (are_distinct (map (import_name program_interfaces) place.interface.imports ++ map
        {A = TypedFunction}
        (λ f. f.name) section.functions)) _ place.placed.interface_fitting)

    pub exports_so : list_all (export_fits section.functions) exports ≡ true
    exports_so =
        and_first (list_all (export_fits section.functions) exports) _ (and_rest (are_distinct (map name_of exports))
        _ (and_rest (are_distinct (map (import_name program_interfaces) place.interface.imports ++ map
        {A = TypedFunction}
        (λ f. f.name) section.functions)) _ place.placed.interface_fitting))

    -- a function is entered by an export exactly where it is called so
    pub export_of : (index : ℕ) (name : List ℕ) → same_entry (Export index) (entry_of program_interfaces comp name)
        ≡ called_so name (export_at program_interfaces comp index)
    export_of index name =
        by (comp == program_interfaces.main && bytes_eq name main_name) refl
        ∙ sym (ap (λ (o : Option Interface). called_so name (option_and_then (λ found. slice_get found.exports index)
        o)) place.is) where
          by : (b : Bool) → (comp == program_interfaces.main && bytes_eq name main_name) ≡ b →
              same_entry (Export index) (if b then Some Main else export_called program_interfaces comp name)
              ≡ called_so name (slice_get exports index)
          by true own =
              sym (main_not_called section.functions exports index name exports_so
              (and_rest (comp == program_interfaces.main) _ own))
          by false own =
              ap (λ (o : Option Interface). same_entry (Export index)
              (option_map Export (position {X = Proto} (λ proto. bytes_eq name proto.name) (exports_of o)))) place.is
              ∙ export_is name exports index export_names

    abbrev entered : Entry → TypedFunction → Bool
    entered entry f = same_entry entry (entry_of program_interfaces comp f.name)

    main_placed : position (λ (f : TypedFunction). bytes_eq f.name main_name) section.functions
        ≡ position (entered Main) section.functions
    main_placed = by (comp == program_interfaces.main) refl where
      along : (b : Bool) → (comp == program_interfaces.main) ≡ b →
          position (entered Main) section.functions ≡ position (λ (f : TypedFunction). b && bytes_eq f.name main_name)
          section.functions
      along b own =
          ap (λ p. position p section.functions) (λ i f. (main_is program_interfaces comp f.name
          ∙ ap (λ b. b && bytes_eq f.name main_name) own) i)

      nowhere : (b : Bool) → list_any is_main section.functions ≡ b → (comp == program_interfaces.main) ≡ false →
          list_any is_main section.functions ≡ false
      nowhere true h other = absurd (false≢true
          (sym other ∙ eq-eqb comp program_interfaces.main (main_there comp section is h)))
      nowhere false h other = h

      by : (b : Bool) → (comp == program_interfaces.main) ≡ b →
          position (λ (f : TypedFunction). bytes_eq f.name main_name) section.functions ≡ position (entered Main)
          section.functions
      by true own = sym (along true own)
      by false own =
          position_never is_main section.functions (nowhere (list_any is_main section.functions) refl own)
          ∙ sym (along false own ∙ position_never (λ f. false) section.functions (never section.functions))

    export_placed : (index : ℕ) (o : Option Proto) → export_at program_interfaces comp index ≡ o →
        place_of_export o (Some section) ≡ position (entered (Export index)) section.functions
    export_placed index o at =
        by o ∙ sym (ap (λ p. position p section.functions) (λ i f. (export_of index f.name ∙ ap (called_so f.name) at)
        i)) where
          by : (o : Option Proto) →
              place_of_export o (Some section) ≡ position (λ (f : TypedFunction). called_so f.name o) section.functions
          by None = sym (position_never (λ f. false) section.functions (never section.functions))
          by (Some proto) = refl

    in_section : (entry : Entry) → position (entered entry) section.functions ≡ function_entered entry
        (Some (lowered_section program_interfaces comp section))
    in_section entry =
        sym (position_map (lowered_function program_interfaces comp section.structs)
        (λ (f : TacFnTree). same_entry entry f.entry)
        section.functions)

    section_entered : (entry : Entry) →
        entry_in program comp entry ≡ function_entered entry (Some (lowered_section program_interfaces comp section))
    section_entered Main = ap (place_named main_name) is ∙ main_placed ∙ in_section Main
    section_entered (Export index) =
        ap (place_of_export (export_at program_interfaces comp index)) is ∙
        export_placed index (export_at program_interfaces comp index) refl
        ∙ in_section (Export index)

  nothing_entered : (entry : Entry) (comp : ℕ) → slice_get sections comp ≡ None → entry_in program comp entry ≡ None
  nothing_entered Main comp is = ap (place_named main_name) is
  nothing_entered (Export index) comp is = ap (place_of_export (export_at program_interfaces comp index)) is
      ∙ by (export_at program_interfaces comp index) where
        by : (o : Option Proto) → place_of_export o None ≡ None
        by None = refl
        by (Some proto) = refl

  -- an entry leads to the same function
  pub entered_same : (comp : ℕ) (entry : Entry) →
      entry_in program comp entry ≡ function_entered entry
      (slice_get (lowered_sections program_interfaces 0 sections) comp)
  entered_same comp entry =
      by (slice_get sections comp) refl ∙
      sym (ap (function_entered entry) (first_at program_interfaces sections comp)) where
        by : (o : Option TypedSection) → slice_get sections comp ≡ o →
            entry_in program comp entry ≡ function_entered entry (option_map (lowered_section program_interfaces comp)
            (slice_get sections comp))
        by None is =
            nothing_entered entry comp is
            ∙ sym (ap (λ o. function_entered entry (option_map (lowered_section program_interfaces comp) o)) is)
        by (Some section) is =
            section_entered comp section is entry
            ∙ sym (ap (λ o. function_entered entry (option_map (lowered_section program_interfaces comp) o)) is)
