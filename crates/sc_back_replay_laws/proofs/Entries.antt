-- Entries of a well-typed program lead to functions, and different ones to different functions.
use Rattle.sc_back_replay_laws.proofs.Common.{Arith, Bool, Entry, Export, Interfaces, IsSome, IsWellTyped, List, Main}
use Rattle.sc_back_replay_laws.proofs.Common.{None, Option, ProgramTree, Proto, Some, TypedFunction, TypedSection, []}
use Rattle.sc_back_replay_laws.proofs.Common.{and_first, and_rest, ap, are_distinct, bytes_eq, denotations_of, entry_in}
use Rattle.sc_back_replay_laws.proofs.Common.{eqb-true, export_at, false, false≢true, function, function_of}
use Rattle.sc_back_replay_laws.proofs.Common.{functions_in, functions_of, if◌then◌else◌, is_main, is_number}
use Rattle.sc_back_replay_laws.proofs.Common.{is_plain_name, list_any, main_fits, main_name, main_proto, main_signature}
use Rattle.sc_back_replay_laws.proofs.Common.{map, ne_eqb, not, option_map, option_map_or, or_right, place_named}
use Rattle.sc_back_replay_laws.proofs.Common.{place_of_export, proto_of, proto_signature, refl, same_signature}
use Rattle.sc_back_replay_laws.proofs.Common.{signature_of, slice_get, slice_index_or, subst, suc, sym, true, zero, ℕ}
use Rattle.sc_back_replay_laws.proofs.Common.{◌&&◌, ◌==◌, ◌||◌, ◌∙◌, ◌∷◌, ◌≡◌}
use Rattle.std.proofs.lemmas.Option.{slice_get-map}
use Rattle.sc_base.proofs.Texts.{bytes_eq_self, same_text}
use Rattle.sc_event.specs.declared.interface.Interface.{Interface}
use Rattle.sc_core_kind_laws.proofs.Sections.{First, any_along, first_of, found_passes, main_so}
use Rattle.sc_core_kind_laws.proofs.Results.{exported}

-- NAMES OF EXPORTS
abbrev named : Proto → List ℕ
named proto = proto.name

among : (name : List ℕ) (exports : List Proto) (i : ℕ) (proto : Proto) → slice_get exports i ≡ Some proto →
    name ≡ proto.name → list_any (bytes_eq name) (map named exports) ≡ true
among name [] i proto is same = absurd (cc)
among name (x ∷ exports) zero proto is same =
    let own : x ≡ proto = cc in
    ap (λ b. b || list_any (bytes_eq name) (map named exports))
    (subst (λ y. bytes_eq name y ≡ true) (same ∙ sym (ap named own)) (bytes_eq_self name))
among name (x ∷ exports) (suc i) proto is same =
    or_right (bytes_eq name x.name) (list_any (bytes_eq name) (map named exports)) (among name exports i proto is same)

-- exports of one name are one export
one_place : (exports : List Proto) → are_distinct (map named exports) ≡ true → (i j : ℕ) (p q : Proto) →
    slice_get exports i ≡ Some p → slice_get exports j ≡ Some q → p.name ≡ q.name → i ≡ j
one_place [] distinct i j p q is js same = absurd (cc)
one_place (x ∷ exports) distinct zero zero p q is js same = refl
one_place (x ∷ exports) distinct zero (suc j) p q is js same =
    let own : x ≡ p = cc in
    absurd (false≢true (sym (ap not (among x.name exports j q js (ap named own ∙ same))) ∙
    and_first (not (list_any (bytes_eq x.name) (map named exports))) _ distinct))
one_place (x ∷ exports) distinct (suc i) zero p q is js same =
    let own : x ≡ q = cc in
    absurd (false≢true (sym (ap not (among x.name exports i p is (ap named own ∙ sym same))) ∙
    and_first (not (list_any (bytes_eq x.name) (map named exports))) _ distinct))
one_place (x ∷ exports) distinct (suc i) (suc j) p q is js same =
    ap suc (one_place exports (and_rest (not (list_any (bytes_eq x.name) (map named exports))) _ distinct) i j p q is js
    same)

-- FUNCTIONS OF DENOTATIONS
abbrev name_of : TypedFunction → List ℕ
name_of f = f.name

section_at : {A B : Type 0} (f : A → List B) (xs : List A) (i : ℕ) →
    slice_index_or (map f xs) i [] ≡ option_map_or f (slice_get xs i) []
section_at f [] i = refl
section_at f (x ∷ xs) zero = refl
section_at f (x ∷ xs) (suc i) = section_at f xs i

pub functions_are : (arith : Arith) (program : ProgramTree) (c : ℕ) →
    functions_of (denotations_of arith program) c ≡
    option_map_or (functions_in arith program.interfaces.main) (slice_get program.sections c) []
functions_are arith program c = section_at (functions_in arith program.interfaces.main) program.sections c

pub function_is : (arith : Arith) (program : ProgramTree) (c n : ℕ) (section : TypedSection) (f : TypedFunction) →
    slice_get program.sections c ≡ Some section → slice_get section.functions n ≡ Some f →
    function (denotations_of arith program) c n ≡ Some (function_of arith program.interfaces.main section.structs f)
function_is arith program c n section f is there =
    ap (λ fs. slice_get fs n) (functions_are arith program c ∙
    ap (λ o. option_map_or (functions_in arith program.interfaces.main) o []) is) ∙
    slice_get-map (function_of arith program.interfaces.main section.structs) section.functions n ∙
    ap (option_map (function_of arith program.interfaces.main section.structs)) there

-- an entry is found by its name
pub entry_named : (program : ProgramTree) (c : ℕ) (entry : Entry) (proto : Proto) →
    proto_of program.interfaces c entry ≡ Some proto →
    entry_in program c entry ≡ place_named proto.name (slice_get program.sections c)
entry_named program c Main proto is = by (c == program.interfaces.main) is where
  by : (b : Bool) → (if b then Some main_proto else None) ≡ Some proto →
      place_named main_name (slice_get program.sections c) ≡ place_named proto.name (slice_get program.sections c)
  by true h = let same : main_proto ≡ proto = cc in
      ap (λ p. place_named (named p) (slice_get program.sections c)) same
  by false h = absurd (cc)
entry_named program c (Export index) proto is =
    ap (λ o. place_of_export o (slice_get program.sections c)) is

module _ (program : ProgramTree) (typed : IsWellTyped program) where
  abbrev interfaces : Interfaces
  interfaces = program.interfaces

  -- the function that an entry leads to
  pub record Leads (c : ℕ) (entry : Entry) (proto : Proto) : Type 0 where
    pub section : TypedSection
    pub is : slice_get program.sections c ≡ Some section
    pub number : ℕ
    pub item : TypedFunction
    pub there : slice_get section.functions number ≡ Some item
    pub entered : entry_in program c entry ≡ Some number

  leads_by : (c : ℕ) (entry : Entry) (proto : Proto) → proto_of interfaces c entry ≡ Some proto →
      (section : TypedSection) → slice_get program.sections c ≡ Some section →
      list_any {X = TypedFunction} (λ f. bytes_eq f.name proto.name) section.functions ≡ true → Leads c entry proto
  leads_by c entry proto known section is any =
      let first : First (λ f. bytes_eq (name_of f) proto.name) section.functions =
      first_of (λ f. bytes_eq (name_of f) proto.name) section.functions any in
      record {
        section = section;
        is = is;
        number = first.number;
        item = first.item;
        there = first.is;
        entered = entry_named program c entry proto known ∙ ap (place_named proto.name) is ∙ first.found;
      }

  -- a known entry leads to a function
  pub leads : (c : ℕ) (entry : Entry) (proto : Proto) → proto_of interfaces c entry ≡ Some proto →
      Leads c entry proto
  leads c Main proto known = by (c == interfaces.main) refl known where
    at_main : (o : Option TypedSection) → slice_get program.sections c ≡ o → main_fits o ≡ true →
        main_name ≡ proto.name → Leads c Main proto
    at_main None is fits same = absurd (false≢true fits)
    at_main (Some section) is fits same =
        leads_by c Main proto known section is
        (subst (λ name. list_any {X = TypedFunction} (λ f. bytes_eq f.name name) section.functions ≡ true) same
        (any_along {A = TypedFunction} (λ f. is_main f && same_signature (signature_of f) main_signature) is_main
        (λ f k. and_first (is_main f) _ k) section.functions fits))

    by : (b : Bool) → (c == interfaces.main) ≡ b → (if b then Some main_proto else None) ≡ Some proto →
        Leads c Main proto
    by true is h =
        let same : main_proto ≡ proto = cc in
        at_main (slice_get program.sections c) refl
        (subst (λ n. main_fits (slice_get program.sections n) ≡ true) (sym (eqb-true c interfaces.main is))
        (main_so program typed))
        (ap named same)
    by false is h = absurd (cc)
  leads c (Export index) proto known =
      let e = exported program typed c index proto known in
      leads_by c (Export index) proto known e.section e.is
      (any_along {A = TypedFunction}
      (λ f. bytes_eq f.name proto.name && same_signature (signature_of f) (proto_signature proto))
      (λ f. bytes_eq f.name proto.name) (λ f k. and_first (bytes_eq f.name proto.name) _ k) e.section.functions e.named)

  -- NAMES OF ENTRIES DIFFER
  main_is : (c : ℕ) (proto : Proto) → proto_of interfaces c Main ≡ Some proto → proto.name ≡ main_name
  main_is c proto known = by (c == interfaces.main) known where
    by : (b : Bool) → (if b then Some main_proto else None) ≡ Some proto → proto.name ≡ main_name
    by true h = let same : main_proto ≡ proto = cc in sym (ap named same)
    by false h = absurd (cc)

  no_main : (c index : ℕ) (proto : Proto) → export_at interfaces c index ≡ Some proto → proto.name ≡ main_name →
      ⊥
  no_main c index proto known same =
      let e = exported program typed c index proto known in
      false≢true (sym (ap not (subst (λ name. bytes_eq proto.name name ≡ true) same (bytes_eq_self proto.name))) ∙
      and_first (not (bytes_eq proto.name main_name)) _ (and_rest (is_plain_name proto.name) _ e.fits))

  pub one_entry : (c : ℕ) (entry other : Entry) (p q : Proto) → proto_of interfaces c entry ≡ Some p →
      proto_of interfaces c other ≡ Some q → p.name ≡ q.name → other ≡ entry
  one_entry c Main Main p q is js same = refl
  one_entry c Main (Export j) p q is js same = absurd (no_main c j q js (sym same ∙ main_is c p is))
  one_entry c (Export i) Main p q is js same = absurd (no_main c i p is (same ∙ main_is c q js))
  one_entry c (Export i) (Export j) p q is js same =
      let e = exported program typed c i p is in
      let d = exported program typed c j q js in
      let one : d.interface ≡ e.interface = cc (d.interface_found, e.interface_found) in
      ap Export (sym (one_place e.interface.exports e.exports_differ i j p q e.at
      (subst {A = Interface} (λ x. slice_get x.exports j ≡ Some q) one d.at) same))

  -- a function that an entry leads to has its name
  record Called (c number : ℕ) (proto : Proto) : Type 0 where
    pub section : TypedSection
    pub is : slice_get program.sections c ≡ Some section
    pub item : TypedFunction
    pub there : slice_get section.functions number ≡ Some item
    pub name : item.name ≡ proto.name

  called_so : (c number : ℕ) (entry : Entry) (proto : Proto) → proto_of interfaces c entry ≡ Some proto →
      entry_in program c entry ≡ Some number → Called c number proto
  called_so c number entry proto known is =
      by (slice_get program.sections c) refl (sym (entry_named program c entry proto known) ∙ is) where
        by : (o : Option TypedSection) → slice_get program.sections c ≡ o → place_named proto.name o ≡ Some number →
            Called c number proto
        by None at h = absurd (cc)
        by (Some section) at h =
            let passing = found_passes {A = TypedFunction} (λ f. bytes_eq f.name proto.name) section.functions number
            h in
            record {
              section = section;
              is = at;
              item = passing.item;
              there = passing.is;
              name = same_text passing.item.name proto.name passing.passes;
            }

  -- no other entry leads to the same function
  pub apart : (c : ℕ) (entry other : Entry) (number : ℕ) → entry_in program c entry ≡ Some number →
      IsSome (proto_of interfaces c entry) → IsSome (proto_of interfaces c other) → (other ≡ entry → ⊥) →
      is_number number (entry_in program c other) ≡ false
  apart c entry other number is known known' ne =
      by_protos (proto_of interfaces c entry) refl known (proto_of interfaces c other) refl known' where
        by_number : (p q : Proto) → proto_of interfaces c entry ≡ Some p →
            proto_of interfaces c other ≡ Some q →
            (o : Option ℕ) → entry_in program c other ≡ o → is_number number o ≡ false
        by_number p q ps qs None js = refl
        by_number p q ps qs (Some n) js =
            ne_eqb n number (λ same. ne (
            let a = called_so c number entry p ps is in
            let b = called_so c n other q qs js in
            let section : a.section ≡ b.section = cc (a.is, b.is) in
            let there : slice_get a.section.functions n ≡ Some b.item =
            subst {A = TypedSection} (λ s. slice_get s.functions n ≡ Some b.item) (sym section) b.there in
            let item : a.item ≡ b.item = cc (a.there, there, same) in
            one_entry c entry other p q ps qs (sym a.name ∙ ap name_of item ∙ b.name)))

        by_protos : (o : Option Proto) → proto_of interfaces c entry ≡ o → IsSome o → (o' : Option Proto) →
            proto_of interfaces c other ≡ o' → IsSome o' → is_number number (entry_in program c other) ≡ false
        by_protos None ps some o' qs some' = absurd (false≢true some)
        by_protos (Some p) ps some None qs some' = absurd (false≢true some')
        by_protos (Some p) ps some (Some q) qs some' = by_number p q ps qs (entry_in program c other) refl
