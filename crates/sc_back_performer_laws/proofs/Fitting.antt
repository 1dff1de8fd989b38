-- A compartment of a text that keeps the rules can perform its part of a legal trace.
use Rattle.sc_back_performer_laws.proofs.Common.{All, All-from_recursion, AllByRecursion, Bool, Each, Event}
use Rattle.sc_back_performer_laws.proofs.Common.{ExportFacts, ExportLine, HasWords, ImportFacts, ImportLine, Interface}
use Rattle.sc_back_performer_laws.proofs.Common.{InterfaceFacts, Interfaces, IsPerformer, IsUsable, List, Proto}
use Rattle.sc_back_performer_laws.proofs.Common.{SectionTree, Some, Text, [], all_of, among, ap, ap₂, are_distinct}
use Rattle.sc_back_performer_laws.proofs.Common.{arith, back_empty, both_distinct, bytes_eq, comp_is, cons_option}
use Rattle.sc_back_performer_laws.proofs.Common.{counts_broken, defined, defines_main, eqb-true, export_names, false}
use Rattle.sc_back_performer_laws.proofs.Common.{false≢true, filter_map, fresh_distinct, function_named, function_names}
use Rattle.sc_back_performer_laws.proofs.Common.{function_decls, if◌then◌else◌, import_names, import_of, imported}
use Rattle.sc_back_performer_laws.proofs.Common.{interface_broken, interface_of, interfaces_of, is_plain, legal, length}
use Rattle.sc_back_performer_laws.proofs.Common.{length-map, interface_lines_from, list_any, main_from, main_name}
use Rattle.sc_back_performer_laws.proofs.Common.{main_proto}
use Rattle.sc_back_performer_laws.proofs.Common.{map, map-append, names_of, none_some, part, promised_name, refl}
use Rattle.sc_back_performer_laws.proofs.Common.{rule_holds, same_Some, same_text, slice_get, subst, suc, sym, true}
use Rattle.sc_back_performer_laws.proofs.Common.{used, zero, ℕ, ◌++◌, ◌+◌, ◌==◌, ◌||◌, ◌∙◌, ◌∷◌, ◌≡◌, ◌≤◌}
use Rattle.sc_types_scope.specs.Prelude.{proto_of}
use Rattle.sc_back_performer_laws.proofs.LegalRows.{legal_rows_fit}
use Rattle.sc_back_performer_laws.proofs.Resolved.{IsPromised, IsResolved, facts_at, few_exports, few_imports}
use Rattle.sc_back_performer_laws.proofs.Resolved.{promised_at, resolved}

pub each_from_places : {A : Type 0} (P : A → Type 0) (xs : List A) →
    ((i : ℕ) (x : A) → slice_get xs i ≡ Some x → P x) → Each P xs
each_from_places P [] h = tt
each_from_places P (x ∷ xs) h = (h 0 x refl, each_from_places P xs (λ i y got. h (suc i) y got))

pub each_map : {A : Type 0} (P Q : A → Type 0) → ((x : A) → P x → Q x) → (xs : List A) → Each P xs → Each Q xs
each_map P Q f [] h = tt
each_map P Q f (x ∷ xs) h = (f x h.0, each_map P Q f xs h.1)

-- Where `main` is.

main_least : (k : ℕ) (xs : List SectionTree) → list_any defines_main xs ≡ true → k ≤ main_from k xs
main_least k [] h = absurd (false≢true h)
main_least k (x ∷ xs) h = by (defines_main x) h (main_least (suc k) xs) where
  by : (b : Bool) → (b || list_any defines_main xs) ≡ true →
      (list_any defines_main xs ≡ true → suc k ≤ main_from (suc k) xs) →
      k ≤ (if b then k else main_from (suc k) xs)
  by true h rest = omega arith
  by false h rest = let low = rest h in omega (arith, low)

main_at : (k : ℕ) (xs : List SectionTree) (i : ℕ) (x : SectionTree) → list_any defines_main xs ≡ true →
    slice_get xs i ≡ Some x → main_from k xs ≡ k + i → defines_main x ≡ true
main_at k [] i x some got at = none_some x got
main_at k (y ∷ ys) zero x some got at =
    subst (λ z. defines_main z ≡ true) (same_Some y x got) (by (defines_main y) refl some at) where
      by : (b : Bool) → defines_main y ≡ b → (b || list_any defines_main ys) ≡ true →
          (if b then k else main_from (suc k) ys) ≡ k + 0 → defines_main y ≡ true
      by true is some at = is
      by false is some at = let low = main_least (suc k) ys some in absurd (omega (arith, low, at))
main_at k (y ∷ ys) (suc i) x some got at =
    by (defines_main y) some at (main_at (suc k) ys i x) where
      by : (b : Bool) → (b || list_any defines_main ys) ≡ true →
          (if b then k else main_from (suc k) ys) ≡ k + suc i → (list_any defines_main ys ≡ true →
          slice_get ys i ≡ Some x → main_from (suc k) ys ≡ suc k + i → defines_main x ≡ true) →
          defines_main x ≡ true
      by true some at rest = absurd (omega (arith, at))
      by false some at rest = rest some got (omega (arith, at))

-- no section before the one where it is defines it
pub none_before : (k : ℕ) (before rest : List SectionTree) → main_from k (before ++ rest) ≡ k + length before →
    list_any defines_main before ≡ false
none_before k [] rest at = refl
none_before k (x ∷ before) rest at = by (defines_main x) at (none_before (suc k) before rest) where
  by : (b : Bool) → (if b then k else main_from (suc k) (before ++ rest)) ≡ k + suc (length before) →
      (main_from (suc k) (before ++ rest) ≡ suc k + length before → list_any defines_main before ≡ false) →
      (b || list_any defines_main before) ≡ false
  by true at rest = absurd (omega (arith, at))
  by false at rest = rest (omega (arith, at))

-- Names of two kinds.

not_in : (functions names : List Text) (name : Text) → Each (λ n. among functions n ≡ false) names →
    among functions name ≡ true → among names name ≡ false
not_in functions [] name apart there = refl
not_in functions (n ∷ names) name apart there =
    by (bytes_eq name n) refl (not_in functions names name apart.1 there) where
      by : (b : Bool) → bytes_eq name n ≡ b → among names name ≡ false → (b || among names name) ≡ false
      by true is rest =
          absurd (false≢true (sym apart.0 ∙ ap (among functions) (sym (same_text name n is)) ∙ there))
      by false is rest = rest

each_name : {A : Type 0} (f : A → Text) (P : Text → Type 0) (xs : List A) → Each (λ x. P (f x)) xs →
    Each P (map f xs)
each_name f P [] h = tt
each_name f P (x ∷ xs) h = (h.0, each_name f P xs h.1)

each_prefix : (P : Text → Type 0) (xs ys : List Text) → Each P xs → Each P ys → Each P (xs ++ ys)
each_prefix P [] ys h k = k
each_prefix P (x ∷ xs) ys h k = (h.0, each_prefix P xs ys h.1 k)

all_both : (P : Proto → Type 0) (xs ys : List Proto) → AllByRecursion P xs → AllByRecursion P ys →
    AllByRecursion P (xs ++ ys)
all_both P [] ys h k = k
all_both P (x ∷ xs) ys h k = (h.0, all_both P xs ys h.1 k)

pub proto_named : (old : SectionTree) (line : ExportLine) → (proto_of old line).name ≡ line.name
proto_named old line = promised_name line.name (function_named line.name (function_decls old.decls))

pub exports_named : (old : SectionTree) (lines : List ExportLine) →
    names_of (map (proto_of old) lines) ≡ map {A = ExportLine} (λ line. line.name) lines
exports_named old [] = refl
exports_named old (line ∷ lines) = λ i. proto_named old line i ∷ exports_named old lines i

module _ (olds : List SectionTree) (in_interfaces : interface_broken olds ≡ []) (in_counts : counts_broken olds ≡ [])
    (number : ℕ) (old : SectionTree) (got : slice_get olds number ≡ Some old) where
  abbrev pub interfaces : Interfaces
  interfaces = interfaces_of olds

  abbrev pub interface : Interface
  interface = interface_of olds number old

  abbrev pub facts : InterfaceFacts olds number old
  facts = facts_at olds in_interfaces in_counts number old got

  some_main : list_any defines_main olds ≡ true
  some_main = rule_holds _ 0 (back_empty (interface_lines_from olds 0 [] olds) _ in_interfaces)

  pub main_here : (number == interfaces.main) ≡ true → defines_main old ≡ true
  main_here is =
      let same = eqb-true number interfaces.main is in
      main_at 0 olds number old some_main got (sym same ∙ zero_plus number) where
        zero_plus : (n : ℕ) → n ≡ 0 + n
        zero_plus n = omega arith

  pub all_resolved : Each (IsResolved olds number old) old.imports
  all_resolved =
      each_map (ImportFacts olds number old) (IsResolved olds number old)
      (λ a fact. resolved olds in_interfaces in_counts number old a fact.offered) old.imports facts.imports

  pub all_promised : Each (IsPromised old) old.exports
  all_promised =
      each_from_places (IsPromised old) old.exports
      (λ index line there. promised_at olds in_interfaces in_counts number old got index line there)

  -- Names.

  abbrev import_protos : List ImportLine → List Proto
  import_protos lines = filter_map (imported interfaces) (map (import_of olds number) lines)

  imports_named : (lines : List ImportLine) → Each (IsResolved olds number old) lines →
      names_of (import_protos lines) ≡ map {A = ImportLine} (λ line. line.name) lines
  imports_named [] h = refl
  imports_named (line ∷ lines) h =
      ap (λ o. names_of (cons_option o (import_protos lines))) h.0.is ∙
      ap₂ (λ n ns. n ∷ ns) h.0.name (imports_named lines h.1)

  abbrev mains : Bool → List Proto
  mains b = if b then main_proto ∷ [] else []

  abbrev own : Bool → List Text
  own b = export_names old ++ names_of (mains b)

  abbrev here : Bool
  here = number == interfaces.main

  all_names : names_of (all_of interfaces number interface) ≡ own here ++ import_names old
  all_names =
      map-append {A = Proto} (λ proto. proto.name) (defined interfaces number interface) (used interfaces interface) ∙
      ap₂ (λ a b. a ++ b) (map-append {A = Proto} (λ proto. proto.name) interface.exports (mains here) ∙
      ap (λ a. a ++ names_of (mains here)) (exports_named old old.exports))
      (imports_named old.imports all_resolved)

  exports_defined : Each (λ name. among (function_names old.decls) name ≡ true) (export_names old)
  exports_defined =
      each_name {A = ExportLine} (λ line. line.name) (λ name. among (function_names old.decls) name ≡ true) old.exports
      (each_map (ExportFacts olds number old) (λ line. among (function_names old.decls) line.name ≡ true)
      (λ line fact. fact.defined) old.exports facts.exports)

  mains_defined : (b : Bool) → here ≡ b →
      Each (λ name. among (function_names old.decls) name ≡ true) (names_of (mains b))
  mains_defined true is = (main_here is, tt)
  mains_defined false is = tt

  pub own_defined : (b : Bool) → here ≡ b →
      Each (λ name. among (function_names old.decls) name ≡ true)
      (export_names old ++ (if b then main_name ∷ [] else []))
  own_defined true is =
      each_prefix (λ name. among (function_names old.decls) name ≡ true) (export_names old) (main_name ∷ [])
      exports_defined (main_here is, tt)
  own_defined false is =
      each_prefix (λ name. among (function_names old.decls) name ≡ true) (export_names old) []
      exports_defined tt

  pub imports_apart : Each (λ name. among (function_names old.decls) name ≡ false) (import_names old)
  imports_apart =
      each_name {A = ImportLine} (λ line. line.name) (λ name. among (function_names old.decls) name ≡ false) old.imports
      (each_map (ImportFacts olds number old) (λ line. among (function_names old.decls) line.name ≡ false)
      (λ line fact. fact.not_defined) old.imports facts.imports)

  or_none : (b : Bool) → b ≡ false → (b || false) ≡ false
  or_none b h = ap (λ t. t || false) h

  no_main : (b : Bool) → Each (λ name. among (names_of (mains b)) name ≡ false) (export_names old)
  no_main true =
      each_name {A = ExportLine} (λ line. line.name) (λ name. among (names_of (mains true)) name ≡ false) old.exports
      (each_map (ExportFacts olds number old) (λ line. among (names_of (mains true)) line.name ≡ false)
      (λ line fact. or_none (bytes_eq line.name main_name) fact.no_main) old.exports facts.exports)
  no_main false =
      each_name {A = ExportLine} (λ line. line.name) (λ name. among [] name ≡ false) old.exports
      (each_map (ExportFacts olds number old) (λ line. among [] line.name ≡ false)
      (λ line fact. refl) old.exports facts.exports)

  mains_distinct : (b : Bool) → are_distinct (names_of (mains b)) ≡ true
  mains_distinct true = refl
  mains_distinct false = refl

  own_distinct : (b : Bool) → are_distinct (own b) ≡ true
  own_distinct b =
      both_distinct (export_names old) (names_of (mains b))
      (fresh_distinct [] (export_names old) facts.fresh_exports) (no_main b) (mains_distinct b)

  all_distinct : (b : Bool) → here ≡ b → are_distinct (own b ++ import_names old) ≡ true
  all_distinct b is =
      both_distinct (own b) (import_names old) (own_distinct b)
      (each_map (λ name. among (function_names old.decls) name ≡ true) (λ name. among (import_names old) name ≡ false)
      (λ name there. not_in (function_names old.decls) (import_names old) name imports_apart there) (own b)
      (each_prefix (λ name. among (function_names old.decls) name ≡ true) (export_names old) (names_of (mains b))
      exports_defined (mains_defined b is)))
      (fresh_distinct [] (import_names old) facts.fresh_imports)

  -- Functions.

  exports_usable : (lines : List ExportLine) → Each (ExportFacts olds number old) lines →
      Each (IsPromised old) lines → AllByRecursion IsUsable (map (proto_of old) lines)
  exports_usable [] h p = tt
  exports_usable (line ∷ lines) h p = (
    record {
      plain = ap is_plain (proto_named old line) ∙ h.0.plain;
      few = p.0.few;
    },
    exports_usable lines h.1 p.1,
  )

  imports_usable : (lines : List ImportLine) → Each (ImportFacts olds number old) lines →
      Each (IsResolved olds number old) lines → AllByRecursion IsUsable (import_protos lines)
  imports_usable [] h r = tt
  imports_usable (line ∷ lines) h r =
      subst (λ o. AllByRecursion IsUsable (cons_option o (import_protos lines))) (sym r.0.is) (
        record { plain = ap is_plain r.0.name ∙ h.0.plain; few = r.0.few },
        imports_usable lines h.1 r.1,
      )

  mains_usable : (b : Bool) → AllByRecursion IsUsable (mains b)
  mains_usable true = (record { plain = refl; few = omega arith }, tt)
  mains_usable false = tt

  all_usable : AllByRecursion IsUsable (all_of interfaces number interface)
  all_usable =
      all_both IsUsable (defined interfaces number interface) (used interfaces interface)
      (all_both IsUsable interface.exports (mains here)
      (exports_usable old.exports facts.exports all_promised) (mains_usable here))
      (imports_usable old.imports facts.imports all_resolved)

  pub can_perform : (trace : List Event) → legal interfaces trace ≡ true → All HasWords trace →
      length trace ≤ 4096 → IsPerformer interfaces number (part interfaces.main number trace) interface
  can_perform trace is_legal words few =
      let rows = legal_rows_fit interfaces trace number is_legal words few in record {
        there = comp_is olds number old got;
        distinct = ap are_distinct all_names ∙ all_distinct here refl;
        usable = All-from_recursion IsUsable (all_of interfaces number interface) all_usable;
        few_exports = subst (λ n. n ≤ 4096) (sym (length-map old.exports (proto_of old)))
            (few_exports olds in_interfaces in_counts number old got);
        few_imports = subst (λ n. n ≤ 4096) (sym (length-map old.imports (import_of olds number)))
            (few_imports olds in_interfaces in_counts number old got);
        few_rows = rows.1;
        rows_fit = rows.0;
      }
