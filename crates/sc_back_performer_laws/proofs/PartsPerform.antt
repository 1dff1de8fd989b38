-- Each compartment of a program can perform its part of a legal trace in a text.
use Rattle.sc_back_performer_laws.proofs.Common.{All, All-from_recursion, AllByRecursion, AreNumbered, Bool, Call, Decl}
use Rattle.sc_back_performer_laws.proofs.Common.{Each, End, Event, ExportFacts, ExportLine, HasWords, ImportFacts}
use Rattle.sc_back_performer_laws.proofs.Common.{ImportLine, In, InterfaceFacts, Interfaces, IsCalled, IsImported}
use Rattle.sc_back_performer_laws.proofs.Common.{IsSpoken, IsTrue, List, None, Option, Out, Proto, Ret, SectionTree}
use Rattle.sc_back_performer_laws.proofs.Common.{Some, Standing, Text, [], action_of, among, and_parts, ap, arith}
use Rattle.sc_back_performer_laws.proofs.Common.{at_start, bytes_eq, comp_is, counts_broken, export_at, false}
use Rattle.sc_back_performer_laws.proofs.Common.{false≢true, function_names, heads_in, if◌then◌else◌, import_of}
use Rattle.sc_back_performer_laws.proofs.Common.{imports, interface_broken, interface_of, interfaces_from}
use Rattle.sc_back_performer_laws.proofs.Common.{interfaces_of, is_allowed, is_function, is_ident, is_legal_from}
use Rattle.sc_back_performer_laws.proofs.Common.{is_name, legal, length, map, may_perform, none_some, option_and_then}
use Rattle.sc_back_performer_laws.proofs.Common.{option_map_or, part, performer, program_of, proto_names}
use Rattle.sc_back_performer_laws.proofs.Common.{recursion_from_All, refl, rows_from, same_Some, same_text, slice_get}
use Rattle.sc_back_performer_laws.proofs.Common.{stands_after, subst, suc, sym, takes, true, zero, ℕ, ◌+◌, ◌<◌, ◌==◌}
use Rattle.sc_back_performer_laws.proofs.Common.{◌||◌, ◌∙◌, ◌∷◌, ◌≡◌, ◌≤◌}
use Rattle.sc_types_scope.specs.Prelude.{proto_of}
use Rattle.sc_ast.specs.declared.section.Decl.TheVariants as decl
use Rattle.sc_back_performer_laws.specs.Performing.{IsCalledSo, IsFromSo, IsNamed, PartsPerform, PerformsPart}
use Rattle.sc_back_performer_laws.proofs.Fitting.{all_promised, all_resolved, facts, proto_named}
use Rattle.sc_back_performer_laws.proofs.Resolved.{IsPromised, IsResolved}

all_at : {A : Type 0} (P : A → Type 0) (xs : List A) (i : ℕ) (x : A) → AllByRecursion P xs →
    slice_get xs i ≡ Some x → P x
all_at P [] i x h got = none_some x got
all_at P (y ∷ xs) zero x h got = subst P (same_Some y x got) h.0
all_at P (y ∷ xs) (suc i) x h got = all_at P xs i x h.1 got

-- Names of functions and prototypes.

named_or : (a b : Text) (more : Bool) → (bytes_eq a b || more) ≡ true → IsTrue (is_ident b) →
    (more ≡ true → IsTrue (is_ident a)) → IsTrue (is_ident a)
named_or a b more h is rest = by (bytes_eq a b) refl h where
  by : (t : Bool) → bytes_eq a b ≡ t → (t || more) ≡ true → IsTrue (is_ident a)
  by true same h = subst (λ n. IsTrue (is_ident n)) (sym (same_text a b same)) is
  by false same h = rest h

function_named_so : (decls : List Decl) → AllByRecursion IsCalledSo (heads_in decls) → (name : Text) →
    among (function_names decls) name ≡ true → IsTrue (is_ident name)
function_named_so [] h name there = absurd (false≢true there)
function_named_so (decl.Struct tree ∷ decls) h name there = function_named_so decls h name there
function_named_so (decl.Global tree ∷ decls) h name there = function_named_so decls h name there
function_named_so (decl.Proto head ∷ decls) h name there = function_named_so decls h.1 name there
function_named_so (decl.Function tree ∷ decls) h name there =
    named_or name tree.head.name (among (function_names decls) name) there h.0 (function_named_so decls h.1 name)

proto_named_so : (decls : List Decl) → AllByRecursion IsCalledSo (heads_in decls) → (name : Text) →
    among (proto_names decls) name ≡ true → IsTrue (is_ident name)
proto_named_so [] h name there = absurd (false≢true there)
proto_named_so (decl.Struct tree ∷ decls) h name there = proto_named_so decls h name there
proto_named_so (decl.Global tree ∷ decls) h name there = proto_named_so decls h name there
proto_named_so (decl.Function tree ∷ decls) h name there = proto_named_so decls h.1 name there
proto_named_so (decl.Proto head ∷ decls) h name there =
    named_or name head.name (among (proto_names decls) name) there h.0 (proto_named_so decls h.1 name)

-- Rows are numbered.

rows_numbered : (c number : ℕ) (at : Option Standing) (trace : List Event) → number + length trace ≤ 4096 →
    AreNumbered number (rows_from c number at trace)
rows_numbered c number at [] few = tt
rows_numbered c number None (event ∷ later) few = tt
rows_numbered c number (Some at) (event ∷ later) few =
    by (performer event == c) (rows_numbered c (suc number) (stands_after at event) later (omega (arith, few)))
    (rows_numbered c number (stands_after at event) later (omega (arith, few))) where
      by : (mine : Bool) → AreNumbered (suc number) (rows_from c (suc number) (stands_after at event) later) →
          AreNumbered number (rows_from c number (stands_after at event) later) →
          AreNumbered number (if mine then record {
            entry = at.active.entry;
            number = number;
            action = action_of event;
          } ∷ rows_from c (suc number) (stands_after at event) later else
          rows_from c number (stands_after at event) later)
      by true more less = (refl, omega (arith, few), more)
      by false more less = less

module _ (olds : List SectionTree) (in_interfaces : interface_broken olds ≡ []) (in_counts : counts_broken olds ≡ [])
    (named : AllByRecursion IsNamed olds) where
  abbrev interfaces : Interfaces
  interfaces = interfaces_of olds

  -- Sections at their places.
  module _ (number : ℕ) (old : SectionTree) (got : slice_get olds number ≡ Some old) where
    abbrev names : IsNamed old
    names = all_at IsNamed olds number old named got

    abbrev fact : InterfaceFacts olds number old
    fact = facts olds in_interfaces in_counts number old got

    one_called : (line : ExportLine) → ExportFacts olds number old line → IsPromised old line →
        IsCalled (proto_of old line)
    one_called line f p = record {
      name = subst (λ n. IsTrue (is_ident n)) (sym (proto_named old line))
          (function_named_so old.decls (recursion_from_All IsCalledSo (heads_in old.decls) names.heads) line.name
          f.defined);
      few = p.few;
    }

    called_from : (lines : List ExportLine) → Each (ExportFacts olds number old) lines → Each (IsPromised old) lines →
        AllByRecursion IsCalled (map (proto_of old) lines)
    called_from [] h p = tt
    called_from (line ∷ lines) h p = (one_called line h.0 p.0, called_from lines h.1 p.1)

    exports_called : AllByRecursion IsCalled (map (proto_of old) old.exports)
    exports_called =
        called_from old.exports fact.exports (all_promised olds in_interfaces in_counts number old got)

    imported_from : (lines : List ImportLine) → Each (ImportFacts olds number old) lines →
        Each (IsResolved olds number old) lines → AllByRecursion IsFromSo lines →
        AllByRecursion (IsImported interfaces) (map (import_of olds number) lines)
    imported_from [] h r from = tt
    imported_from (a ∷ lines) h r from = (
      record {
        f = r.0.f;
        is = r.0.is;
        called = record {
          name = subst (λ n. IsTrue (is_ident n)) (sym r.0.name)
              (proto_named_so old.decls (recursion_from_All IsCalledSo (heads_in old.decls) names.heads) a.name
              h.0.declared);
          few = r.0.few;
        };
        owner = subst (λ n. IsTrue (is_name n)) (sym r.0.owner) from.0;
      },
      imported_from lines h.1 r.1 from.1,
    )

  -- Exports by their numbers.

  none_from : (k : ℕ) (rest : List SectionTree) (j : ℕ) → slice_get rest j ≡ None →
      slice_get (interfaces_from olds k rest) j ≡ None
  none_from k [] j e = refl
  none_from k (s ∷ rest) zero e = none_some s (sym e)
  none_from k (s ∷ rest) (suc j) e = none_from (suc k) rest j e

  export_called : (to index : ℕ) (f : Proto) → export_at interfaces to index ≡ Some f → IsCalled f
  export_called to index f is = by (slice_get olds to) refl where
    by : (o : Option SectionTree) → slice_get olds to ≡ o → IsCalled f
    by None e =
        none_some f (sym (ap (option_and_then (λ found. slice_get found.exports index)) (none_from 0 olds to e)) ∙ is)
    by (Some s) got =
        all_at IsCalled (map (proto_of s) s.exports) index f (exports_called to s got)
        (sym (ap (option_and_then (λ found. slice_get found.exports index)) (comp_is olds to s got)) ∙ is)

  -- Rows.

  taken : (to index count : ℕ) → takes interfaces to index count ≡ true →
      (f : Proto) × (export_at interfaces to index ≡ Some f) × IsCalled f
  taken to index count h = by (export_at interfaces to index) refl h where
    by : (o : Option Proto) → export_at interfaces to index ≡ o →
        option_map_or (λ found. length found.params == count) o false ≡ true →
        (f : Proto) × (export_at interfaces to index ≡ Some f) × IsCalled f
    by None e h = absurd (false≢true h)
    by (Some f) e h = (f, e, export_called to index f e)

  spoken : (at : Standing) (event : Event) → may_perform interfaces at event ≡ true → HasWords event →
      IsSpoken interfaces (action_of event)
  spoken at (Call from to index args) may words = (
    words,
    taken to index (length args) (and_parts (imports interfaces from (is_function to index))
        (takes interfaces to index (length args)) may).1,
  )
  spoken at (Ret from to None) may words = tt
  spoken at (Ret from to (Some value)) may words = words
  spoken at (Out comp value) may words = words
  spoken at (In comp value) may words = tt
  spoken at (End comp value) may words = words

  rows_spoken : (c number : ℕ) (at : Option Standing) (trace : List Event) →
      is_legal_from interfaces at trace ≡ true →
      AllByRecursion HasWords trace →
      AllByRecursion (λ row. IsSpoken interfaces row.action) (rows_from c number at trace)
  rows_spoken c number at [] is words = tt
  rows_spoken c number None (event ∷ later) is words = tt
  rows_spoken c number (Some at) (event ∷ later) is words =
      let parts = and_parts (is_allowed interfaces at event)
      (is_legal_from interfaces (stands_after at event) later) is in
      let allowed = and_parts (performer event == at.active.comp) (may_perform interfaces at event) parts.0 in
      by (performer event == c) (spoken at event allowed.1 words.0)
      (rows_spoken c (suc number) (stands_after at event) later parts.1 words.1)
      (rows_spoken c number (stands_after at event) later parts.1 words.1) where
        by : (mine : Bool) → IsSpoken interfaces (action_of event) →
            AllByRecursion (λ row. IsSpoken interfaces row.action)
            (rows_from c (suc number) (stands_after at event) later) →
            AllByRecursion (λ row. IsSpoken interfaces row.action)
            (rows_from c number (stands_after at event) later) →
            AllByRecursion (λ row. IsSpoken interfaces row.action) (if mine then record {
              entry = at.active.entry;
              number = number;
              action = action_of event;
            } ∷ rows_from c (suc number) (stands_after at event) later else
            rows_from c number (stands_after at event) later)
        by true said more less = (said, more)
        by false said more less = less

  there : (xs : List SectionTree) (i : ℕ) → i < length xs → (s : SectionTree) × (slice_get xs i ≡ Some s)
  there [] i low = absurd (omega (arith, low))
  there (x ∷ xs) zero low = (x, refl)
  there (x ∷ xs) (suc i) low = there xs i (omega (arith, low))

  pub section_performs : (trace : List Event) → legal interfaces trace ≡ true → All HasWords trace →
      length trace ≤ 4096 → (comp : ℕ) → comp < length olds → PerformsPart (program_of olds) trace comp
  section_performs trace is_legal words few comp low =
      let at : (s : SectionTree) × (slice_get olds comp ≡ Some s) = there olds comp low in
      let names : IsNamed at.0 = all_at IsNamed olds comp at.0 named at.1 in
      record {
        interface = interface_of olds comp at.0;
        at = comp_is olds comp at.0 at.1;
        can = record {
          name = names.name;
          exports = All-from_recursion IsCalled (map (proto_of at.0) at.0.exports) (exports_called comp at.0 at.1);
          imports = All-from_recursion (IsImported interfaces) (map (import_of olds comp) at.0.imports)
              (imported_from comp at.0 at.1 at.0.imports (facts olds in_interfaces in_counts comp at.0 at.1).imports
              (all_resolved olds in_interfaces in_counts comp at.0 at.1)
              (recursion_from_All IsFromSo at.0.imports names.comps));
          actions = All-from_recursion (λ row. IsSpoken interfaces row.action)
              (part interfaces.main comp trace)
              (rows_spoken comp 0 (at_start interfaces.main) trace is_legal
              (recursion_from_All HasWords trace words));
          numbered = rows_numbered comp 0 (at_start interfaces.main) trace (omega (arith, few));
        };
      }

pub parts_perform : PartsPerform
parts_perform sections program trace typed named performable comp low =
    let e : program ≡ program_of sections = typed.is in
    subst (λ p. PerformsPart p trace comp) (sym e)
    (section_performs sections typed.interfaces typed.counts (recursion_from_All IsNamed sections named) trace
    (subst (λ p. legal p.interfaces trace ≡ true) e performable.is_legal) performable.words performable.few comp low)
