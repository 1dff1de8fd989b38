-- A performing section with its types performs its rows.
use Rattle.sc_back_performer_laws.proofs.Common.{AllByRecursion, Bool, Callees, Entry, Export, FunctionTree, Import}
use Rattle.sc_back_performer_laws.proofs.Common.{Interface, Interfaces, IsImportedAs, IsPerformer, IsPerforming}
use Rattle.sc_back_performer_laws.proofs.Common.{IsUsable, List, Main, None, Option, Performs, PerformsRows, Proto, Row}
use Rattle.sc_back_performer_laws.proofs.Common.{RowsPerform, SectionTree, Some, StmtTree, TypedFunction, [], among, ap}
use Rattle.sc_back_performer_laws.proofs.Common.{ap₂, are_distinct, arith, bytes_eq, bytes_eq_self, callees_of, cond}
use Rattle.sc_back_performer_laws.proofs.Common.{false, filter, if◌then◌else◌, import_of, imported, inl, inr, is_of}
use Rattle.sc_back_performer_laws.proofs.Common.{main_proto, map, none-some, option_and_then, option_map, or_right}
use Rattle.sc_back_performer_laws.proofs.Common.{position, position-cons, proto_of, recursion_from_All, refl, same_Some}
use Rattle.sc_back_performer_laws.proofs.Common.{same_text, slice_get, subst, suc, sym, true, typed_function}
use Rattle.sc_back_performer_laws.proofs.Common.{typed_global, typed_section, zero, ℕ, ◌++◌, ◌+◌, ◌==◌, ◌||◌, ◌∙◌, ◌∷◌}
use Rattle.sc_back_performer_laws.proofs.Common.{◌≡◌, ◌⊎◌}
use Rattle.sc_back_performer_laws.proofs.BackTree.{AreFunctions, IsBackBody, IsBackTree, and_function, counter_at}
use Rattle.sc_back_performer_laws.proofs.BackTree.{entries_from, entries_of, function_at, import_at, main_entries}
use Rattle.sc_back_performer_laws.proofs.BackTree.{no_functions, use_of, uses}
use Rattle.sc_back_performer_laws.proofs.Undone.{back_tree_is}
use Rattle.sc_back_performer_laws.proofs.Distinct.{first_new, prefix_distinct, is_false, not_both, rest_distinct}
use Rattle.sc_back_performer_laws.proofs.Performing.{HasTargets, performing}
use Rattle.sc_back_performer_laws.proofs.SectionFacts.{distinct_names, entries, entries_usable, entry_names}
use Rattle.sc_back_performer_laws.proofs.SectionTypes.{body_is, functions_are, no_counter, no_locals, no_tags}
use Rattle.sc_back_performer_laws.proofs.SectionTypes.{one_global, signatures, targets, typed_params}
use Rattle.sc_back_performer_laws.proofs.TypedRows.{typed_body}
use Rattle.sc_back_performer_laws.proofs.Uses.{IsAmong, first, later, is_first_or_later, none_among, rows_fit}

-- An entry's function is among the functions of entries.

among_prefix : {A : Type 0} (x : A) (xs ys : List A) → IsAmong x xs → IsAmong x (xs ++ ys)
among_prefix x xs ys (first more) = first (more ++ ys)
among_prefix x xs ys (later y more h) = later y (more ++ ys) (among_prefix x more ys h)

among_back : {A : Type 0} (x : A) (xs ys : List A) → IsAmong x ys → IsAmong x (xs ++ ys)
among_back x [] ys h = h
among_back x (y ∷ xs) ys h = later y (xs ++ ys) (among_back x xs ys h)

export_among : (exports : List Proto) (start place index : ℕ) (f : Proto) → index ≡ start + place →
    slice_get exports place ≡ Some f → IsAmong (Export index, f) (entries_from start exports)
export_among [] start place index f e got = absurd (none-some f got)
export_among (g ∷ exports) start zero index f e got =
    subst (λ x. IsAmong {A = Entry × Proto} (Export index, f) (x ∷ entries_from (suc start) exports))
    (λ i. (Export (e' i), same_Some f g (sym got) i)) (first (entries_from (suc start) exports)) where
      e' : index ≡ start
      e' = omega (arith, e)
export_among (g ∷ exports) start (suc place) index f e got =
    later (Export start, g) (entries_from (suc start) exports)
    (export_among exports (suc start) place index f (omega (arith, e)) got)

main_among : (b : Bool) (f : Proto) → (if b then Some main_proto else None) ≡ Some f →
    IsAmong {A = Entry × Proto} (Main, f) (if b then (Main, main_proto) ∷ [] else [])
main_among true f h =
    subst (λ x. IsAmong {A = Entry × Proto} (Main, f) ((Main, x) ∷ [])) (sym (same_Some main_proto f h)) (first [])
main_among false f h = absurd (none-some f h)

entry_holds : (e : Entry × Proto) (all : List (Entry × Proto)) → AllByRecursion (λ e. IsUsable e.1) all →
    IsAmong e all → IsUsable e.1
entry_holds e all h (first xs) = h.0
entry_holds e all h (later y xs there) = entry_holds e xs h.1 there

module _ (interfaces : Interfaces) (comp : ℕ) (rows : List Row) (interface : Interface)
    (is : IsPerformer interfaces comp rows interface) where
  entry_among : (entry : Entry) (f : Proto) → proto_of interfaces comp entry ≡ Some f →
      IsAmong (entry, f) (entries_of interfaces comp interface)
  entry_among Main f h =
      among_back (Main, f) (entries_from 0 interface.exports) (main_entries interfaces comp)
      (main_among (comp == interfaces.main) f h)
  entry_among (Export index) f h =
      among_prefix (Export index, f) (entries_from 0 interface.exports) (main_entries interfaces comp)
      (export_among interface.exports 0 index index f (omega arith)
      (sym (ap (option_and_then (λ found. slice_get found.exports index)) is.there) ∙ h))

-- Where a function stands.

module _ (interfaces : Interfaces) (rows : List Row) (section : SectionTree) (callees : Callees) where
  abbrev typed : FunctionTree → TypedFunction
  typed = typed_function section callees

  record Stands (e : Entry × Proto) (trees : List FunctionTree) : Type 0 where
    at : ℕ
    line : ℕ
    close_line : ℕ
    body : List StmtTree
    got : slice_get (map typed trees) at ≡ Some (typed (function_at e.1 line close_line body))
    place : position {X = TypedFunction} (λ f. bytes_eq f.name e.1.name) (map typed trees) ≡ Some at
    does_rows : IsBackBody interfaces e.1.result (filter (is_of e.0) rows) body

  entry_named : (e : Entry × Proto) (all : List (Entry × Proto)) → IsAmong e all →
      among (entry_names all) e.1.name ≡ true
  entry_named e all (first xs) = ap (λ b. b || among (entry_names xs) e.1.name) (bytes_eq_self e.1.name)
  entry_named e all (later y xs h) =
      or_right (bytes_eq e.1.name y.1.name) (among (entry_names xs) e.1.name) (entry_named e xs h)

  other_name : (e y : Entry × Proto) (others : List (Entry × Proto)) →
      are_distinct (entry_names (y ∷ others)) ≡ true → IsAmong e others → bytes_eq y.1.name e.1.name ≡ false
  other_name e y others distinct there =
      is_false (bytes_eq y.1.name e.1.name) (λ same.
      not_both (among (entry_names others) y.1.name)
      (subst (λ n. among (entry_names others) n ≡ true) (sym (same_text y.1.name e.1.name same))
      (entry_named e others there)) (first_new y.1.name (entry_names others) distinct))

  next_stands : (e y : Entry × Proto) (others : List (Entry × Proto)) (line close_line : ℕ) (body : List StmtTree)
      (trees : List FunctionTree) → IsBackBody interfaces y.1.result (filter (is_of y.0) rows) body →
      are_distinct (entry_names (y ∷ others)) ≡ true → (e ≡ y) ⊎ IsAmong e others →
      (IsAmong e others → Stands e trees) → Stands e (function_at y.1 line close_line body ∷ trees)
  next_stands e y others line close_line body trees b distinct (inl is) found =
      subst (λ z. Stands z (function_at y.1 line close_line body ∷ trees)) (sym is) (record {
        at = 0;
        line = line;
        close_line = close_line;
        body = body;
        got = refl;
        place = position-cons {X = TypedFunction} (λ f. bytes_eq f.name y.1.name)
            (typed (function_at y.1 line close_line body)) (map typed trees) ∙
            ap (λ b. cond b (Some 0) (option_map suc (position {X = TypedFunction}
            (λ f. bytes_eq f.name y.1.name) (map typed trees)))) (bytes_eq_self y.1.name);
        does_rows = b;
      })
  next_stands e y others line close_line body trees b distinct (inr there) found =
      let s : Stands e trees = found there in record {
        at = suc s.at;
        line = s.line;
        close_line = s.close_line;
        body = s.body;
        got = s.got;
        place = position-cons {X = TypedFunction} (λ f. bytes_eq f.name e.1.name)
            (typed (function_at y.1 line close_line body)) (map typed trees) ∙
            ap₂ (λ b o. cond b (Some 0) (option_map suc o)) (other_name e y others distinct there) s.place;
        does_rows = s.does_rows;
      }

  stands : (e : Entry × Proto) (all : List (Entry × Proto)) (trees : List FunctionTree) →
      AreFunctions interfaces rows all trees → are_distinct (entry_names all) ≡ true → IsAmong e all → Stands e trees
  stands e all trees no_functions distinct there = none_among e there
  stands e all trees (and_function entry f others more line close_line body b h) distinct there =
      next_stands e (entry, f) others line close_line body more b distinct
      (is_first_or_later e (entry, f) others there)
      (stands e others more h (rest_distinct f.name (entry_names others) distinct))

-- Imports that lead as they should.

abbrev Leads : List SectionTree → (number : ℕ) → Interfaces → Import × Proto → Type 0
Leads sections number interfaces u = (line : ℕ) → import_of sections number (import_at interfaces u line) ≡ u.0

use_leads : (sections : List SectionTree) (number : ℕ) (interfaces : Interfaces) (import : Import)
    (o : Option Proto) (rest : List (Import × Proto)) → imported interfaces import ≡ o →
    IsImportedAs sections number interfaces import → AllByRecursion (Leads sections number interfaces) rest →
    AllByRecursion (Leads sections number interfaces) (use_of import o rest)
use_leads sections number interfaces import None rest at h more = more
use_leads sections number interfaces import (Some f) rest at h more = (h.leads f at, more)

uses_lead : (sections : List SectionTree) (number : ℕ) (interfaces : Interfaces) (all : List Import) →
    AllByRecursion (IsImportedAs sections number interfaces) all →
    AllByRecursion (Leads sections number interfaces) (uses interfaces all)
uses_lead sections number interfaces [] h = tt
uses_lead sections number interfaces (import ∷ all) h =
    use_leads sections number interfaces import (imported interfaces import) (uses interfaces all) refl h.0
    (uses_lead sections number interfaces all h.1)

one_leads : (sections : List SectionTree) (number : ℕ) (interfaces : Interfaces) (u : Import × Proto)
    (used : List (Import × Proto)) → AllByRecursion (Leads sections number interfaces) used → IsAmong u used →
    Leads sections number interfaces u
one_leads sections number interfaces u used h (first xs) = h.0
one_leads sections number interfaces u used h (later y xs there) = one_leads sections number interfaces u xs h.1 there

module _ (interfaces : Interfaces) (comp : ℕ) (rows : List Row) (interface : Interface)
    (is : IsPerformer interfaces comp rows interface) (section : SectionTree)
    (t : IsBackTree interfaces comp rows interface section) (sections : List SectionTree) (number : ℕ)
    (lead : AllByRecursion (Leads sections number interfaces) (uses interfaces interface.imports)) where
  abbrev callees : Callees
  callees = callees_of sections number section

  has_targets : HasTargets callees (uses interfaces interface.imports)
  has_targets u there =
      targets interfaces comp rows interface is section t sections number u there
      (one_leads sections number interfaces u (uses interfaces interface.imports) lead there)

  typed_performs : (entry : Entry) (f : Proto) (line close_line : ℕ) (body : List StmtTree) →
      IsBackBody interfaces f.result (filter (is_of entry) rows) body → proto_of interfaces comp entry ≡ Some f →
      IsUsable f → IsPerforming interfaces entry f.result rows
      (typed_function section callees (function_at f line close_line body)).body
  typed_performs entry f line close_line body b named usable =
      let absent = no_counter f.params usable.few in
      let fits = rows_fit interfaces comp rows interface is entry f named in
      subst (IsPerforming interfaces entry f.result rows)
      (sym (body_is interfaces comp rows interface is section t callees f line close_line body absent))
      (performing callees interfaces comp rows interface is has_targets entry f.result rows _
      (typed_body (typed_params 0 f.params) absent callees interfaces comp rows interface is
      (signatures interfaces comp rows interface is section t sections number) f.result
      (filter (is_of entry) rows) body b fits) fits)

  entry_performs : (entry : Entry) (f : Proto) → proto_of interfaces comp entry ≡ Some f →
      Performs interfaces entry f rows (typed_section section callees)
  entry_performs entry f named =
      let there = entry_among interfaces comp rows interface is entry f named in
      let all = entries interfaces comp rows interface is in
      let s : Stands interfaces rows section callees (entry, f) t.functions =
      stands interfaces rows section callees (entry, f) all t.functions t.are_functions
      (prefix_distinct (entry_names all) _ (distinct_names interfaces comp rows interface is)) there in
      let listed : map (typed_function section callees) t.functions ≡ (typed_section section callees).functions =
      ap (map (typed_function section callees)) (sym (functions_are interfaces comp rows interface is section t)) in
      record {
        number = s.at;
        function = typed_function section callees (function_at f s.line s.close_line s.body);
        named = subst (λ x. position {X = TypedFunction} (λ g. bytes_eq g.name f.name) x ≡ Some s.at) listed s.place;
        is = subst (λ x. slice_get x s.at ≡ Some (typed_function section callees
            (function_at f s.line s.close_line s.body))) listed s.got;
        locals = no_locals interfaces comp rows interface is section t callees f s.line s.close_line s.body;
        body = typed_performs entry f s.line s.close_line s.body s.does_rows named
            (entry_holds (entry, f) all (entries_usable interfaces comp rows interface is) there);
      }

  replaced : PerformsRows interfaces comp rows (typed_section section callees)
  replaced = record {
    counter = typed_global [] (counter_at t.counter_line);
    globals = λ i. map (typed_global (no_tags interfaces comp rows interface is section t i))
        (one_global interfaces comp rows interface is section t i);
    counts = record { word = refl; zero = refl };
    functions = entry_performs;
  }

pub rows_perform : RowsPerform
rows_perform interfaces comp rows interface section is same sections number lead =
    replaced interfaces comp rows interface is section
    (back_tree_is interfaces comp rows interface section same) sections number
    (uses_lead sections number interfaces interface.imports
    (recursion_from_All (IsImportedAs sections number interfaces) interface.imports lead))
