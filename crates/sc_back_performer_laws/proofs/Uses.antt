-- What the premises say of a section's functions, of what it imports and of its rows.
use Rattle.sc_back_performer_laws.proofs.Common.{Action, AllByRecursion, Bool, Decides-eqb, Entry, Export, FitsRow}
use Rattle.sc_back_performer_laws.proofs.Common.{Import, Interface, Interfaces, IsPerformer, IsWord, List, Main, MayDo}
use Rattle.sc_back_performer_laws.proofs.Common.{None, Option, Proto, Row, Scalar, Some, [], and_first, and_rest, ap}
use Rattle.sc_back_performer_laws.proofs.Common.{append_assoc, ap₂, arith, cons_option, defined, export_at, false}
use Rattle.sc_back_performer_laws.proofs.Common.{false≢true, filter, filter_map, get_after, if◌then◌else◌, imported}
use Rattle.sc_back_performer_laws.proofs.Common.{imports, inl, inr, is_function, is_of, length, length-append, list_any}
use Rattle.sc_back_performer_laws.proofs.Common.{main_proto, map, map-append, option_and_then, option_map_or, proto_of}
use Rattle.sc_back_performer_laws.proofs.Common.{recursion_from_All, refl, slice_get, subst, suc, sym, true, used, ℕ}
use Rattle.sc_back_performer_laws.proofs.Common.{◌++◌, ◌==◌, ◌||◌, ◌∙◌, ◌∷◌, ◌≡◌, ◌⊎◌}
use Rattle.sc_event.specs.Prelude.{is_input, is_output}
use Rattle.sc_event.specs.declared.interface.Import.TheVariants.{Function, Input, Output}
use Rattle.sc_back_performer_laws.proofs.BackTree.{entries_from, entries_of, main_entries, use_of, uses}

-- x is one of these
pub data IsAmong {A : Type 0} (x : A) : List A → Type 0 where
  first : (xs : List A) → IsAmong x (x ∷ xs)
  later : (y : A) (xs : List A) → IsAmong x xs → IsAmong x (y ∷ xs)

abbrev IsFirstOrLater : {A : Type 0} → A → List A → Type 0
IsFirstOrLater x [] = ⊥
IsFirstOrLater x (y ∷ ys) = (x ≡ y) ⊎ IsAmong x ys

among_cases : {A : Type 0} (x : A) (all : List A) → IsAmong x all → IsFirstOrLater x all
among_cases x all (first xs) = inl refl
among_cases x all (later y xs h) = inr h

pub none_among : {A B : Type 0} (x : A) → IsAmong x [] → B
none_among x h = absurd (among_cases x [] h)

pub is_first_or_later : {A : Type 0} (x y : A) (ys : List A) → IsAmong x (y ∷ ys) → (x ≡ y) ⊎ IsAmong x ys
is_first_or_later x y ys h = among_cases x (y ∷ ys) h

-- What is imported.

later_use : (u : Import × Proto) (import : Import) (o : Option Proto) (rest : List (Import × Proto)) →
    IsAmong u rest → IsAmong u (use_of import o rest)
later_use u import None rest h = h
later_use u import (Some f) rest h = later (import, f) rest h

-- an import that passes a test that only it passes is among the uses
find_use : (interfaces : Interfaces) (is_it : Import → Bool) (import : Import) (f : Proto) →
    ((other : Import) → is_it other ≡ true → other ≡ import) → imported interfaces import ≡ Some f →
    (all : List Import) → list_any is_it all ≡ true → IsAmong (import, f) (uses interfaces all)
find_use interfaces is_it import f only names [] h = absurd (false≢true h)
find_use interfaces is_it import f only names (other ∷ all) h =
    by (is_it other) refl h (find_use interfaces is_it import f only names all) where
      by : (b : Bool) → is_it other ≡ b → (b || list_any is_it all) ≡ true →
          (list_any is_it all ≡ true → IsAmong (import, f) (uses interfaces all)) →
          IsAmong (import, f) (use_of other (imported interfaces other) (uses interfaces all))
      by true here h rest =
          subst (λ i. IsAmong (import, f) (use_of i (imported interfaces i) (uses interfaces all)))
          (sym (only other here))
          (subst (λ o. IsAmong (import, f) (use_of import o (uses interfaces all))) (sym names)
          (first (uses interfaces all)))
      by false elsewhere h rest = later_use (import, f) other (imported interfaces other) (uses interfaces all) (rest h)

only_input : (other : Import) → is_input other ≡ true → other ≡ Input
only_input Input h = refl
only_input Output h = absurd (false≢true h)
only_input (Function owner place) h = absurd (false≢true h)

only_output : (other : Import) → is_output other ≡ true → other ≡ Output
only_output Input h = absurd (false≢true h)
only_output Output h = refl
only_output (Function owner place) h = absurd (false≢true h)

only_function : (comp index : ℕ) (other : Import) → is_function comp index other ≡ true → other ≡ Function comp index
only_function comp index Input h = absurd (false≢true h)
only_function comp index Output h = absurd (false≢true h)
only_function comp index (Function owner place) h =
    ap₂ Function ((Decides-eqb owner comp).0 (and_first (owner == comp) (place == index) h))
    ((Decides-eqb place index).0 (and_rest (owner == comp) (place == index) h))

one_used : (import : Import) (o : Option Proto) (rest : List (Import × Proto)) →
    cons_option o (map (λ u. u.1) rest) ≡ map (λ u. u.1) (use_of import o rest)
one_used import None rest = refl
one_used import (Some f) rest = refl

used_by : (interfaces : Interfaces) (all : List Import) →
    filter_map (imported interfaces) all ≡ map (λ u. u.1) (uses interfaces all)
used_by interfaces [] = refl
used_by interfaces (import ∷ all) =
    ap (cons_option (imported interfaces import)) (used_by interfaces all) ∙
    one_used import (imported interfaces import) (uses interfaces all)

-- The functions of entries.

abbrev pub AreEntries : Interfaces → (comp : ℕ) → List (Entry × Proto) → Type 0
AreEntries interfaces comp entries = AllByRecursion (λ e. proto_of interfaces comp e.0 ≡ Some e.1) entries

abbrev pub protos_of : List (Entry × Proto) → List Proto
protos_of entries = map (λ e. e.1) entries

exports_protos : (index : ℕ) (exports : List Proto) → protos_of (entries_from index exports) ≡ exports
exports_protos index [] = refl
exports_protos index (f ∷ exports) = ap (λ x. f ∷ x) (exports_protos (suc index) exports)

main_protos : (b : Bool) → protos_of (if b then (Main, main_proto) ∷ [] else []) ≡ (if b then main_proto ∷ [] else [])
main_protos true = refl
main_protos false = refl

pub entries_protos : (interfaces : Interfaces) (comp : ℕ) (interface : Interface) →
    protos_of (entries_of interfaces comp interface) ≡ defined interfaces comp interface
entries_protos interfaces comp interface =
    map-append (λ e. e.1) (entries_from 0 interface.exports) (main_entries interfaces comp) ∙
    ap₂ (λ a b. a ++ b) (exports_protos 0 interface.exports) (main_protos (comp == interfaces.main))

both_entries : (P : Entry × Proto → Type 0) (xs ys : List (Entry × Proto)) → AllByRecursion P xs →
    AllByRecursion P ys → AllByRecursion P (xs ++ ys)
both_entries P [] ys h k = k
both_entries P (x ∷ xs) ys h k = (h.0, both_entries P xs ys h.1 k)

module _ (interfaces : Interfaces) (comp : ℕ) (rows : List Row) (interface : Interface)
    (is : IsPerformer interfaces comp rows interface) where
  exports_from : (prefix exports : List Proto) (index : ℕ) → interface.exports ≡ prefix ++ exports →
      index ≡ length prefix → AreEntries interfaces comp (entries_from index exports)
  exports_from prefix [] index all at = tt
  exports_from prefix (f ∷ exports) index all at = (
    ap (option_and_then (λ found. slice_get found.exports index)) is.there ∙
        ap₂ slice_get all at ∙ get_after prefix f exports,
    exports_from (prefix ++ f ∷ []) exports (suc index) (all ∙ sym (append_assoc prefix (f ∷ []) exports))
        (let one = length-append prefix (f ∷ []) in omega (arith, at, one)),
  )

  main_from : (b : Bool) → (comp == interfaces.main) ≡ b →
      AreEntries interfaces comp (if b then (Main, main_proto) ∷ [] else [])
  main_from true h = (ap (λ b. if b then Some main_proto else None) h, tt)
  main_from false h = tt

  pub are_entries : AreEntries interfaces comp (entries_of interfaces comp interface)
  are_entries =
      both_entries (λ e. proto_of interfaces comp e.0 ≡ Some e.1) (entries_from 0 interface.exports)
      (main_entries interfaces comp) (exports_from [] interface.exports 0 refl refl)
      (main_from (comp == interfaces.main) refl)

  pub used_protos : used interfaces interface ≡ map (λ u. u.1) (uses interfaces interface.imports)
  used_protos = used_by interfaces interface.imports

  -- what rows may call

  listed : (is_it : Import → Bool) → imports interfaces comp is_it ≡ true → list_any is_it interface.imports ≡ true
  listed is_it h = subst (λ o. list_any is_it (option_map_or (λ found. found.imports) o []) ≡ true) is.there h

  pub calls_use : (to index : ℕ) (f : Proto) → imports interfaces comp (is_function to index) ≡ true →
      export_at interfaces to index ≡ Some f → IsAmong (Function to index, f) (uses interfaces interface.imports)
  calls_use to index f h at = find_use interfaces (is_function to index) (Function to index) f
      (only_function to index) at interface.imports (listed (is_function to index) h)

  pub output_use : (f : Proto) → imported interfaces Output ≡ Some f → imports interfaces comp is_output ≡ true →
      IsAmong (Output, f) (uses interfaces interface.imports)
  output_use f at h = find_use interfaces is_output Output f only_output at interface.imports (listed is_output h)

  pub input_use : (f : Proto) → imported interfaces Input ≡ Some f → imports interfaces comp is_input ≡ true →
      IsAmong (Input, f) (uses interfaces interface.imports)
  input_use f at h = find_use interfaces is_input Input f only_input at interface.imports (listed is_input h)

-- Rows.

pub record Fits (interfaces : Interfaces) (comp : ℕ) (result : Option Scalar) (row : Row) : Type 0 where
  pub numbered : IsWord (suc row.number)
  pub may : MayDo interfaces comp result row.action

abbrev pub AllFit : Interfaces → (comp : ℕ) → Option Scalar → List Row → Type 0
AllFit interfaces comp result rows = AllByRecursion (Fits interfaces comp result) rows

same_entry : (entry other : Entry) (number : ℕ) (action : Action) →
    is_of entry (record { entry = other; number = number; action = action }) ≡ true → other ≡ entry
same_entry Main Main number action h = refl
same_entry Main (Export index) number action h = absurd (false≢true h)
same_entry (Export index) Main number action h = absurd (false≢true h)
same_entry (Export index) (Export other) number action h = ap Export (sym ((Decides-eqb index other).0 h))

pub entry_is : (entry : Entry) (row : Row) → is_of entry row ≡ true → row.entry ≡ entry
entry_is entry row h = same_entry entry row.entry row.number row.action h

rows_fit_by : (interfaces : Interfaces) (comp : ℕ) (entry : Entry) (f : Proto) →
    proto_of interfaces comp entry ≡ Some f → (rows : List Row) → AllByRecursion (FitsRow interfaces comp) rows →
    AllFit interfaces comp f.result (filter (is_of entry) rows)
rows_fit_by interfaces comp entry f named [] h = tt
rows_fit_by interfaces comp entry f named (row ∷ rows) h =
    by (is_of entry row) refl (rows_fit_by interfaces comp entry f named rows h.1) where
      by : (b : Bool) → is_of entry row ≡ b → AllFit interfaces comp f.result (filter (is_of entry) rows) →
          AllFit interfaces comp f.result (if b then row ∷ filter (is_of entry) rows else filter (is_of entry) rows)
      by true here rest =
          let named_here : proto_of interfaces comp row.entry ≡ Some f =
          ap (proto_of interfaces comp) (entry_is entry row here) ∙ named in
          (record { numbered = h.0.numbered; may = h.0.may f named_here }, rest)
      by false elsewhere rest = rest

pub rows_fit : (interfaces : Interfaces) (comp : ℕ) (rows : List Row) (interface : Interface) →
    IsPerformer interfaces comp rows interface → (entry : Entry) (f : Proto) →
    proto_of interfaces comp entry ≡ Some f → AllFit interfaces comp f.result (filter (is_of entry) rows)
rows_fit interfaces comp rows interface is entry f named =
    rows_fit_by interfaces comp entry f named rows (recursion_from_All (FitsRow interfaces comp) rows is.rows_fit)
