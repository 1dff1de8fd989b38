-- The names of a performing section: they are distinct, and none is one of its own variables.
use Rattle.sc_back_performer_laws.proofs.Common.{AllByRecursion, Entry, FunctionTree, HeadTree, Import, ImportLine}
use Rattle.sc_back_performer_laws.proofs.Common.{Interface, Interfaces, IsPerformer, IsUsable, List, Proto, Row}
use Rattle.sc_back_performer_laws.proofs.Common.{SectionTree, Text, [], all_of, among, ap, ap₂, are_distinct, bytes_eq}
use Rattle.sc_back_performer_laws.proofs.Common.{bytes_eq_self, function_names, import_names, map, map-append}
use Rattle.sc_back_performer_laws.proofs.Common.{map_twice, names_of, or_left, or_right, recursion_from_All, refl}
use Rattle.sc_back_performer_laws.proofs.Common.{subst, sym, true, used, ℕ, ◌++◌, ◌∙◌, ◌∷◌, ◌≡◌}
use Rattle.sc_back_performer_laws.proofs.BackTree.{AreFunctions, AreHeads, AreImports, IsBackTree, and_function}
use Rattle.sc_back_performer_laws.proofs.BackTree.{and_head, and_import, counter_at, entries_of, no_functions, no_heads}
use Rattle.sc_back_performer_laws.proofs.BackTree.{no_imports, uses}
use Rattle.sc_back_performer_laws.proofs.Declared.{all_functions}
use Rattle.sc_back_performer_laws.proofs.Uses.{IsAmong, entries_protos, first, later, protos_of, used_protos}

abbrev pub use_names : List (Import × Proto) → List Text
use_names used = map (λ u. u.1.name) used

abbrev pub entry_names : List (Entry × Proto) → List Text
entry_names entries = map (λ e. e.1.name) entries

abbrev pub tree_names : List FunctionTree → List Text
tree_names trees = map {A = FunctionTree} (λ tree. tree.head.name) trees

pub names_imported : (interfaces : Interfaces) (used : List (Import × Proto)) (lines : List ImportLine) →
    AreImports interfaces used lines → map {A = ImportLine} (λ line. line.name) lines ≡ use_names used
names_imported interfaces used lines no_imports = refl
names_imported interfaces used lines (and_import u others more line rest) =
    ap (λ x. u.1.name ∷ x) (names_imported interfaces others more rest)

pub names_declared : (used : List (Import × Proto)) (heads : List HeadTree) → AreHeads used heads →
    map {A = HeadTree} (λ head. head.name) heads ≡ use_names used
names_declared used heads no_heads = refl
names_declared used heads (and_head u others more line rest) =
    ap (λ x. u.1.name ∷ x) (names_declared others more rest)

pub names_defined : (interfaces : Interfaces) (rows : List Row) (entries : List (Entry × Proto))
    (trees : List FunctionTree) → AreFunctions interfaces rows entries trees →
    tree_names trees ≡ entry_names entries
names_defined interfaces rows entries trees no_functions = refl
names_defined interfaces rows entries trees (and_function entry f others more line close body is rest) =
    ap (λ x. f.name ∷ x) (names_defined interfaces rows others more rest)

-- a name that is used is one of the names
pub use_named : (u : Import × Proto) (used : List (Import × Proto)) → IsAmong u used →
    among (use_names used) u.1.name ≡ true
use_named u used (first xs) =
    or_left (bytes_eq u.1.name u.1.name) (among (use_names xs) u.1.name) (bytes_eq_self u.1.name)
use_named u used (later y xs rest) =
    or_right (bytes_eq u.1.name y.1.name) (among (use_names xs) u.1.name) (use_named u xs rest)

-- what holds of all functions holds of those that are used
pub use_holds : (P : Proto → Type 0) (u : Import × Proto) (used : List (Import × Proto)) →
    AllByRecursion (λ v. P v.1) used → IsAmong u used → P u.1
use_holds P u used h (first xs) = h.0
use_holds P u used h (later y xs rest) = use_holds P u xs h.1 rest

all_prefix : (P : Proto → Type 0) (xs ys : List Proto) → AllByRecursion P (xs ++ ys) → AllByRecursion P xs
all_prefix P [] ys h = tt
all_prefix P (x ∷ xs) ys h = (h.0, all_prefix P xs ys h.1)

all_back : (P : Proto → Type 0) (xs ys : List Proto) → AllByRecursion P (xs ++ ys) → AllByRecursion P ys
all_back P [] ys h = h
all_back P (x ∷ xs) ys h = all_back P xs ys h.1

all_along : {A : Type 0} (P : Proto → Type 0) (f : A → Proto) (xs : List A) → AllByRecursion P (map f xs) →
    AllByRecursion (λ x. P (f x)) xs
all_along P f [] h = tt
all_along P f (x ∷ xs) h = (h.0, all_along P f xs h.1)

module _ (interfaces : Interfaces) (comp : ℕ) (rows : List Row) (interface : Interface)
    (is : IsPerformer interfaces comp rows interface) where
  abbrev pub entries : List (Entry × Proto)
  entries = entries_of interfaces comp interface

  abbrev pub imported_uses : List (Import × Proto)
  imported_uses = uses interfaces interface.imports

  all_protos : all_of interfaces comp interface ≡ protos_of entries ++ map (λ u. u.1) imported_uses
  all_protos =
      ap₂ (λ a b. a ++ b) (sym (entries_protos interfaces comp interface))
      (used_protos interfaces comp rows interface is)

  all_usable : AllByRecursion IsUsable (protos_of entries ++ map (λ u. u.1) imported_uses)
  all_usable = subst (AllByRecursion IsUsable) all_protos (recursion_from_All IsUsable _ is.usable)

  pub entries_usable : AllByRecursion (λ e. IsUsable e.1) entries
  entries_usable =
      all_along IsUsable (λ e. e.1) entries
      (all_prefix IsUsable (protos_of entries) (map (λ u. u.1) imported_uses) all_usable)

  pub uses_usable : AllByRecursion (λ u. IsUsable u.1) imported_uses
  uses_usable =
      all_along IsUsable (λ u. u.1) imported_uses
      (all_back IsUsable (protos_of entries) (map (λ u. u.1) imported_uses) all_usable)

  all_names : names_of (all_of interfaces comp interface) ≡ entry_names entries ++ use_names imported_uses
  all_names =
      ap names_of all_protos ∙
      map-append {A = Proto} (λ proto. proto.name) (protos_of entries) (map (λ u. u.1) imported_uses) ∙
      ap₂ (λ a b. a ++ b) (map_twice {B = Proto} (λ proto. proto.name) (λ e. e.1) entries)
      (map_twice {B = Proto} (λ proto. proto.name) (λ u. u.1) imported_uses)

  pub distinct_names : are_distinct (entry_names entries ++ use_names imported_uses) ≡ true
  distinct_names = subst (λ names. are_distinct names ≡ true) all_names is.distinct

  module _ (section : SectionTree) (t : IsBackTree interfaces comp rows interface section) where
    pub imports_named : import_names section ≡ use_names imported_uses
    imports_named = names_imported interfaces imported_uses section.imports t.imports

    pub functions_named : function_names section.decls ≡ entry_names entries
    functions_named =
        ap function_names t.decls ∙
        ap tree_names (all_functions t.heads (counter_at t.counter_line) t.functions) ∙
        names_defined interfaces rows entries t.functions t.are_functions
