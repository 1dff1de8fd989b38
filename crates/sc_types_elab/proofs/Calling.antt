-- Tables of names give what the names of calls stand for.
use Rattle.sc_types_elab.proofs.Common.{Bool, Callees, CallsIn, FunctionTree, HeadTree, Import, ImportLine, List, None}
use Rattle.sc_types_elab.proofs.Common.{Option, SectionTree, Some, [], ap, arith, bytes_eq, called, called_head}
use Rattle.sc_types_elab.proofs.Common.{callees_of, calling_heads, function_named, function_names, head_name}
use Rattle.sc_types_elab.proofs.Common.{head_named, head_of, if◌then◌else◌, import_line_name, import_named, import_of}
use Rattle.sc_types_elab.proofs.Common.{import_target, imported, imported_target, map, map_twice, option_and_then}
use Rattle.sc_types_elab.proofs.Common.{option_map, or_first, or_first_own, position-cons, refl, signature_by}
use Rattle.sc_types_elab.proofs.Common.{slice_get, struct_names, suc, sym, target_or, ℕ, ◌++◌, ◌==◌, ◌∙◌, ◌∷◌, ◌≡◌}
use Rattle.sc_base.specs.Prelude.{number_by_name}
use Rattle.std.proofs.lemmas.Cmp.{nat_list_eq_equiv}
use Rattle.std.specs.Cmp.Lexicographic.{pointwise}

abbrev same : List ℕ → List ℕ → Bool
same = pointwise ◌==◌

after_suc : {A : Type 0} (x : A) (xs : List A) (o : Option ℕ) →
    option_and_then (slice_get (x ∷ xs)) (option_map suc o) ≡ option_and_then (slice_get xs) o
after_suc x xs None = refl
after_suc x xs (Some n) = refl

module _ {A : Type 0} (name_of : A → List ℕ) (name : List ℕ) (find : List A → Option A) (find-nil : find [] ≡ None)
    (find-cons : (x : A) (xs : List A) → find (x ∷ xs) ≡
    (if bytes_eq (name_of x) name then Some x else find xs)) {B : Type 0} (f : A → B) where
  -- what is made of the first item of a name stands at the name's first place
  pub first_found : (xs : List A) → option_and_then (slice_get (map f xs)) (number_by_name (map name_of xs) name) ≡
      option_map f (find xs)
  first_found [] = ap (option_map f) (sym find-nil)
  first_found (x ∷ xs) = grind (
    arith,
    position-cons (same name) (name_of x) (map name_of xs),
    nat_list_eq_equiv.symm name (name_of x),
    after_suc (f x) (map f xs) (number_by_name (map name_of xs) name),
    find-cons x xs,
    first_found xs,
  )

module _ (name : List ℕ) where
  -- the first of the heads of functions and of others
  head_found : (trees : List FunctionTree) (heads : List HeadTree) →
      head_named name (map (λ (tree : FunctionTree). head_of tree.head) trees ++ heads) ≡
      or_first (function_named name trees) (head_named name heads)
  head_found [] heads = refl
  head_found (tree ∷ trees) heads = grind (arith, head_found trees heads)

  signature_found : (tags : List (List ℕ)) (section : SectionTree) →
      option_and_then (slice_get (map (signature_by tags) (calling_heads section.decls))) (number_by_name (map head_name
      (calling_heads section.decls)) name) ≡ option_map (signature_by tags) (called_head section name)
  signature_found tags section =
      first_found _ name (head_named name) refl (λ x xs. refl) _ _ ∙ ap (option_map _) (head_found _ _)

  target_found : (sections : List SectionTree) (number : ℕ) (lines : List ImportLine) →
      or_first_own (option_and_then (slice_get (map (λ line. import_target (import_of sections number line)) lines))
      (number_by_name (map import_line_name lines) name)) ≡ imported_target sections number (import_named name lines)
  target_found sections number lines = ap or_first_own
      (first_found _ name (import_named name) refl (λ x xs. refl) _ lines) ∙ by (import_named name lines) where
        by : (o : Option ImportLine) → or_first_own (option_map
            (λ line. import_target (import_of sections number line)) o) ≡ imported_target sections number o
        by None = refl
        by _ = refl

module _ (section : SectionTree) (imports : List Import) (callees : Callees)
    (calls : CallsIn (struct_names section.decls) section imports callees) where
  signature_is : (name : List ℕ) → option_and_then (slice_get callees.signatures) (number_by_name callees.heads name) ≡
      option_map (signature_by (struct_names section.decls)) (called_head section name)
  signature_is name =
      cc (calls.signatures, calls.heads, signature_found name (struct_names section.decls) section)

  pub signatures_kept : (called callees).signature ≡ (callees_of [] 0 section).signature
  signatures_kept = λ j name. signature_is name j

module _ (sections : List SectionTree) (number : ℕ) (section : SectionTree) (imports : List Import) (callees : Callees)
    (calls : CallsIn (struct_names section.decls) section imports callees)
    (are : imports ≡ map (import_of sections number) section.imports) where
  targets_are : callees.targets ≡ map (λ line. import_target (import_of sections number line)) section.imports
  targets_are = calls.targets ∙ ap (map _) are ∙ map_twice import_target (import_of _ number) _

  target_is : (name : List ℕ) → target_or (number_by_name callees.functions name) (or_first_own (imported callees name))
      ≡
      target_or (number_by_name (function_names section.decls) name)
      (imported_target sections number (import_named name section.imports))
  target_is name =
      cc (calls.functions, targets_are, calls.imports, target_found name sections number section.imports)

  -- What a section calls by its tables is what its program calls.
  pub called_kept : called callees ≡ callees_of sections number section
  called_kept = λ j. record {
    signature = λ name. signature_is section imports callees calls name j;
    target = λ name. target_is name j;
  }
