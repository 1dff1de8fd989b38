-- Imports of a compartment as parts of its image: exports of others, each once, and what they let it call.
use Rattle.sc_linker.proofs.Common.{All, All-cons, All-nil, Bool, CodeTree, CompPart, Import, ImportPart, Interface}
use Rattle.sc_linker.proofs.Common.{Interfaces, IsDistinct, IsImport, IsSomeAnd, List, None, Option, ProgramTree, Proto}
use Rattle.sc_linker.proofs.Common.{Some, [], and_first, and_rest, ap, are_distinct, arith, bytes_eq, bytes_eq_self}
use Rattle.sc_linker.proofs.Common.{comp_at, export_at, false, false≢true, flat_map, import_fits, import_name}
use Rattle.sc_linker.proofs.Common.{import_part, is_some, length, linked_image, list_all, list_any, map, not, not-true}
use Rattle.sc_linker.proofs.Common.{or_parts, refl, slice_get, slice_get_within, subst, sym, true, ℕ, ◌&&◌, ◌++◌, ◌<◌}
use Rattle.sc_linker.proofs.Common.{◌==◌, ◌||◌, ◌∙◌, ◌∷◌, ◌≡◌, ◌≢◌, ◌≤◌}
use Rattle.std.proofs.lemmas.List.Kept.{AllPairs-cons}
use Rattle.std.specs.Option.{option_and_then}
use Rattle.sc_event.specs.declared.interface.Import.TheVariants as import
use Rattle.sc_linker.proofs.Comps.{part_there}
use Rattle.sc_linker.proofs.Exports.{parts_length}

pub few_parts : (imports : List Import) → length (flat_map import_part imports) ≤ length imports
few_parts [] = omega arith
few_parts (import.Input ∷ imports) = omega (arith, few_parts imports)
few_parts (import.Output ∷ imports) = omega (arith, few_parts imports)
few_parts (import.Function comp index ∷ imports) = omega (arith, few_parts imports)

-- EACH ONCE
abbrev part : (comp index : ℕ) → ImportPart
part comp index = record { comp = comp; index = index }

module _ (interfaces : Interfaces) where
  abbrev own_name : (comp index : ℕ) → List ℕ
  own_name comp index = import_name interfaces (import.Function comp index)

  abbrev AreOther : (comp index : ℕ) → List ImportPart → Type 0
  AreOther comp index parts = All {X = ImportPart} (λ other. part comp index ≢ other) parts

  first_other : (comp index : ℕ) (i : Import) (parts : List ImportPart) (later : Bool) →
      (later ≡ false → AreOther comp index parts) →
      (bytes_eq (own_name comp index) (import_name interfaces i) || later) ≡ false →
      AreOther comp index (import_part i ++ parts)
  first_other comp index import.Input parts later none h = none (or_parts _ later h).1
  first_other comp index import.Output parts later none h = none (or_parts _ later h).1
  first_other comp index (import.Function to place) parts later none h =
      All-cons (λ (other : ImportPart). part comp index ≢ other) (part to place) parts (λ same.
      let one : comp ≡ to = ap (λ (p : ImportPart). p.comp) same in
      let two : index ≡ place = ap (λ (p : ImportPart). p.index) same in
      let self : bytes_eq (own_name comp index) (own_name to place) ≡ true =
      sym (λ k. bytes_eq (own_name comp index) (own_name (one k) (two k))) ∙ bytes_eq_self (own_name comp index) in
      false≢true (sym h ∙ ap (λ b. b || later) self))
      (none (or_parts _ later h).1)

  -- no later import has this name, so none is this one
  none_same : (comp index : ℕ) (imports : List Import) (others : List (List ℕ)) →
      list_any (bytes_eq (own_name comp index)) (map (import_name interfaces) imports ++ others) ≡ false →
      AreOther comp index (flat_map import_part imports)
  none_same comp index [] others h = All-nil (λ (other : ImportPart). part comp index ≢ other)
  none_same comp index (i ∷ imports) others h =
      first_other comp index i (flat_map import_part imports)
      (list_any (bytes_eq (own_name comp index)) (map (import_name interfaces) imports ++ others))
      (none_same comp index imports others) h

  pub each_once : (imports : List Import) (others : List (List ℕ)) →
      are_distinct (map (import_name interfaces) imports ++ others) ≡ true →
      IsDistinct (flat_map import_part imports)
  each_once [] others h = λ i j d before within. absurd (omega (arith, before, within))
  each_once (import.Input ∷ imports) others h = each_once imports others (and_rest _ _ h)
  each_once (import.Output ∷ imports) others h = each_once imports others (and_rest _ _ h)
  each_once (import.Function comp index ∷ imports) others h =
      AllPairs-cons (λ a b. a ≢ b) (part comp index) (flat_map import_part imports)
      (none_same comp index imports others (not-true _ (and_first _ _ h)))
      (each_once imports others (and_rest _ _ h))

-- OF OTHERS
module _ (program : ProgramTree) (codes : List CodeTree) (c : ℕ) where
  offered : (to index : ℕ) → is_some (export_at program.interfaces to index) ≡ true →
      IsSomeAnd (slice_get (linked_image program codes).comps to) (λ (comp : CompPart). index < length comp.exports)
  offered to index h = by (comp_at program.interfaces to) refl h where
    within : (protos : List Proto) → is_some (slice_get protos index) ≡ true → index < length protos
    within protos some = found (slice_get protos index) refl some where
      found : (o : Option Proto) → slice_get protos index ≡ o → is_some o ≡ true → index < length protos
      found None at some = absurd (false≢true some)
      found (Some proto) at some = slice_get_within protos index proto at

    by : (o : Option Interface) → comp_at program.interfaces to ≡ o →
        is_some (option_and_then (λ (found : Interface). slice_get found.exports index) o) ≡ true →
        IsSomeAnd (slice_get (linked_image program codes).comps to) (λ (comp : CompPart). index < length comp.exports)
    by None at some = absurd (false≢true some)
    by (Some interface) at some =
        let inside : index < length interface.exports = within interface.exports some in
        subst (λ o. IsSomeAnd o (λ (comp : CompPart). index < length comp.exports))
        (sym (part_there program codes to interface at))
        (omega (arith, inside, parts_length to 0 interface.exports))

  other_comp : (to : ℕ) → not (to == c) ≡ true → to ≢ c
  other_comp to h same = false≢true (sym (ap not (self to c same)) ∙ h) where
    self : (a b : ℕ) → a ≡ b → (a == b) ≡ true
    self a b e = grind (arith, e)

  pub of_others : (imports : List Import) → list_all (import_fits program.interfaces c) imports ≡ true →
      All (IsImport (linked_image program codes) c) (flat_map import_part imports)
  of_others [] h = All-nil (IsImport (linked_image program codes) c)
  of_others (import.Input ∷ imports) h = of_others imports h
  of_others (import.Output ∷ imports) h = of_others imports h
  of_others (import.Function to index ∷ imports) h =
      let own : (not (to == c) && is_some (export_at program.interfaces to index)) ≡ true =
      and_first (import_fits program.interfaces c (import.Function to index)) _ h in
      All-cons (IsImport (linked_image program codes) c) (part to index) (flat_map import_part imports)
      (record {
        other = other_comp to (and_first (not (to == c)) _ own);
        offered = offered to index (and_rest (not (to == c)) _ own);
      })
      (of_others imports (and_rest (import_fits program.interfaces c (import.Function to index)) _ h))
