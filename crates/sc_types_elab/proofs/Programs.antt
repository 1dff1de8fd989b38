-- Sections and their interfaces, one after another.
use Rattle.sc_types_elab.proofs.Common.{IsSome, List, SectionTree, Some, [], add-one, ap, append_assoc, arith}
use Rattle.sc_types_elab.proofs.Common.{callees_of, drop, drop-step, get_or, get_or_from_slice_get, import_of}
use Rattle.sc_types_elab.proofs.Common.{interface_of, interfaces_from, interfaces_of, length, map, option_map, refl}
use Rattle.sc_types_elab.proofs.Common.{same_Some, sections_from, slice_get, slice_get-get_or, slice_get_within, suc}
use Rattle.sc_types_elab.proofs.Common.{sym, typed_section, zero, ℕ, ◌++◌, ◌+◌, ◌<◌, ◌∙◌, ◌∷◌, ◌≡◌}
use Rattle.sc_core.specs.declared.section.TypedSection.{TypedSection}
use Rattle.sc_event.specs.declared.interface.Interface.{Interface}
use Rattle.sc_event.specs.declared.interface.Interfaces.{Interfaces}

-- what stands at a place, and at the start of what is left from there on
pub stands : {A : Type 0} (xs : List A) (i : ℕ) (x : A) → i < length xs → x ≡ get_or xs i x → slice_get xs i ≡ Some x
stands xs i x low is = slice_get-get_or xs i x low ∙ ap Some (sym is)

pub at_head : {A : Type 0} (xs : List A) (i : ℕ) (x : A) → slice_get (drop i xs) 0 ≡ Some x → slice_get xs i ≡ Some x
at_head [] zero x h = h
at_head [] (suc i) x h = h
at_head (y ∷ xs) zero x h = h
at_head (y ∷ xs) (suc i) x h = at_head xs i x h

pub left_from : {A : Type 0} (xs : List A) (i : ℕ) (x : A) → slice_get xs i ≡ Some x → drop i xs ≡ x ∷ drop (i + 1) xs
left_from xs i x h = drop-step xs i x (slice_get_within xs i x h) (sym (get_or_from_slice_get xs i x x h))

module _ (sections : List SectionTree) where
  comps_from : (rest : List SectionTree) (k i : ℕ) → slice_get (interfaces_from sections k rest) i ≡
      option_map (interface_of sections (k + i)) (slice_get rest i)
  comps_from [] k i = refl
  comps_from (section ∷ rest) k zero = ap (λ n. Some (interface_of sections n section)) (omega arith)
  comps_from (section ∷ rest) k (suc i) =
      comps_from rest _ i ∙ ap (λ n. option_map (interface_of sections n) (slice_get rest i)) (omega arith)

  -- the interface of a section, by its number
  pub comp_at : (i : ℕ) (section : SectionTree) → slice_get sections i ≡ Some section →
      slice_get (interfaces_from sections 0 sections) i ≡ Some (interface_of sections i section)
  comp_at i section h = comps_from _ 0 i ∙ ap (λ n. option_map (interface_of sections n) (slice_get sections i))
      (omega arith) ∙ ap (option_map (interface_of _ i)) h

  module _ (interfaces : Interfaces) (i : ℕ) (section : SectionTree) (are : interfaces ≡ interfaces_of sections)
      (h : slice_get sections i ≡ Some section) where
    stands_at : slice_get interfaces.comps i ≡ Some (interface_of sections i section)
    stands_at = ap (λ x. slice_get x.comps i) are ∙ comp_at i section h

    -- what a section imports, by its number
    pub imports_at : (interface : Interface) → slice_get interfaces.comps i ≡ Some interface →
        interface.imports ≡ map (import_of sections i) section.imports
    imports_at interface at = ap (λ x. x.imports) (same_Some _ _ (sym at ∙ stands_at))

    -- a section has an interface, by its number
    pub is_there : IsSome (slice_get interfaces.comps i)
    is_there = rw stands_at refl

  -- one more section is built
  pub built_more : (built : List TypedSection) (i : ℕ) (section : SectionTree) (it : TypedSection) →
      slice_get sections i ≡ Some section → it ≡ typed_section section (callees_of sections i section) →
      built ++ sections_from sections i (drop i sections) ≡ sections_from sections 0 sections →
      (built ++ it ∷ []) ++ sections_from sections (i + 1) (drop (i + 1) sections) ≡ sections_from sections 0 sections
  built_more built i section it at is before =
      cc (
        append_assoc built (it ∷ []) (sections_from sections (i + 1) (drop (i + 1) sections)),
        add-one i,
        left_from sections i section at,
      )
