-- Calls of other compartments: what an export that is found is, what an import leads to, and lists of callees.
use Rattle.sc_machine.proofs.Common.{All, AreCallees, Callee, CompPart, Goes, ImageParts, IsCallee, IsDistinct, IsEntry}
use Rattle.sc_machine.proofs.Common.{IsExport, IsWellFormed, List, Some, MachineState, [], ap, arith, on_call}
use Rattle.sc_machine.proofs.Common.{jump_outside, cases_lt}
use Rattle.sc_machine.proofs.Common.{comp_of_code, eq-eqb, eqb-true, entered_export, export_called, exported_by, get_or}
use Rattle.sc_machine.proofs.Common.{get_or-map, get_or_from_slice_get, length, length-map, map, may_call_export}
use Rattle.sc_machine.proofs.Common.{export_params}
use Rattle.sc_machine.proofs.Common.{position, ra, refl, slice_get, slice_get-get_or, slice_get_within, subst}
use Rattle.sc_machine.proofs.Common.{suc, sym, true, zero, ℕ, ⊎_elim, ◌++◌, ◌+◌, ◌<◌, ◌==◌, ◌∙◌, ◌∷◌, ◌≡◌, ◌≤◌}
use Rattle.sc_image.specs.declared.parts.ExportPart.{ExportPart}
use Rattle.sc_image.proofs.Words.{comp_found, in_code, no_export, some_is}
use Rattle.std.proofs.lemmas.List.Quantifiers.{position-Some}
use Rattle.sc_image.proofs.Enters.{few_params}
use Rattle.sc_base.proofs.Lists.{position_of_only}
use Rattle.sc_image.specs.Prelude.{ImportPart}

module _ (image : ImageParts) (state : MachineState) (target : ℕ) where
  linked : (rd : ℕ) → rd ≡ ra → jump_outside image state rd target ≡
      export_called image state (comp_of_code target) target (entered_export image (comp_of_code target) target)
  linked rd h = rw (eq-eqb rd ra h) refl

  called_by : (comp index params : ℕ) → comp ≡ comp_of_code target → entered_export image comp target ≡ Some index →
      params ≡ export_params image comp index → may_call_export image state.active comp index ≡ true →
      export_called image state (comp_of_code target) target (entered_export image (comp_of_code target) target) ≡ Goes
      (on_call state comp index params target)
  called_by comp index params to found takes may = rw (sym to, found, may, takes) refl

  pub call_made : (rd : ℕ) (callee : Callee) → rd ≡ ra → callee.entry ≡ target → IsCallee image state.active callee →
      jump_outside image state rd target ≡ Goes (on_call state callee.comp callee.index callee.params callee.entry)
  call_made rd callee links at h =
      linked rd links ∙ called_by _ _ callee.params (rw at at h.comp) (rw at at h.index) h.params h.may ∙
      ap (λ entry. Goes (on_call state callee.comp callee.index callee.params entry)) (sym at)

-- An export that is found is one of a compartment of the image.

module _ (image : ImageParts) (formed : IsWellFormed image) (c target i : ℕ)
    (at : entered_export image c target ≡ Some i) where
  exporter : (found : CompPart) × (slice_get image.comps c ≡ Some found) ×
      (position (λ export. export.entry == target) found.exports ≡ Some i)
  exporter = comp_found (λ comp. comp.exports) [] (λ exports. position (λ export. export.entry == target) exports ≡
      Some i) (λ none. cc none) _ at

  pub exporter_within : c < length image.comps
  exporter_within = slice_get_within _ c exporter.0 exporter.1

  pub export_within : i < length (exported_by image c)
  export_within = (position-Some _ _ i no_export at).0

  own_within : i < length exporter.0.exports
  own_within = (position-Some _ exporter.0.exports i no_export exporter.2).0

  pub export_few : i < 4096
  export_few = omega (arith, own_within, (formed.comps c exporter.0 exporter.1).few_exports)

  pub export_takes : (d : ExportPart) → (get_or (exported_by image c) i d).params ≡ export_params image c i
  export_takes d = sym (rw (slice_get-get_or (exported_by image c) i d export_within) refl)

  pub takes_few : export_params image c i ≤ 8
  takes_few = few_params image c i formed

-- What an import leads to is a function that may be called.

-- The first export at an entry is the one whose entry it is, since no two have the same.

-- no two exports have one entry
one_entry : (exports : List ExportPart) → IsDistinct (map (λ export. export.entry) exports) →
    (j k : ℕ) (d : ExportPart) → j < length exports → k < length exports →
    (get_or exports j d).entry ≡ (get_or exports k d).entry → j ≡ k
one_entry exports distinct j k d inside within same = ⊎_elim (λ before. absurd (apart j k before within same))
    (λ rest. ⊎_elim (λ after. absurd (apart k j after inside (sym same)))
    (λ other. let both : j ≡ k = omega (arith, rest, other) in both) (cases_lt k j)) (cases_lt j k)
  where
    at : (i : ℕ) → i < length exports → get_or (map (λ export. export.entry) exports) i d.entry ≡
        (get_or exports i d).entry
    at i h = get_or-map _ exports i d d.entry h

    apart : (i l : ℕ) → i < l → l < length exports → (get_or exports i d).entry ≡ (get_or exports l d).entry → ⊥
    apart i l before h e = distinct i l d.entry before (omega (arith, h, length-map exports (λ export. export.entry)))
        (at i (omega (arith, before, h)) ∙ e ∙ sym (at l h))

-- an entry lies in the stretch of its compartment's code
home_of : (image : ImageParts) (c entry : ℕ) → IsWellFormed image → IsEntry image c entry → c ≡ comp_of_code entry
home_of image c entry formed is =
    let word = some_is _ is in sym (in_code image formed c entry word.0 word.1).comp

pub imported : (image : ImageParts) (caller : ℕ) (import : ImportPart) (comp : CompPart) (export : ExportPart) →
    IsWellFormed image →
    may_call_export image caller import.comp import.index ≡ true → slice_get image.comps import.comp ≡ Some comp →
    slice_get comp.exports import.index ≡ Some export →
    IsCallee image caller (record {
      entry = export.entry;
      comp = import.comp;
      index = import.index;
      params = export.params;
    })
imported image caller import comp export formed may at found =
    let rules = formed.comps import.comp comp at in
    let within = slice_get_within _ import.index export found in
    let is = get_or_from_slice_get comp.exports _ export export found in
    let keeps : IsExport image _ export = subst (IsExport image _) is (rules.exports _ export within) in
    let entry_is : (get_or comp.exports import.index export).entry ≡ export.entry = ap (λ e. e.entry) is in
    record {
      comp = home_of image import.comp _ formed keeps.entry;
      within = slice_get_within _ import.comp comp at;
      index = rw at (position_of_only _ comp.exports _ export within (eq-eqb _ _ entry_is)
          (λ j inside same. one_entry _ rules.export_entries j _ export inside within
          (eqb-true _ _ same ∙ sym entry_is)));
      params = rw (at, found) refl;
      few = keeps.params;
      may = may;
    }

-- Lists of functions that compartments may call.

module _ (image : ImageParts) where
  pub callees_at : (lists : List (List Callee)) (c i n : ℕ) (callees : List Callee) → n ≡ c + i →
      AreCallees image c lists → slice_get lists i ≡ Some callees → All (IsCallee image n) callees
  callees_at [] c i n callees place h is = let never = is in cc never
  callees_at (first ∷ others) c zero n callees place h is =
      let number : c ≡ n = omega arith in
      let same : first ≡ callees = cc is in
      subst (λ k. All (IsCallee image k) callees) number (subst (All (IsCallee image c)) same h.0)
  callees_at (first ∷ others) c (suc i) n callees place h is = callees_at others _ i n callees (omega arith) h.1 is

  pub callees_more : (lists : List (List Callee)) (c n : ℕ) (callees : List Callee) → n ≡ c + length lists →
      AreCallees image c lists → All (IsCallee image n) callees → AreCallees image c (lists ++ callees ∷ [])
  callees_more [] c n callees place h more =
      let number : n ≡ c = omega arith in
      (subst (λ k. All (IsCallee image k) callees) number more, tt)
  callees_more (first ∷ others) c n callees place h more = (h.0, callees_more others _ n callees (omega arith) h.1 more)
