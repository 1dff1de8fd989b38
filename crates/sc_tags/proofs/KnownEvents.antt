-- Each event of a run names compartments and exports of the image.
use Rattle.sc_tags.proofs.Common.{All, AtNext, BadJump, Bool, Crossing, Goes, ImageParts, IsWellFormed, List}
use Rattle.sc_tags.proofs.Common.{MachineState, NoImport, None, Option, Outcome, Some}
use Rattle.sc_tags.proofs.Common.{Tagged, TrapReason, Traps, [], a7}
use Rattle.sc_tags.proofs.Common.{any_run_keeps, ap, by_tag, carried_called, comp_of_code, entered_export}
use Rattle.sc_tags.proofs.Common.{environment_call, export_params, false, frees, has_heap, if◌then◌else◌}
use Rattle.sc_tags.proofs.Common.{may_input, may_output, nat_eq, not, on_tag_call, on_tag_return, refl, reg}
use Rattle.sc_tags.proofs.Common.{returned_by, slice_get, starts_block, subst, suc, sym, tag_jumps, tag_leaves}
use Rattle.sc_tags.proofs.Common.{tag_start, true, with_outcome, zero, zone_of, ℕ, ◌==◌, ◌∙◌, ◌∷◌}
use Rattle.sc_tags.proofs.Common.{◌≡◌}
use Rattle.sc_tags.proofs.Linear.{step_keeps}
use Rattle.sc_tags.specs.Prelude.{TagTracesAreKnown}
use Rattle.sc_base.proofs.Lists.{is_there, position_within}
use Rattle.sc_event.specs.Prelude.{IsKnown, comp_at, export_at}
use Rattle.sc_event.specs.declared.event.Event.{Event}
use Rattle.sc_event.specs.declared.interface.Interface.{Interface}
use Rattle.sc_event.specs.declared.interface.Interfaces.{Interfaces}
use Rattle.sc_image.specs.Prelude.{crossing_to, image_interface, image_interfaces, image_proto}
use Rattle.sc_image.specs.declared.parts.CompPart.{CompPart}
use Rattle.sc_image.specs.declared.parts.ExportPart.{ExportPart}
use Rattle.std.proofs.lemmas.List.Elements.{All-append, All-cons, All-nil}
use Rattle.std.proofs.lemmas.Option.{slice_get-map}
use Rattle.std.specs.Option.{option_and_then, option_map, option_map_or}
use Rattle.std.specs.Prelude.{IsSome, position, ◌++◌}

module _ (image : ImageParts) where
  abbrev named : Interfaces
  named = image_interfaces image

  abbrev IsThere : ℕ → Type 0
  IsThere c = IsSome (comp_at named c)

  comp_named : (c : ℕ) (comp : CompPart) → slice_get image.comps c ≡ Some comp →
      comp_at named c ≡ Some (image_interface comp)
  comp_named c comp at = slice_get-map image_interface image.comps c ∙ ap (option_map image_interface) at

  -- an export of a compartment
  record HasExport (c index : ℕ) : Type 0 where
    comp : IsThere c
    export : IsSome (export_at named c index)

  entered : (c target index : ℕ) → entered_export image c target ≡ Some index → HasExport c index
  entered c target index is = by (slice_get image.comps c) refl is
    where
      by : (found : Option CompPart) → slice_get image.comps c ≡ found →
          position (λ (export : ExportPart). export.entry == target)
          (option_map_or (λ (comp : CompPart). comp.exports) found []) ≡ Some index → HasExport c index
      by None at none = absurd (cc none)
      by (Some comp) at some =
          let said = comp_named c comp at in
          let there = is_there comp.exports index
          (position_within (λ (export : ExportPart). export.entry == target) comp.exports index some) in
          let export = ap (λ found. option_and_then (λ (i : Interface). slice_get i.exports index) found) said ∙
          (slice_get-map image_proto comp.exports index ∙ ap (option_map image_proto) there.1) in
          record { comp = subst IsSome (sym said) refl; export = subst IsSome (sym export) refl }

  -- the active compartment and those that wait are there, and events are known
  record Knows (active : ℕ) (capabilities : ℕ → Option Crossing) (trace : List Event) : Type 0 where
    there : IsThere active
    callers : (l : ℕ) (x : Crossing) → capabilities l ≡ Some x → IsThere x.caller
    events : All (IsKnown named) trace

  abbrev KnowsAll : Tagged → Type 0
  KnowsAll tagged = Knows tagged.core.active tagged.capabilities tagged.core.trace

  more : (trace : List Event) (event : Event) → All (IsKnown named) trace → IsKnown named event →
      All (IsKnown named) (trace ++ event ∷ [])
  more trace event all known =
      All-append (IsKnown named) trace (event ∷ []) all
      (All-cons (IsKnown named) event [] known (All-nil (IsKnown named)))

  module _ (tagged : Tagged) (h : KnowsAll tagged) where
    abbrev core : MachineState
    core = tagged.core

    made : (to index l : ℕ) (x : Crossing) (here : Bool) →
        (if here then Some (crossing_to core to index) else tagged.capabilities l) ≡ Some x → IsThere x.caller
    made to index l x true is =
        let same : crossing_to core to index ≡ x = cc is in
        subst (λ (x : Crossing). IsThere x.caller) same h.there
    made to index l x false is = h.callers l x is

    gone : (l : ℕ) (x : Crossing) (here : Bool) → (if here then None else tagged.capabilities l) ≡ Some x →
        IsThere x.caller
    gone l x true is = absurd (cc is)
    gone l x false is = h.callers l x is

    calls_keep : (to target : ℕ) (index : Option ℕ) → entered_export image to target ≡ index →
        AtNext KnowsAll (carried_called image tagged to target index)
    calls_keep to target None is = tt
    calls_keep to target (Some index) is = by _ _
      where
        by : (own may : Bool) → AtNext KnowsAll (if own then Traps BadJump else if may
            then Goes (on_tag_call tagged to index (export_params image to index) target) else Traps NoImport)
        by true may = tt
        by false true =
            let export = entered to target index is in
            record {
              there = export.comp;
              callers = λ l x. made to index l x (nat_eq l tagged.level);
              events = more core.trace _ h.events (h.there, export.comp, export.export);
            }
        by false false = tt

    jumps_keep : (rd target : ℕ) → AtNext KnowsAll (tag_jumps image tagged rd target)
    jumps_keep rd target = by _
      where
        by : (links : Bool) → AtNext KnowsAll (if links then carried_called image tagged (comp_of_code target) target
            (entered_export image (comp_of_code target) target) else Traps BadJump)
        by true = calls_keep _ target _ refl
        by false = tt

    returned_keep : (n : ℕ) (capability : Option Crossing) → tagged.capabilities n ≡ capability →
        KnowsAll (returned_by image tagged n capability)
    returned_keep n None is = record {
      there = h.there;
      callers = h.callers;
      events = more core.trace _ h.events h.there;
    }
    returned_keep n (Some x) is =
        let caller = h.callers n x is in
        record {
          there = caller;
          callers = λ l y. gone l y (nat_eq l n);
          events = more core.trace _ h.events (h.there, caller);
        }

    return_keeps : (level : ℕ) → KnowsAll (on_tag_return image tagged level)
    return_keeps zero = record {
      there = h.there;
      callers = h.callers;
      events = more core.trace _ h.events h.there;
    }
    return_keeps (suc n) = returned_keep n _ refl

    leaves_keep : (rd target : ℕ) → AtNext KnowsAll (tag_leaves image tagged rd target)
    leaves_keep rd target = by _
      where
        by : (returns : Bool) → AtNext KnowsAll (if returns then Goes (on_tag_return image tagged tagged.level)
            else tag_jumps image tagged rd target)
        by true = return_keeps tagged.level
        by false = jumps_keep rd target

    -- Calls of the environment.

    record Keeps (outcome : Outcome) : Type 0 where
      kept : AtNext KnowsAll (with_outcome tagged outcome)

    traps : (reason : TrapReason) → Keeps (Traps reason)
    traps reason = record { kept = tt }

    -- with an event of the active compartment, or none
    goes : (state : MachineState) → Knows state.active tagged.capabilities state.trace → Keeps (Goes state)
    goes state knows = record { kept = knows }

    either : (b : Bool) (x y : Outcome) → Keeps x → Keeps y → Keeps (if b then x else y)
    either true x y p q = p
    either false x y p q = q

    emits : (event : Event) → IsKnown named event → Knows core.active tagged.capabilities (core.trace ++ event ∷ [])
    emits event known = record { there = h.there; callers = h.callers; events = more core.trace event h.events known }

    frees_keep : (address : ℕ) → Keeps (frees core address)
    frees_keep address =
        either (nat_eq address 0) _ _ (goes _ h)
        (either (starts_block core.active (zone_of core core.active) address) _ _ (goes _ h) (traps _))

    environment_keeps : (inputs : List ℕ) → AtNext KnowsAll (with_outcome tagged (environment_call image inputs core))
    environment_keeps inputs =
        (either (nat_eq (reg core a7) 1) _ _ (either (may_input image core.active) _ _ (goes _ (emits _ h.there))
        (traps _))
        (either (nat_eq (reg core a7) 2) _ _ (either (may_output image core.active) _ _ (goes _ (emits _ h.there))
        (traps _))
        (either (not (has_heap image core.active)) _ _ (traps _)
        (either (nat_eq (reg core a7) 3) _ _ (goes _ h)
        (either (nat_eq (reg core a7) 4) _ _ (frees_keep _) (traps _)))))).kept

  starts : IsWellFormed image → KnowsAll (tag_start image)
  starts formed =
      let main = is_there image.comps image.main formed.main in
      record {
        there = subst IsSome (sym (comp_named image.main main.0 main.1)) refl;
        callers = λ l x is. absurd (cc is);
        events = All-nil (IsKnown named);
      }

pub traces_known : TagTracesAreKnown
traces_known image ranges inputs steps events formed =
    (any_run_keeps (by_tag image ranges inputs) events (KnowsAll image)
    (λ tagged h early. step_keeps (by_tag image ranges inputs) (KnowsAll image) tagged (λ regs pc memory. h)
    (jumps_keep image tagged h) (leaves_keep image tagged h) (environment_keeps image tagged h inputs))
    steps (tag_start image) (starts image formed)).events
