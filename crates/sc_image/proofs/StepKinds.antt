-- What a step does to the trace and to who is active: it adds at most one event, which says who is active next.
use Rattle.sc_image.proofs.Common.{Call, Crossing, End, Event, Goes, ImageParts, In, IsSteadyState, IsWellFormed}
use Rattle.sc_image.proofs.Common.{List, MachineState, Out, Ret, Some, [], a0, arguments, entered_export}
use Rattle.sc_image.proofs.Common.{export_params, given_back, has_result, inl, input_at, inr, length, on_call}
use Rattle.sc_image.proofs.Common.{on_input, on_output, on_return, refl, reg, slice_set, step, subst, with_pc}
use Rattle.sc_image.proofs.Common.{with_stored, ℕ, ⊎_elim, ◌++◌, ◌+◌, ◌∷◌, ◌≡◌, ◌⊎◌}
use Rattle.sc_event.specs.Standing.{performer}
use Rattle.sc_image.specs.Isolation.{AddsOneBy, IsIsolating, IsLoud, IsQuiet, active_after}
use Rattle.sc_image.proofs.Cases.{AtNext, step_of}
use Rattle.sc_image.proofs.Reached.{step_steady}
use Rattle.sc_image.proofs.Isolation.{follows_from_own, leaves_data, leaves_others}
use Rattle.sc_image.proofs.Enters.{enters_by_event, few_params, length-arguments}

-- a call begins at the entry of an export, with as many words as the export takes
abbrev pub HasEntry : ImageParts → Event → Type 0
HasEntry image (Call from to index args) =
    (target : ℕ) × (entered_export image to target ≡ Some index) × (length args ≡ export_params image to index)
HasEntry image (Ret from to value) = Unit {0}
HasEntry image (Out comp value) = Unit {0}
HasEntry image (In comp value) = Unit {0}
HasEntry image (End comp value) = Unit {0}

abbrev pub Kind : ImageParts → (state next : MachineState) → Type 0
Kind image state next = IsQuiet state next ⊎ ((loud : IsLoud state next) × HasEntry image loud.event)

quietly : (image : ImageParts) (state next : MachineState) → next.trace ≡ state.trace → next.active ≡ state.active →
    Kind image state next
quietly image state next trace active = inl (record { trace = trace; active = active })

loudly : (image : ImageParts) (state next : MachineState) (event : Event) → next.trace ≡ state.trace ++ event ∷ [] →
    performer event ≡ state.active → next.active ≡ active_after event → HasEntry image event → Kind image state next
loudly image state next event trace by active entry =
    inr (record { event = event; trace = trace; by = by; active = active }, entry)

return_kind : (image : ImageParts) (state : MachineState) (cross : List Crossing) →
    Kind image state (on_return image state cross)
return_kind image state [] =
    loudly image state (on_return image state []) (End state.active (reg state a0)) refl refl refl tt
return_kind image state (x ∷ xs) =
    let result = has_result image x.callee x.entry in
    loudly image state (on_return image state (x ∷ xs)) (Ret state.active x.caller (given_back result state)) refl refl
    refl tt

module _ (image : ImageParts) (inputs : List ℕ) (formed : IsWellFormed image) (state : MachineState)
    (h : IsSteadyState image state) where
  step_kind : AtNext (Kind image state) (step image inputs state)
  step_kind = step_of image inputs formed state (AtNext (Kind image state)) (record {
    same = λ a owned. refl;
    zone = refl;
    traps = λ reason. tt;
    quiet = λ regs pc moves. quietly image state (record state { regs = regs; pc = pc }) refl refl;
    rezones = λ regs pc spans moves. quietly image state
        (record state { regs = regs; pc = pc; zones = slice_set state.zones state.active spans }) refl refl;
    stores = λ op a word allowed. quietly image state (with_pc (with_stored state op a word) (state.pc + 4)) refl refl;
    calls = λ to index target at may.
        let params = export_params image to index in
        loudly image state (on_call state to index params target)
        (Call state.active to index (arguments params state.regs)) refl refl refl
        (target, at, length-arguments params state.regs (few_params image to index formed) h.regs);
    returns = return_kind image state state.cross;
    outputs = λ may. loudly image state (with_pc (on_output state) (state.pc + 4)) (Out state.active (reg state a0))
        refl refl refl tt;
    reads = λ may. loudly image state (with_pc (on_input inputs state) (state.pc + 4))
        (In state.active (input_at inputs state.input)) refl refl refl tt;
  })

  pub next_kind : (next : MachineState) → step image inputs state ≡ Goes next → Kind image state next
  next_kind next goes = subst (AtNext (Kind image state)) goes step_kind

pub adds_one : AddsOneBy step
adds_one image inputs state next formed h goes =
    ⊎_elim (λ quiet. inl quiet) (λ loud. inr loud.0) (next_kind image inputs formed state h next goes)

-- all laws of steps together
pub isolates : IsIsolating step
isolates = record {
  steady = step_steady;
  one_event = adds_one;
  others = leaves_others;
  bytes = leaves_data;
  follows = follows_from_own;
  enters = enters_by_event;
}
