-- Stretches of a run that emit events, for proofs about code that calls and is called: a whole run is cut into silent
-- stretches and steps that emit one event each.
use Rattle.sc_image.specs.Common.{Call, Ecall, Ended, Event, In, Jal, Jalr, Out, Ret, Stop, add_word, word_of}
use Rattle.std.specs.Prelude.{◌≡◌, ℕ, suc, ◌+◌, ◌<◌, ℤ, true, false, List, [], ◌∷◌, ◌++◌, length, Some, None}
use Rattle.std.specs.List.{list_any}
use Rattle.sc_image.specs.declared.parts.ImageParts.{ImageParts}
use Rattle.sc_image.specs.WellFormed.{IsWellFormed}
use Rattle.sc_image.specs.Layout.{gate}
use Rattle.sc_image.specs.Calls.{may_input, may_output, may_call_export, entered_export, export_params, has_result}
use Rattle.sc_image.specs.State.{MachineState, Crossing, ra, a0, a7, reg, with_pc}
use Rattle.sc_image.specs.Cross.{arguments, given_back, on_call, on_return_to, on_end, on_output, input_at, on_input}
use Rattle.sc_image.specs.Step.{Goes, jalr_target, step}
use Rattle.sc_image.specs.Machine.{is_end, stopped, run}
use Rattle.sc_image.specs.Walks.{Walks, IsAt}

-- `steps` steps lead from one state to another and emit these events, of which none is the end
pub record Emits (image : ImageParts) (inputs : List ℕ) (steps : ℕ) (emitted : List Event)
    (from to : MachineState) : Type 0
  where
    pub walks : Walks image inputs steps from to
    pub trace : to.trace ≡ from.trace ++ emitted
    pub no_end : list_any is_end emitted ≡ false

-- Stretches that emit events follow one another, and a run goes along them while its bound on events isn't reached.
pub record EmittingComposes : Type 0 where
  pub silent : (image : ImageParts) (inputs : List ℕ) (steps : ℕ) (from to : MachineState) →
      Walks image inputs steps from to → from.trace ≡ to.trace → Emits image inputs steps [] from to
  pub one_event : (image : ImageParts) (inputs : List ℕ) (event : Event) (from to : MachineState) →
      step image inputs from ≡ Goes to → to.trace ≡ from.trace ++ event ∷ [] → is_end event ≡ false →
      Emits image inputs 1 (event ∷ []) from to
  pub together : (image : ImageParts) (inputs : List ℕ) (m n : ℕ) (first second : List Event)
      (from middle to : MachineState) →
      Emits image inputs m first from middle → Emits image inputs n second middle to →
      Emits image inputs (m + n) (first ++ second) from to
  pub run_along : (image : ImageParts) (inputs : List ℕ) (events steps more : ℕ) (emitted : List Event)
      (from to : MachineState) →
      IsWellFormed image → Emits image inputs steps emitted from to → stopped events from.trace ≡ None →
      length to.trace < events → run image inputs events (steps + more) from ≡ run image inputs events more to
  -- up to a step whose event is the last: the end, or the last that the bound allows
  pub run_to_stop : (image : ImageParts) (inputs : List ℕ) (events steps more : ℕ) (emitted : List Event)
      (from last to : MachineState) (stop : Stop) → IsWellFormed image → Emits image inputs steps emitted from last →
      stopped events from.trace ≡ None → length last.trace < events → step image inputs last ≡ Goes to →
      stopped events to.trace ≡ Some stop →
      run image inputs events (steps + suc more) from ≡ record { state = to; stop = stop }

-- a call of the export of that index of compartment `to`, which begins at the target
pub record IsCall (image : ImageParts) (state : MachineState) (to index target : ℕ) : Type 0 where
  pub entry : entered_export image to target ≡ Some index
  pub may : may_call_export image state.active to index ≡ true

-- what a call emits and leads to
abbrev pub EmitsCall : (image : ImageParts) (inputs : List ℕ) (state : MachineState) (to index target : ℕ) → Type 0
EmitsCall image inputs state to index target =
    let params = export_params image to index in
    let event = Call state.active to index (arguments params state.regs) in
    Emits image inputs 1 (event ∷ []) state (on_call state to index params target)

-- The steps that emit an event, by their instruction.
pub record StepsEmit : Type 0 where
  pub jal_calls : (image : ImageParts) (inputs : List ℕ) (state : MachineState) (imm : ℤ) (to index target : ℕ) →
      IsWellFormed image → IsAt image state (Jal ra imm) → add_word state.pc (word_of imm) ≡ target →
      IsCall image state to index target → EmitsCall image inputs state to index target
  pub jalr_calls : (image : ImageParts) (inputs : List ℕ) (state : MachineState) (rs1 : ℕ) (imm : ℤ)
      (to index target : ℕ) →
      IsWellFormed image → IsAt image state (Jalr ra rs1 imm) → jalr_target (reg state rs1) imm ≡ target →
      IsCall image state to index target → EmitsCall image inputs state to index target
  pub returns : (image : ImageParts) (inputs : List ℕ) (state : MachineState) (rs1 : ℕ) (imm : ℤ) (crossing : Crossing)
      (waiting : List Crossing) → IsAt image state (Jalr 0 rs1 imm) → jalr_target (reg state rs1) imm ≡ gate →
      state.cross ≡ crossing ∷ waiting →
      let result = has_result image crossing.callee crossing.entry in
      Emits image inputs 1 (Ret state.active crossing.caller (given_back result state) ∷ []) state
      (on_return_to result state crossing waiting)
  pub outputs : (image : ImageParts) (inputs : List ℕ) (state : MachineState) → IsAt image state Ecall →
      reg state a7 ≡ 2 → may_output image state.active ≡ true →
      Emits image inputs 1 (Out state.active (reg state a0) ∷ []) state (with_pc (on_output state) (state.pc + 4))
  pub inputs : (image : ImageParts) (inputs : List ℕ) (state : MachineState) → IsAt image state Ecall → reg state a7 ≡ 1
      →
      may_input image state.active ≡ true →
      Emits image inputs 1 (In state.active (input_at inputs state.input) ∷ []) state
      (with_pc (on_input inputs state) (state.pc + 4))
  -- a return through the gate where no call waits ends the run
  pub ends : (image : ImageParts) (inputs : List ℕ) (state : MachineState) (rs1 : ℕ) (imm : ℤ) →
      IsAt image state (Jalr 0 rs1 imm) → jalr_target (reg state rs1) imm ≡ gate → state.cross ≡ [] →
      step image inputs state ≡ Goes (on_end state)
  pub ended_stops : (events : ℕ) (state : MachineState) → stopped events (on_end state).trace ≡ Some Ended
