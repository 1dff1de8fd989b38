-- Why a machine that runs a compiled image stops, by what the program means.
use Rattle.sc_compile.specs.Common.{ImageParts, IsWord, ProgramTree, StackIsFull, c_arith, machine, meaning, run_of}
use Rattle.sc_compile.specs.Common.{scripted_meaning}
use Rattle.sc_base.specs.declared.stop.Stop.TheVariants.{Ended}
use Rattle.sc_core.specs.Prelude.{scripted_run_of}
use Rattle.sc_core.specs.declared.cause.Cause.{Cause}
use Rattle.sc_core.specs.declared.run.RunEnd.TheVariants.{Blamed}
use Rattle.sc_core_laws.specs.Prelude.{CompSet, IsSubset}
use Rattle.sc_emit_run_laws.specs.Prelude.{IsBlamedWithin, IsTrap}
use Rattle.sc_image.specs.Prelude.{MachineState, is_ended}
use Rattle.std.specs.Prelude.{◌≡◌, ◌↔◌, ◌⊎◌, ℕ, suc, true, false, List, length, All}

-- Where a trap stops the machine, the program's meaning is blamed after events that the machine has emitted, or a stack
-- is full. So a program that is never blamed, and whose stacks are never full, never traps.
abbrev pub TrapsWhereBlamed : ProgramTree → ImageParts → Type 0
TrapsWhereBlamed program image = (inputs : List ℕ) (steps events : ℕ) → All IsWord inputs →
    let its = machine image inputs steps events in
    IsTrap its.stop →
    IsBlamedWithin its.state.trace (meaning program inputs steps events)
    ⊎ StackIsFull image its (run_of c_arith program inputs steps) events

-- In a state of the machine, the meaning in which a set performs its part of the trace has all of this trace and no
-- more, and blames the compartment that is active in the state.
pub record IsBlamedThere (program : ProgramTree) (set : CompSet) (inputs : List ℕ) (turns : ℕ) (state : MachineState) :
    Type 0 where
  pub cause : Cause
  pub line : ℕ
  pub is : scripted_meaning program set state.trace inputs turns (suc (length state.trace)) ≡
      record { trace = state.trace; end = Blamed state.active cause line }

-- Let a set that includes the given compartments perform its part of the machine's trace, and let the meaning have all
-- of it. Where a trap stops the machine in a compartment outside of the set, the meaning blames this compartment there,
-- or its stack is full.
abbrev pub TrapsOutside : ProgramTree → ImageParts → (given : CompSet) → Type 0
TrapsOutside program image given = (inputs : List ℕ) (steps events : ℕ) (set : CompSet) → IsSubset given set →
    All IsWord inputs →
    let its = machine image inputs steps events in
    IsTrap its.stop → set its.state.active ≡ false →
    (scripted_meaning program set its.state.trace inputs steps (length its.state.trace)).trace ≡ its.state.trace →
    IsBlamedThere program set inputs steps its.state
    ⊎ StackIsFull image its (scripted_run_of c_arith program inputs steps set its.state.trace) events

-- The machine stops as Ended exactly where its trace ends with `End`.
abbrev pub EndsByEvent : ImageParts → Type 0
EndsByEvent image = (inputs : List ℕ) (steps events : ℕ) →
    let its = machine image inputs steps events in (its.stop ≡ Ended) ↔ (is_ended its.state.trace ≡ true)
