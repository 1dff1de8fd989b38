-- Helping: a run of the machine as it was observed, and who is named where a trap stopped it.
use Rattle.sc_base.specs.declared.stop.Stop.{Stop}
use Rattle.sc_base.specs.declared.stop.Stop.TheVariants.{Ended, EventsOut, StepsOut, Trap}
use Rattle.sc_chain.specs.Common.{ProgramTree, scripted_meaning}
use Rattle.sc_chain.specs.declared.account.MachineRun.{MachineRun}
use Rattle.sc_compile.specs.Prelude.{origin_of}
use Rattle.sc_core.specs.declared.explanation.Trapped.{Trapped}
use Rattle.sc_image.specs.Prelude.{IsWellFormed, machine}
use Rattle.sc_image.specs.declared.parts.ImageParts.{ImageParts}
use Rattle.sc_machine.specs.Calls.{IsTaken, loaded}
use Rattle.std.specs.Prelude.{◌≡◌, ℕ, suc, ◌≤◌, Bool, List, length, Option, None, Some}

-- the machine's run on an image in at most `steps` steps and `events` events
pub record IsObserved (image : ImageParts) (inputs : List ℕ) (steps events : ℕ) (observed : MachineRun) : Type 0 where
  pub formed : IsWellFormed image
  pub trace : observed.trace ≡ (machine image inputs steps events).state.trace
  pub stop : observed.stop ≡ (machine image inputs steps events).stop
  pub active : observed.active ≡ (machine image inputs steps events).state.active
  pub taken : IsTaken image inputs events steps (loaded image) observed.taken
  pub few : length observed.trace ≤ events

-- who is named only where the stop is a trap
abbrev pub if_trap : Stop → Trapped → Option Trapped
if_trap Ended trapped = None
if_trap EventsOut trapped = None
if_trap StepsOut trapped = None
if_trap (Trap reason pc) trapped = Some trapped

-- the active compartment, by the meaning in which a set performs, with as many turns as steps were taken and one event
-- more than there are
abbrev pub active_in : ProgramTree → (set : ℕ → Bool) → (inputs : List ℕ) → MachineRun → Trapped
active_in program set inputs observed = record {
  comp = observed.active;
  origin = origin_of (set observed.active)
      (scripted_meaning program set observed.trace inputs observed.taken (suc (length observed.trace))).end;
}

abbrev pub trapped_in : ProgramTree → (set : ℕ → Bool) → (inputs : List ℕ) → MachineRun → Option Trapped
trapped_in program set inputs observed = if_trap observed.stop (active_in program set inputs observed)
