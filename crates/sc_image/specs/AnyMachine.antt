-- Runs of any machine on images. The runs of a machine that isolates compartments are apart.
use Rattle.sc_base.specs.Word.{IsWord}
use Rattle.sc_image.specs.Common.{StepsOut}
use Rattle.std.specs.Prelude.{◌≡◌, ℕ, zero, suc, Bool, false, List, All}
use Rattle.sc_image.specs.declared.parts.ImageParts.{ImageParts}
use Rattle.sc_image.specs.Calls.{exported_by}
use Rattle.sc_image.specs.WellFormed.{IsWellFormed}
use Rattle.sc_image.specs.State.{MachineState}
use Rattle.sc_image.specs.Steady.{IsSteadyState}
use Rattle.sc_image.specs.Machine.{MachineRun, after, stops_or}
unfoldable use Rattle.sc_image.specs.Machine.{stopped}
use Rattle.sc_image.specs.Isolation.{IsIsolating, Stepping}
use Rattle.sc_image.specs.Apart.{AgreeBut, AlikeBut, AreApart}

-- at most `steps` steps from a state on, with at most `events` events in the whole trace
abbrev pub run_with : Stepping → ImageParts → (inputs : List ℕ) → (events steps : ℕ) → MachineState → MachineRun
run_with stepping image inputs events zero state =
    stops_or (stopped events state.trace) state (record { state = state; stop = StepsOut })
run_with stepping image inputs events (suc steps) state = stops_or (stopped events state.trace) state
    (after state.pc state (stepping image inputs state) (run_with stepping image inputs events steps))

-- Take a machine that isolates the compartments of an image, and two images that agree outside a set and in which the
-- compartments outside offer the same functions. From steady states that are alike outside the set, its runs are apart.
abbrev pub IsolatingRunsApart : Type 0
IsolatingRunsApart =
    (stepping : Stepping) (set : ℕ → Bool) (one other : ImageParts) (inputs : List ℕ) (state its : MachineState)
    (steps its_steps events : ℕ) → IsIsolating stepping → IsWellFormed one → IsWellFormed other → All IsWord inputs →
    AgreeBut set one other → ((c : ℕ) → set c ≡ false → exported_by one c ≡ exported_by other c) →
    IsSteadyState one state → IsSteadyState other its → AlikeBut set one other state its →
    AreApart set one other (λ steps. run_with stepping one inputs events steps state)
    (λ steps. run_with stepping other inputs events steps its) steps its_steps
