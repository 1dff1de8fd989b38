-- Who stopped the machine, where the stop is a trap, and why.
use Rattle.sc_base.specs.declared.stop.Stop.TheVariants.{StepsOut}
use Rattle.sc_chain.specs.Common.{Accepts, Blamed, Cause, Event, Link, ProgramTree, SourceParts, meaning}
use Rattle.sc_chain.specs.Recompose.{recomposed}
use Rattle.sc_compile.specs.Prelude.{IsOrigin, IsTrap}
use Rattle.sc_core.specs.declared.explanation.TrapOrigin.TheVariants as origin
use Rattle.sc_core.specs.declared.explanation.Trapped.{Trapped}
use Rattle.sc_event.specs.Prelude.{is_listed}
use Rattle.sc_image.specs.Prelude.{MachineRun, machine}
use Rattle.sc_image.specs.declared.parts.ImageParts.{ImageParts}
use Rattle.std.specs.Prelude.{◌≡◌, ℕ, suc, ◌<◌, ◌≤◌, List, ◌++◌, length, map, Option, None, Some}

-- those that perform in the last text of a chain: the given ones, and those of the links
abbrev pub performing_comps : (given : List ℕ) → List Link → List ℕ
performing_comps given links = given ++ map (λ link. link.comp) links

module _ (source : SourceParts) (image : ImageParts) (inputs : List ℕ) (steps events : ℕ) where
  abbrev run : MachineRun
  run = machine image inputs steps events

  abbrev trace : List Event
  trace = run.state.trace

  -- Where a trap stops the machine, the active compartment is named, with the first reason that holds of it in the text
  -- in which these compartments perform.
  pub record IsTrappedSo (comps : List ℕ) (trapped : Trapped) : Type 0 where
    -- the least number of steps after which the machine stands trapped
    pub taken : ℕ
    pub few : taken ≤ steps
    pub same : machine image inputs taken events ≡ run
    pub least : (fewer : ℕ) → fewer < taken → (machine image inputs fewer events).stop ≡ StepsOut
    pub active : trapped.comp ≡ run.state.active
    -- by the meaning with as many turns as steps were taken
    pub reason : IsOrigin source.program image (is_listed comps) inputs taken events trapped.origin
    -- which is that of the text: where a line is named, the text's own meaning is blamed there after all events
    pub program : ProgramTree
    pub accepted : Accepts (recomposed source trace (is_listed comps)) program
    pub blamed : (cause : Cause) (line : ℕ) → trapped.origin ≡ origin.Blamed cause line →
        meaning program inputs taken (suc (length trace)) ≡
        record { trace = trace; end = Blamed trapped.comp cause line }

  -- of the machine's stop: nobody is named exactly where it is no trap
  abbrev pub IsTrappedOf : (comps : List ℕ) → Option Trapped → Type 0
  IsTrappedOf comps None = IsTrap run.stop → ⊥
  IsTrappedOf comps (Some trapped) = IsTrap run.stop × IsTrappedSo comps trapped
