-- The machine on a linked image does what the code of its program does.
use Rattle.sc_emit_run_laws.specs.Common.{Addresses, ImageParts, IsFunction, IsProgram, IsWord, Roles, Run, TacFnTree}
use Rattle.sc_emit_run_laws.specs.Common.{TacTree, code_run, legal, machine, scripted_code_run, wrapping}
use Rattle.std.specs.Prelude.{◌≡◌, ℕ, suc, ◌*◌, Bool, true, false, List, [], All, Some, slice_get}
use Rattle.sc_emit_run_laws.specs.Linked.{IsLinked, functions_in}
use Rattle.sc_emit_run_laws.specs.Outcomes.{Outcome}
use Rattle.sc_emit_run_laws.specs.Results.{GivesResults}
use Rattle.sc_emit_run_laws.specs.Runs.{IsTrap, KeepsTo}

-- nobody performs
abbrev pub nobody : Roles
nobody = record { scripted = λ comp. false; rows = λ comp. [] }

-- a program and an image in which its code stands in each compartment outside of `set`
pub record IsBuilt (set : ℕ → Bool) (program : TacTree) (image : ImageParts) (turn_pays : ℕ) : Type 0 where
  pub rules : IsProgram program
  pub functions : (comp number : ℕ) (f : TacFnTree) → slice_get (functions_in program comp) number ≡ Some f →
      IsFunction f
  pub results : (roles : Roles) → GivesResults program roles
  pub addresses : ℕ → Addresses
  pub linked : IsLinked set program image turn_pays addresses

-- from the start the machine runs beside the code in which every operation gives a word, and takes no more steps than
-- its turns, and the start, pay for
abbrev pub Simulates : Type 0
Simulates = (program : TacTree) (image : ImageParts) (turn_pays : ℕ) →
    IsBuilt nobody.scripted program image turn_pays → (inputs : List ℕ) (turns : ℕ) → All IsWord inputs →
    Outcome image inputs (turn_pays * suc turns) turns (code_run wrapping program inputs turns)

-- where a set performs its part of the machine's trace, whatever code the image has for its compartments, the run of
-- all other code keeps to that trace, with as many turns as the machine may take steps
abbrev pub ScriptsSimulate : Type 0
ScriptsSimulate = (program : TacTree) (image : ImageParts) (turn_pays : ℕ) (set : ℕ → Bool) →
    IsBuilt set program image turn_pays → (inputs : List ℕ) (steps events : ℕ) → All IsWord inputs →
    let observed = (machine image inputs steps events).state.trace in
    legal program.interfaces observed ≡ true →
    KeepsTo observed (scripted_code_run wrapping program inputs steps set observed).behaviour

-- what comes of the machine beside a run, within some bound on steps
pub record HasOutcome (image : ImageParts) (inputs : List ℕ) (turns : ℕ) (run : Run) : Type 0 where
  pub bound : ℕ
  pub outcome : Outcome image inputs bound turns run

-- where a trap stops the machine in a compartment outside of a set, the run in which the set performs its part of the
-- trace has an outcome, with as many turns as the machine may take steps
abbrev pub ScriptsStop : Type 0
ScriptsStop = (program : TacTree) (image : ImageParts) (turn_pays : ℕ) (set : ℕ → Bool) →
    IsBuilt set program image turn_pays → (inputs : List ℕ) (steps events : ℕ) → All IsWord inputs →
    let its = machine image inputs steps events in
    legal program.interfaces its.state.trace ≡ true → IsTrap its.stop → set its.state.active ≡ false →
    HasOutcome image inputs steps (scripted_code_run wrapping program inputs steps set its.state.trace)
