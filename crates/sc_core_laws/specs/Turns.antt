-- Runs that are out of turns, and the turns that they had left.
use Rattle.sc_core_laws.specs.Common.{Arith, Denotations, Event, Here, Memory, Piece, ProgramTree, Roles, State}
use Rattle.sc_core_laws.specs.Common.{Stopped, TurnsOut, Value, and_then, call_own, denotations_of, first_state, found}
use Rattle.sc_core_laws.specs.Common.{function, leads, legal, roles_in, run_step, scripted_step, takes, within}
use Rattle.std.specs.Prelude.{◌≡◌, ℕ, suc, ◌++◌, true, false, List, [], ◌∷◌, Option, Some, is_some}
use Rattle.sc_event.specs.Prelude.{Standing, at_start, stands_after_all}
use Rattle.sc_event.specs.declared.row.Entry.TheVariants.{Export, Main}
use Rattle.sc_core_laws.specs.Chains.{CompSet}
use Rattle.sc_core_laws.specs.InteractionTrees.{Obedient}
use Rattle.sc_core_laws.specs.Runs.{denotations_run}
use Rattle.sc_core_laws.specs.Steady.{now}

-- what is out of turns has none left
abbrev pub IsSpent : {V : Type 0} → Piece V → Type 0
IsSpent piece = (s : State) → piece ≡ Stopped TurnsOut s → s.turns ≡ 0

-- the first call of `main`: the whole run, but for its `End`
abbrev pub main_call : Denotations → Memory → List ℕ → ℕ → Piece (Option Value)
main_call denotations globals inputs turns =
    and_then (found (denotations.entered denotations.interfaces.main Main) (first_state globals inputs turns))
    (λ number s. call_own denotations (within (run_step denotations) (suc turns)) denotations.interfaces.main number []
    s)

-- where some compartments perform
abbrev pub scripted_call : Denotations → Roles → Memory → List ℕ → ℕ → Piece (Option Value)
scripted_call denotations roles globals inputs turns =
    and_then (found (denotations.entered denotations.interfaces.main Main) (first_state globals inputs turns))
    (λ number s. call_own denotations (within (scripted_step denotations roles (run_step denotations)) (suc turns))
    denotations.interfaces.main number [] s)

-- a state without a turn in which the first call of `main` stopped
pub record StopsSpent (denotations : Denotations) (globals : Memory) (inputs : List ℕ) (turns : ℕ) : Type 0 where
  pub state : State
  pub stopped : main_call denotations globals inputs turns ≡ Stopped TurnsOut state
  pub spent : state.turns ≡ 0

-- a function that is there is out of turns where no turn is left, and so is a run of a `main` that is there
pub record SpendsTurns (denotations : Denotations) : Type 0 where
  pub functions : (number : ℕ) (here : Here) (s : State) → is_some (function denotations here.comp number) ≡ true →
      IsSpent (now (run_step denotations) number here s)
  pub runs : (globals : Memory) (inputs : List ℕ) (turns : ℕ) →
      leads denotations denotations.interfaces.main (denotations.entered denotations.interfaces.main Main) ≡ true →
      (denotations_run denotations globals inputs turns).behaviour.end ≡ TurnsOut →
      StopsSpent denotations globals inputs turns

-- each export leads to a function
abbrev pub ExportsLead : Denotations → Type 0
ExportsLead denotations = (to index count : ℕ) → takes denotations.interfaces to index count ≡ true →
    leads denotations to (denotations.entered to (Export index)) ≡ true

-- where sets perform their parts of a trace: a run that is out of turns, while it keeps to the trace and hasn't emitted
-- all of it, has no turn left
abbrev pub SpendsAlong : Denotations → List Event → Type 0
SpendsAlong denotations trace = (set : CompSet) (globals : Memory) (inputs : List ℕ) (turns : ℕ) (s : State) →
    scripted_call denotations (roles_in denotations.interfaces.main set trace) globals inputs turns ≡ Stopped TurnsOut
    s →
    (event : Event) (more : List Event) → trace ≡ s.trace ++ event ∷ more → s.turns ≡ 0

-- No turn is left in a state, where the compartment that stands active after its events doesn't perform.
pub record IsSpentOutside (main : ℕ) (set : CompSet) (s : State) : Type 0 where
  pub at : Standing
  pub stood : stands_after_all (at_start main) s.trace ≡ Some at
  pub spent : set at.active.comp ≡ false → s.turns ≡ 0

-- Where sets perform their parts of a trace, a run that is out of turns has no turn left if the compartment that stands
-- active doesn't perform: only compartments that perform can lack a row.
abbrev pub SpendsOutside : Denotations → List Event → Type 0
SpendsOutside denotations trace = (set : CompSet) (globals : Memory) (inputs : List ℕ) (turns : ℕ) (s : State) →
    scripted_call denotations (roles_in denotations.interfaces.main set trace) globals inputs turns ≡ Stopped TurnsOut
    s → IsSpentOutside denotations.interfaces.main set s

pub record TurnsOutMeansTurns : Type 0 where
  pub any_denotations : (denotations : Denotations) → Obedient denotations → SpendsTurns denotations
  pub programs : (arith : Arith) (program : ProgramTree) → SpendsTurns (denotations_of arith program)
  pub scripts : (denotations : Denotations) → Obedient denotations → ExportsLead denotations →
      leads denotations denotations.interfaces.main (denotations.entered denotations.interfaces.main Main) ≡ true →
      (trace : List Event) → legal denotations.interfaces trace ≡ true → SpendsAlong denotations trace
  pub outside : (denotations : Denotations) → Obedient denotations → ExportsLead denotations →
      leads denotations denotations.interfaces.main (denotations.entered denotations.interfaces.main Main) ≡ true →
      (trace : List Event) → legal denotations.interfaces trace ≡ true → SpendsOutside denotations trace
