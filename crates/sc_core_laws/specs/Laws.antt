-- Laws of the meaning: of all denotations whose functions are interaction trees, and so of every program.
use Rattle.sc_core_laws.specs.Common.{Arith, Blamed, Cause, Denotations, Event, FrameChange, Here, IsPrefix, Memory}
use Rattle.sc_core_laws.specs.Common.{ProgramTree, Reached, Roles, Run, SourceRun, State, Step, Value, c_arith}
use Rattle.sc_core_laws.specs.Common.{call_own, deepest, denotations_of, legal, meaning, meaning_by, roles_in, run_of}
use Rattle.sc_core_laws.specs.Common.{run_step, scripted_by, scripted_meaning, scripted_run_of, scripted_step}
use Rattle.sc_core_laws.specs.Common.{scripted_wrapped, stopped_at, within, wrapped, wrapping}
use Rattle.std.specs.Prelude.{◌≡◌, ◌⊎◌, ℕ, suc, ◌<◌, ◌≤◌, ◌++◌, true, false, List, length, Option, Some}
use Rattle.sc_event.specs.Prelude.{Standing, at_start, stands_after_all}
use Rattle.sc_core_laws.specs.Chains.{CompSet, IsSubset, nobody, BlameLink, IsBlamedOutside, performed, IsBlameChain}
use Rattle.sc_core_laws.specs.Chains.{IsRising}
use Rattle.sc_core_laws.specs.Chains.{AreFresh, HasAllBlamed, PassesBlame, count_outside}
use Rattle.sc_core_laws.specs.Ends.{IsArithmetic}
use Rattle.sc_core_laws.specs.Growth.{Gone, last}
use Rattle.sc_core_laws.specs.InteractionTrees.{DenotationsMatch, Obedient}
use Rattle.sc_core_laws.specs.Depths.{depth_after, stack_depth, AllBefore, has_no_end}
use Rattle.sc_core_laws.specs.Runs.{denotations_run, roles_run, performed_by}
use Rattle.sc_core_laws.specs.Steady.{now, ExtendedByMore, AgreesInDepth}

-- THE FUNCTIONS OF PROGRAMS
-- what they do is such trees, and in the arithmetic that wraps the same but for blames for arithmetic
pub record ProgramsObey : Type 0 where
  pub itself : (arith : Arith) (program : ProgramTree) → Obedient (denotations_of arith program)
  pub wraps : (program : ProgramTree) →
      DenotationsMatch IsArithmetic (denotations_of c_arith program) (denotations_of wrapping program)

-- whatever a function does, however many calls may be open in it, it goes on from the state in which it begins
abbrev pub GoesOn : Step → Type 0
GoesOn step = (open_calls number : ℕ) (here : Here) (s : State) → Gone s (within step open_calls number here s)

pub record OnlyGoesOn : Type 0 where
  pub any_denotations : (denotations : Denotations) → Obedient denotations → GoesOn (run_step denotations)
  pub scripts : (denotations : Denotations) → Obedient denotations → (roles : Roles) →
      GoesOn (scripted_step denotations roles (run_step denotations))
  pub programs : (arith : Arith) (program : ProgramTree) → GoesOn (run_step (denotations_of arith program))

-- what functions do is what they do by what functions do
abbrev pub IsFixed : Step → Type 0
IsFixed step = (number : ℕ) (here : Here) (s : State) → now step number here s ≡ step (now step) number here s

-- any bound on open calls above the turns is as good as any other
abbrev pub IsSteady : Step → Type 0
IsSteady step = (open_calls more_calls number : ℕ) (here : Here) (s : State) → s.turns < open_calls →
    s.turns < more_calls → within step more_calls number here s ≡ within step open_calls number here s

-- so it is of these denotations, and where some compartments perform scripts
pub record HasFixedPoint (denotations : Denotations) : Type 0 where
  pub run : IsFixed (run_step denotations)
  pub scripted : (roles : Roles) → IsFixed (scripted_step denotations roles (run_step denotations))
  pub run_steady : IsSteady (run_step denotations)
  pub scripted_steady : (roles : Roles) → IsSteady (scripted_step denotations roles (run_step denotations))

pub record FixedPoint : Type 0 where
  pub any_denotations : (denotations : Denotations) → Obedient denotations → HasFixedPoint denotations
  pub programs : (arith : Arith) (program : ProgramTree) → HasFixedPoint (denotations_of arith program)

-- WHOLE RUNS
-- where no compartment performs, the scripted meaning is the meaning
pub record EmptySetIsMeaning : Type 0 where
  pub any_denotations : (denotations : Denotations) (globals : Memory) (trace : List Event) (inputs : List ℕ)
      (turns : ℕ) →
      roles_run denotations globals inputs turns (roles_in denotations.interfaces.main nobody trace)
      ≡ denotations_run denotations globals inputs turns
  pub meaning : (program : ProgramTree) (trace : List Event) (inputs : List ℕ) (turns events : ℕ) →
      scripted_meaning program nobody trace inputs turns events ≡ meaning program inputs turns events
  pub wrapped : (program : ProgramTree) (trace : List Event) (inputs : List ℕ) (turns events : ℕ) →
      scripted_wrapped program nobody trace inputs turns events ≡ wrapped program inputs turns events

-- more turns and more events extend a run in which some compartments perform a script
pub record MoreGoesOn : Type 0 where
  pub any_denotations : (denotations : Denotations) → Obedient denotations →
      (globals : Memory) (inputs : List ℕ) (roles : Roles) →
      ExtendedByMore (λ turns events. stopped_at events (roles_run denotations globals inputs turns roles).behaviour)
  pub programs : (arith : Arith) (program : ProgramTree) (set : CompSet) (trace : List Event) (inputs : List ℕ) →
      ExtendedByMore (scripted_by arith program set trace inputs)

-- and so the meaning goes on
pub record MeaningGoesOn : Type 0 where
  pub any_denotations : (denotations : Denotations) → Obedient denotations → (globals : Memory) (inputs : List ℕ) →
      ExtendedByMore (λ turns events. stopped_at events (denotations_run denotations globals inputs turns).behaviour)
  pub programs : (arith : Arith) (program : ProgramTree) (inputs : List ℕ) →
      ExtendedByMore (meaning_by arith program inputs)

-- the arithmetic that wraps gives the same run up to the first blame for arithmetic, where some compartments perform a
-- script, and no compartment gets less deep
pub record WrappingAgrees : Type 0 where
  pub any_denotations : (denotations other : Denotations) → DenotationsMatch IsArithmetic denotations other →
      (globals : Memory) (inputs : List ℕ) (turns : ℕ) (roles : Roles) →
      AgreesInDepth (roles_run denotations globals inputs turns roles) (roles_run other globals inputs turns roles)
  pub programs : (program : ProgramTree) (set : CompSet) (trace : List Event) (inputs : List ℕ) (turns : ℕ) →
      AgreesInDepth (scripted_run_of c_arith program inputs turns set trace)
      (scripted_run_of wrapping program inputs turns set trace)

-- and so the wrapping meaning agrees with the meaning
pub record WrappedAgrees : Type 0 where
  pub any_denotations : (denotations other : Denotations) → DenotationsMatch IsArithmetic denotations other →
      (globals : Memory) (inputs : List ℕ) (turns : ℕ) →
      AgreesInDepth (denotations_run denotations globals inputs turns) (denotations_run other globals inputs turns)
  pub programs : (program : ProgramTree) (inputs : List ℕ) (turns : ℕ) →
      AgreesInDepth (run_of c_arith program inputs turns) (run_of wrapping program inputs turns)

-- what a run emits is allowed by the interfaces, also where compartments perform, whatever their scripts are
pub record TracesAreLegal : Type 0 where
  pub any_denotations : (denotations : Denotations) → Obedient denotations →
      (globals : Memory) (inputs : List ℕ) (turns events : ℕ) →
      legal denotations.interfaces (stopped_at events
      (denotations_run denotations globals inputs turns).behaviour).trace ≡ true
  pub scripts : (denotations : Denotations) → Obedient denotations →
      (globals : Memory) (inputs : List ℕ) (turns events : ℕ) (roles : Roles) →
      legal denotations.interfaces (stopped_at events
      (roles_run denotations globals inputs turns roles).behaviour).trace ≡ true
  pub meaning : (arith : Arith) (program : ProgramTree) (inputs : List ℕ) (turns events : ℕ) →
      legal program.interfaces (meaning_by arith program inputs turns events).trace ≡ true
  pub scripted : (arith : Arith) (program : ProgramTree) (set : CompSet) (trace : List Event) (inputs : List ℕ)
      (turns events : ℕ) →
      legal program.interfaces (scripted_by arith program set trace inputs turns events).trace ≡ true

-- no compartment that performs is blamed, whatever rows it performs
pub record NobodyWhoPerformsIsBlamed : Type 0 where
  pub any_denotations : (denotations : Denotations) → Obedient denotations →
      (globals : Memory) (inputs : List ℕ) (turns events : ℕ) (roles : Roles) →
      (comp : ℕ) (cause : Cause) (line : ℕ) →
      (stopped_at events (roles_run denotations globals inputs turns roles).behaviour).end ≡ Blamed comp cause line →
      roles.scripted comp ≡ false
  pub programs : (arith : Arith) (program : ProgramTree) (set : CompSet) (trace : List Event) (inputs : List ℕ)
      (turns events : ℕ) →
      (comp : ℕ) (cause : Cause) (line : ℕ) →
      (scripted_by arith program set trace inputs turns events).end ≡ Blamed comp cause line → set comp ≡ false

-- only compartments that there are are blamed
pub record BlamedAreThere : Type 0 where
  pub any_denotations : (denotations : Denotations) → Obedient denotations →
      (globals : Memory) (inputs : List ℕ) (turns events : ℕ) (roles : Roles) →
      (comp : ℕ) (cause : Cause) (line : ℕ) →
      (stopped_at events (roles_run denotations globals inputs turns roles).behaviour).end ≡ Blamed comp cause line →
      comp < length denotations.functions
  pub programs : (arith : Arith) (program : ProgramTree) (set : CompSet) (trace : List Event) (inputs : List ℕ)
      (turns events : ℕ) →
      (comp : ℕ) (cause : Cause) (line : ℕ) →
      (scripted_by arith program set trace inputs turns events).end ≡ Blamed comp cause line →
      comp < length program.sections

-- A compartment stands active after a trace, from the start of a run in this main compartment.
pub record StandsActive (main comp : ℕ) (trace : List Event) : Type 0 where
  pub at : Standing
  pub stood : stands_after_all (at_start main) trace ≡ Some at
  pub active : at.active.comp ≡ comp

-- the compartment that is blamed stands active after the run's events, whichever compartments perform
pub record BlamedStandActive : Type 0 where
  pub any_denotations : (denotations : Denotations) → Obedient denotations →
      (globals : Memory) (inputs : List ℕ) (turns events : ℕ) (roles : Roles) →
      (comp : ℕ) (cause : Cause) (line : ℕ) →
      (stopped_at events (roles_run denotations globals inputs turns roles).behaviour).end ≡ Blamed comp cause line →
      StandsActive denotations.interfaces.main comp
      (stopped_at events (roles_run denotations globals inputs turns roles).behaviour).trace
  pub programs : (arith : Arith) (program : ProgramTree) (set : CompSet) (trace : List Event) (inputs : List ℕ)
      (turns events : ℕ) →
      (comp : ℕ) (cause : Cause) (line : ℕ) →
      (scripted_by arith program set trace inputs turns events).end ≡ Blamed comp cause line →
      StandsActive program.interfaces.main comp (scripted_by arith program set trace inputs turns events).trace

-- SETS THAT PERFORM THEIR PARTS OF A TRACE
-- what holds of the runs in which sets perform: of all denotations that obey, and so of every program
pub record HoldsOfSets (law : List Event → (CompSet → SourceRun) → Type 0) : Type 0 where
  pub any_denotations : (denotations : Denotations) → Obedient denotations →
      (globals : Memory) (inputs : List ℕ) (turns : ℕ) (trace : List Event) →
      law trace (performed_by denotations globals inputs turns trace)
  pub programs : (arith : Arith) (program : ProgramTree) (inputs : List ℕ) (turns : ℕ) (trace : List Event) →
      law trace (performed arith program inputs turns trace)

module _ (trace : List Event) (runs : CompSet → SourceRun) where
  -- where more compartments perform their parts of a trace that the run emits, it emits the trace too
  abbrev pub EmitsWithMore : Type 0
  EmitsWithMore = (small large : CompSet) → IsSubset small large →
      (runs small).trace ≡ trace → (runs large).trace ≡ trace

  -- a blame that comes while the run keeps to the trace comes in the same run where more compartments perform, unless
  -- the blamed one does
  abbrev pub KeepsBlames : Type 0
  KeepsBlames = (small large : CompSet) → IsSubset small large → (comp : ℕ) (cause : Cause) (line : ℕ) →
      (runs small).end ≡ Blamed comp cause line → IsPrefix (runs small).trace trace → large comp ≡ false →
      runs large ≡ runs small

  -- where the blamed compartment performs too, the run passes that point, unless it wants a turn or a row right there
  abbrev pub PassesBlames : Type 0
  PassesBlames = (small large : CompSet) → IsSubset small large → (comp : ℕ) (cause : Cause) (line : ℕ) →
      (runs small).end ≡ Blamed comp cause line → IsPrefix (runs small).trace trace → large comp ≡ true →
      PassesBlame (runs small) (runs large)

  -- Of all sets that include the one with which a chain begins, exactly those give the trace that have every compartment
  -- of the chain: the compartments of the chain are the least.
  abbrev pub LeastIsChain : Type 0
  LeastIsChain = (first : CompSet) (links : List BlameLink) (set : CompSet) → IsSubset first set →
      IsBlameChain runs trace first links →
      ((runs set).trace ≡ trace → HasAllBlamed set links) × (HasAllBlamed set links → (runs set).trace ≡ trace)

  -- The links of a chain come after ever more events of the trace, all before its end. Their compartments differ from
  -- one another and from those with which the chain begins.
  abbrev pub ChainRises : Type 0
  ChainRises = (first : CompSet) (links : List BlameLink) → IsBlameChain runs trace first links →
      IsRising 0 (length trace) links × AreFresh first links

  -- Where every set that includes a first one emits the trace or is blamed outside of itself, there is a chain that
  -- begins with the first set. It has at most as many links as there are compartments outside of that set.
  abbrev pub HasChain : Type 0
  HasChain = (first : CompSet) (count : ℕ) →
      ((set : CompSet) → IsSubset first set →
      ((runs set).trace ≡ trace) ⊎ IsBlamedOutside count set (runs set) trace) →
      (links : List BlameLink) × IsBlameChain runs trace first links × (length links ≤ count_outside first count)

abbrev pub MoreMayPerform : Type 0
MoreMayPerform = HoldsOfSets EmitsWithMore

abbrev pub BlameRemains : Type 0
BlameRemains = HoldsOfSets KeepsBlames

abbrev pub BlameIsPassed : Type 0
BlameIsPassed = HoldsOfSets PassesBlames

abbrev pub ChainIsLeast : Type 0
ChainIsLeast = HoldsOfSets LeastIsChain

abbrev pub ChainsRise : Type 0
ChainsRise = HoldsOfSets ChainRises

abbrev pub ChainExists : Type 0
ChainExists = HoldsOfSets HasChain

-- STACK DEPTH
-- the greatest stack depth is at least the stack depth at any moment before the cut
abbrev pub DeepestIsReached : Type 0
DeepestIsReached = (events comp : ℕ) (before after : List FrameChange) → AllBefore events before →
    depth_after comp 0 before ≤ deepest events comp 0 (before ++ after)

-- and it is the stack depth at one of them: `before` are the changes up to that moment
pub record IsAttained (events comp : ℕ) (changes : List FrameChange) : Type 0 where
  pub before : List FrameChange
  pub after : List FrameChange
  pub parts : changes ≡ before ++ after
  pub early : AllBefore events before
  pub attains : depth_after comp 0 before ≡ deepest events comp 0 changes

-- the greatest stack depth of each compartment in a run, wherever it is cut
abbrev pub DepthsAreAttained : Run → Type 0
DepthsAreAttained run = (events comp : ℕ) → IsAttained events comp run.frames

-- each change of frames is of a moment within the trace
abbrev pub ChangesAreWithin : Run → Type 0
ChangesAreWithin run = AllBefore (suc (length run.behaviour.trace)) run.frames

-- a call that returns leaves the stack depth of every compartment as it was
abbrev pub LeavesDepths : Denotations → Step → Type 0
LeavesDepths denotations step = (open_calls comp number : ℕ) (args : List Value) (v : Option Value) (s t : State) →
    AllBefore (suc (length s.trace)) s.frames →
    call_own denotations (within step open_calls) comp number args s ≡ Reached v t →
    (c : ℕ) → stack_depth c t ≡ stack_depth c s

-- and it emits no end: only a whole run does
abbrev pub EmitsNoEnd : Denotations → Step → Type 0
EmitsNoEnd denotations step = (open_calls comp number : ℕ) (args : List Value) (s : State) → has_no_end s.trace ≡ true →
    has_no_end (last (call_own denotations (within step open_calls) comp number args s)).trace ≡ true

-- so it is of these denotations, and where some compartments perform
pub record KeepsDepths (denotations : Denotations) : Type 0 where
  pub emitted : (globals : Memory) (inputs : List ℕ) (turns : ℕ) →
      ChangesAreWithin (denotations_run denotations globals inputs turns)
  pub scripted_emitted : (globals : Memory) (inputs : List ℕ) (turns : ℕ) (roles : Roles) →
      ChangesAreWithin (roles_run denotations globals inputs turns roles)
  pub attained : (globals : Memory) (inputs : List ℕ) (turns : ℕ) →
      DepthsAreAttained (denotations_run denotations globals inputs turns)
  pub scripted_attained : (globals : Memory) (inputs : List ℕ) (turns : ℕ) (roles : Roles) →
      DepthsAreAttained (roles_run denotations globals inputs turns roles)
  pub returns : LeavesDepths denotations (run_step denotations)
  pub scripted_returns : (roles : Roles) →
      LeavesDepths denotations (scripted_step denotations roles (run_step denotations))
  pub no_end : EmitsNoEnd denotations (run_step denotations)
  pub scripted_no_end : (roles : Roles) →
      EmitsNoEnd denotations (scripted_step denotations roles (run_step denotations))

pub record DepthsAreKept : Type 0 where
  pub any_denotations : (denotations : Denotations) → Obedient denotations → KeepsDepths denotations
  pub programs : (arith : Arith) (program : ProgramTree) → KeepsDepths (denotations_of arith program)
