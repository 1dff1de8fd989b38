-- Runs of denotations, whatever their functions are written in.
use Rattle.sc_core_laws.specs.Common.{Denotations, Event, Memory, Roles, Run, SourceRun, roles_in, run_by, run_step}
use Rattle.sc_core_laws.specs.Common.{scripted_step, stopped_at}
use Rattle.std.specs.Prelude.{ℕ, Bool, List, length}

-- the globals of each compartment, the inputs, and the turns
module _ (denotations : Denotations) (globals : Memory) (inputs : List ℕ) (turns : ℕ) where
  abbrev pub denotations_run : Run
  denotations_run = run_by denotations (run_step denotations) globals inputs turns

  -- the run in which some compartments perform
  abbrev pub roles_run : Roles → Run
  roles_run roles = run_by denotations (scripted_step denotations roles (run_step denotations)) globals inputs turns

  -- the run in which a set performs its part of a trace, stopped where it has as many events as the trace
  abbrev pub performed_by : List Event → (ℕ → Bool) → SourceRun
  performed_by trace set = stopped_at (length trace)
      (roles_run (roles_in denotations.interfaces.main set trace)).behaviour
