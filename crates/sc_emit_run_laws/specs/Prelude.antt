-- What this crate's contracts, its proofs and the crates above cite, passed on from one place. Declares nothing.
pub use Rattle.sc_emit_run_laws.specs.Bodies.{BodiesFollow, Departs, HasEmitted, IsRun, IsUnknown, PerformersDo}
pub use Rattle.sc_emit_run_laws.specs.Bodies.{PerformersFollow, UnknownComes, UnknownGives, calls_of, departing}
pub use Rattle.sc_emit_run_laws.specs.Bodies.{entered_by, ran}
pub use Rattle.sc_emit_run_laws.specs.Given.{StandsButFor}
pub use Rattle.sc_emit_run_laws.specs.Linked.{EntersBy, GlobalStands, HasCode, IsLinked, functions_in}
pub use Rattle.sc_emit_run_laws.specs.Linked.{functions_or_none, gives, gives_result, makes, promises_result, setting}
pub use Rattle.sc_emit_run_laws.specs.Moments.{ExceedsStack, Moment}
pub use Rattle.sc_emit_run_laws.specs.Outcomes.{Finishes, IsFull, Outcome, Reaches, Stands, finishes, is_full, stands}
pub use Rattle.sc_emit_run_laws.specs.Results.{GivesResults, bodies}
pub use Rattle.sc_emit_run_laws.specs.Runs.{IsBlamed, IsBlamedWithin, IsTrap, KeepsTo, OutcomesSimulate}
pub use Rattle.sc_emit_run_laws.specs.Runs.{SimulatesRun, StackIsFull}
pub use Rattle.sc_emit_run_laws.specs.Simulation.{HasOutcome, IsBuilt, ScriptsSimulate, ScriptsStop, Simulates}
pub use Rattle.sc_emit_run_laws.specs.Simulation.{nobody}
