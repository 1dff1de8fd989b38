-- The names from below that several definitions of this crate cite, passed on from one place. Declares nothing.
pub use Rattle.sc_base.specs.Prelude.{IsPrefix}
pub use Rattle.sc_event.specs.Prelude.{is_end, legal, takes}
pub use Rattle.sc_event.specs.declared.event.Event.{Event}
pub use Rattle.sc_event.specs.declared.row.Entry.{Entry}
pub use Rattle.sc_core.specs.Prelude.{Arith, Blocks, Body, Calls, Closed, Denotations, FrameChange, Function, Here}
pub use Rattle.sc_core.specs.Prelude.{IsStop, Memory, Opened, Piece, Reached, Roles, Run, State, Step, Stopped}
pub use Rattle.sc_core.specs.Prelude.{and_then, c_arith, call_own, deepest, denotations_of, depth_in, first_state}
pub use Rattle.sc_core.specs.Prelude.{found, function, leads, meaning, meaning_by, roles_in, run_by, run_of, run_step}
pub use Rattle.sc_core.specs.Prelude.{scripted_by, scripted_meaning, scripted_run_of, scripted_step, scripted_wrapped}
pub use Rattle.sc_core.specs.Prelude.{stopped_at, turn, with_memory, within, wrapped, wrapping}
pub use Rattle.sc_core.specs.declared.cause.Cause.{Cause}
pub use Rattle.sc_core.specs.declared.expr.CallTarget.{CallTarget}
pub use Rattle.sc_core.specs.declared.program.ProgramTree.{ProgramTree}
pub use Rattle.sc_core.specs.declared.run.RunEnd.{RunEnd}
pub use Rattle.sc_core.specs.declared.run.RunEnd.TheVariants.{Blamed, Ended, EventsOut, TurnsOut}
pub use Rattle.sc_core.specs.declared.run.SourceRun.{SourceRun}
pub use Rattle.sc_core.specs.declared.value.Value.{Value}
