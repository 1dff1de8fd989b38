-- The names from below that several definitions of this crate cite, passed on from one place. Declares nothing.
pub use Rattle.sc_event.specs.declared.event.Event.{Event}
pub use Rattle.sc_event.specs.declared.event.Event.TheVariants.{Call, Ret}
pub use Rattle.sc_core.specs.Prelude.{Acts, Block, Body, Break, Calls, Continue, Denotations, Exit, Function, Left}
pub use Rattle.sc_core.specs.Prelude.{Memory, Next, Piece, Reached, Return, Run, State, Stopped, Ways, and_then}
pub use Rattle.sc_core.specs.Prelude.{back_cross, back_own, block_does, blocks_for, body_does, c_arith, calls, cell_of}
pub use Rattle.sc_core.specs.Prelude.{closed, crossing, denotations_of, done, emit_event, entry_in, follow, function}
pub use Rattle.sc_core.specs.Prelude.{function_of, in_loop, in_order, leave, loop, main_name, option_value, part_does}
pub use Rattle.sc_core.specs.Prelude.{run_step, run_to, stmt_does, stopped_at, store_result, test, variable, variables}
pub use Rattle.sc_core.specs.Prelude.{ways, with_blocks, within, word_in}
pub use Rattle.sc_core.specs.declared.program.ProgramTree.{ProgramTree}
pub use Rattle.sc_core.specs.declared.run.RunEnd.{RunEnd}
pub use Rattle.sc_core.specs.declared.stmt.TypedStmt.{TypedStmt}
pub use Rattle.sc_core.specs.declared.value.Cell.TheVariants.{Null, Ptr, Undef, Word}
pub use Rattle.sc_core.specs.declared.value.Value.{Value}
pub use Rattle.sc_blocks.specs.Rows.{cleared, given_back, memory_of}
pub use Rattle.sc_run_value.specs.Prelude.{here_of}
pub use Rattle.sc_run.specs.declared.work.Callee.{Callee}
pub use Rattle.sc_run.specs.declared.work.Frame.{Frame}
pub use Rattle.sc_run.specs.declared.work.Loop.{Loop}
