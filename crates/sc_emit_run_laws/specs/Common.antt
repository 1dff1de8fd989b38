-- The names from below that several definitions of this crate cite, passed on from one place. Declares nothing.
pub use Rattle.sc_base.specs.Prelude.{IsPrefix}
pub use Rattle.sc_base.specs.declared.stop.TrapReason.TheVariants.{Owner}
pub use Rattle.sc_event.specs.Prelude.{export_at, imports, is_function, is_input, is_output, legal}
pub use Rattle.sc_event.specs.declared.event.Event.{Event}
pub use Rattle.sc_event.specs.declared.interface.Proto.{Proto}
pub use Rattle.sc_event.specs.declared.row.Entry.TheVariants.{Export, Main}
pub use Rattle.sc_core.specs.Prelude.{Body, Calls, FrameChange, Here, IsStop, Piece, Reached, Roles, Run, State}
pub use Rattle.sc_core.specs.Prelude.{Stopped, and_then, begun, calls, cells_at, crossing, depth_in, done, option_value}
pub use Rattle.sc_core.specs.Prelude.{run_step, scripted_step, stopped_at, within, wrapping}
pub use Rattle.sc_core.specs.declared.expr.CallTarget.TheVariants.{Cross, Input, Output, Own}
pub use Rattle.sc_core.specs.declared.run.RunEnd.TheVariants.{Blamed, Ended, EventsOut, TurnsOut}
pub use Rattle.sc_core.specs.declared.value.Value.{Value}
pub use Rattle.sc_core.specs.declared.value.Value.TheVariants.{Word}
pub use Rattle.sc_core_laws.specs.Prelude.{AgreesInDepth, AllBefore, AllFrom, RunsAgree, depth_after, has_no_end}
pub use Rattle.sc_image.specs.Prelude.{Crossing, Goes, IsWellFormed, IsWord, Traps, Walks, on_end, has_result, machine}
pub use Rattle.sc_image.specs.Prelude.{may_call_export, may_input, may_output, export_params, on_return, stack_size}
pub use Rattle.sc_image.specs.Prelude.{stack_top}
pub use Rattle.sc_image.specs.Prelude.{start, start_memory, step}
pub use Rattle.sc_image.specs.declared.parts.ImageParts.{ImageParts}
pub use Rattle.sc_tac.specs.Prelude.{IsFunction, IsProgram, code_denotations, code_function, code_globals, code_run}
pub use Rattle.sc_tac.specs.Prelude.{cross_call_fits, function_entered, own_call_fits, passes_words, scripted_code_run}
pub use Rattle.sc_tac.specs.declared.function.TacFnTree.{TacFnTree}
pub use Rattle.sc_tac.specs.declared.program.TacTree.{TacTree}
pub use Rattle.sc_emit_select.specs.Prelude.{Addresses, a0, linked, sp}
pub use Rattle.sc_emit_hart.specs.Prelude.{LacksRoom}
pub use Rattle.sc_emit_relation.specs.Prelude.{AreFloors, ArePassed, Begins, CallGives, CallStands, Emits}
pub use Rattle.sc_emit_relation.specs.Prelude.{FunctionGives, InCell, IsAddress, IsBase, Joint, Leads, Overflows}
pub use Rattle.sc_emit_relation.specs.Prelude.{Placed, Setting, Settled, Standpoint}
