-- What this crate's contracts, its proofs and the crates above cite, passed on from one place. Declares nothing.
pub use Rattle.sc_word.specs.Prelude.{add_word, word_of}
pub use Rattle.rv_code.specs.Prelude.{IsReg}
pub use Rattle.rv_code.specs.declared.instr.Instr.{Instr}
pub use Rattle.sc_store.specs.Prelude.{HasBytes, ByteMemory, load_of, with_bytes, zeros}
pub use Rattle.sc_image.specs.Prelude.{Goes, IsWellFormed, Outcome, MachineRun, MachineState, Traps, a0, arguments}
pub use Rattle.sc_image.specs.Prelude.{jump_outside, on_call, run}
pub use Rattle.sc_image.specs.Prelude.{code_in, comp_of_code, compares, op_result, continued, data_of, environment_call}
pub use Rattle.sc_image.specs.Prelude.{execute, entered_export, export_called, exported_by, extended, initial_globals}
pub use Rattle.sc_image.specs.Prelude.{a1, frees, has_heap, has_result, on_alloc, zone_address, zone_start}
pub use Rattle.sc_image.specs.Prelude.{imported_by, on_input, input_at, is_ended, jump, load, load_size, machine}
pub use Rattle.sc_image.specs.Prelude.{may_call_export}
pub use Rattle.sc_image.specs.Prelude.{may_input, may_output, most_globals, next, on_registers, on_output}
pub use Rattle.sc_image.specs.Prelude.{export_params}
pub use Rattle.sc_image.specs.Prelude.{refused, reg, on_return, saved_sp, shift_on_registers, stack_tops, start, step}
pub use Rattle.sc_image.specs.Prelude.{store, store_size, stretch, written}
unfoldable pub use Rattle.sc_image.specs.Prelude.{are_data, run_by, start_memory, stopped, word_at}
pub use Rattle.sc_image.specs.declared.parts.ImageParts.{ImageParts}
pub use Rattle.sc_machine.specs.Calls.{IsTaken}
pub use Rattle.sc_machine.specs.Hart.{CanRun, HasRoom, IsBacked, IsReady, IsSound, LeavesSound, StaysSound, active_in}
pub use Rattle.sc_machine.specs.Hart.{comp_in, outcome_of, running, state_in}
pub use Rattle.sc_registers.specs.Registers.{advanced, at, linked, written_at_next}
pub use Rattle.sc_machine.specs.Passing.{AreCallees, IsCallee, entered, resumed}
