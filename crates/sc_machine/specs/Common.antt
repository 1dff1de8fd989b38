-- The names from below that several definitions of this crate cite, passed on from one place. Declares nothing.
pub use Rattle.sc_store.specs.Prelude.{ByteMemory}
pub use Rattle.sc_image.specs.Prelude.{Crossing, Filled, Goes, IsWellFormed, Outcome, MachineRun, MachineState, Traps}
pub use Rattle.sc_image.specs.Prelude.{cleared_for_call, cleared_for_return, code_in, code_start, comp_of_code}
pub use Rattle.sc_image.specs.Prelude.{continued, data_start, data_with, entered_export, gate, initial_globals}
pub use Rattle.sc_image.specs.Prelude.{may_call_export}
pub use Rattle.sc_image.specs.Prelude.{most_globals, export_params, ra, run, sp, stack_size, start, start_memory}
pub use Rattle.sc_image.specs.Prelude.{stretch}
pub use Rattle.sc_image.specs.Prelude.{written}
pub use Rattle.sc_image.specs.declared.parts.ImageParts.{ImageParts}
