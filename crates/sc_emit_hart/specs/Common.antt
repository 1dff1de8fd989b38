-- The names from below that several definitions of this crate cite, passed on from one place. Declares nothing.
pub use Rattle.rv_code.specs.Prelude.{IsInstr, decoded, word_of}
pub use Rattle.rv_code.specs.declared.instr.Instr.{Instr}
pub use Rattle.sc_store.specs.Prelude.{ByteMemory, load_of, with_bytes}
pub use Rattle.sc_image.specs.Prelude.{Crossing, MachineState, Traps, Walks, code_in, code_start, data_end, data_start}
pub use Rattle.sc_image.specs.Prelude.{reg, stack_top, step, word_at}
unfoldable pub use Rattle.sc_image.specs.Prelude.{are_data}
pub use Rattle.sc_image.specs.declared.parts.ImageParts.{ImageParts}
pub use Rattle.sc_emit_select.specs.Prelude.{address_scratch, bytes_of, first_scratch, frame_taken, moved_by, ra}
pub use Rattle.sc_emit_select.specs.Prelude.{second_scratch, sp}
