-- The names from below that several definitions of this crate cite, passed on from one place. Declares nothing.
pub use Rattle.sc_base.specs.Prelude.{is_name}
pub use Rattle.sc_event.specs.Prelude.{comp_at, export_at, imports, is_function, is_input, is_output}
pub use Rattle.sc_event.specs.declared.interface.Interface.{Interface}
pub use Rattle.sc_event.specs.declared.interface.Proto.{Proto}
pub use Rattle.sc_event.specs.declared.row.Entry.TheVariants.{Export, Main}
pub use Rattle.sc_core.specs.Prelude.{IsWellTyped, cells_at, cells_of, entry_in, first_blocks, globals_of, place_named}
pub use Rattle.sc_core.specs.Prelude.{total}
pub use Rattle.sc_core.specs.declared.program.ProgramTree.{ProgramTree}
pub use Rattle.sc_core.specs.declared.section.TypedGlobal.{TypedGlobal}
pub use Rattle.sc_core.specs.declared.section.TypedSection.{TypedSection}
pub use Rattle.sc_core.specs.declared.section.TypedStruct.{TypedStruct}
pub use Rattle.sc_core.specs.declared.value.Cell.{Cell}
pub use Rattle.rv_code.specs.Prelude.{IsInstr, decoded, word_of}
pub use Rattle.rv_code.specs.declared.instr.Instr.{Instr}
pub use Rattle.rv_code.specs.declared.instr.Instr.TheVariants.{Jal, Upper}
pub use Rattle.sc_image.specs.Prelude.{IsWellFormed, code_start, export_params, has_heap, has_result, may_call_export}
pub use Rattle.sc_image.specs.Prelude.{may_input, may_output, most_globals, stack_top, start_memory, stretch, word_at}
pub use Rattle.sc_image.specs.declared.parts.ImageParts.{ImageParts}
pub use Rattle.sc_tac.specs.declared.machine_code.CodeTree.{CodeTree}
pub use Rattle.sc_emit_select.specs.Prelude.{Addresses, is_named, linked, refers_only, upper_part}
