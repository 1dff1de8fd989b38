-- The names from below that several definitions of this crate cite, passed on from one place. Declares nothing.
pub use Rattle.sc_store.specs.Prelude.{ByteMemory, byte_of, load_of}
pub use Rattle.sc_image.specs.Prelude.{Carrier, Crossing, Goes, IsWellFormed, MachineState, Outcome, OutcomeOf}
pub use Rattle.sc_image.specs.Prelude.{Protection}
pub use Rattle.sc_image.specs.Prelude.{RunOf, Traps, comp_of_code, comp_of_data, crossing_to, entered_export}
pub use Rattle.sc_image.specs.Prelude.{environment_call, export_params, gate, has_result, machine, may_call_export}
pub use Rattle.sc_image.specs.Prelude.{on_end, on_entry, on_return_to, ra, start}
unfoldable pub use Rattle.sc_image.specs.Prelude.{are_data, execute_by, run_by, start_memory, step_by, stopped, word_at}
pub use Rattle.sc_image.specs.declared.parts.ImageParts.{ImageParts}
pub use Rattle.sc_tags.specs.declared.tag.ByteTag.{ByteTag}
pub use Rattle.sc_tags.specs.declared.tag.ByteTag.TheVariants.{Code, Data, Unowned}
pub use Rattle.sc_tags.specs.declared.tag.TagRange.{TagRange}
