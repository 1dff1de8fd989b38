-- What this crate's contracts, its proofs and the crates above cite, passed on from one place. Declares nothing.
pub use Rattle.sc_base.specs.Prelude.{number_by_name}
unfoldable pub use Rattle.sc_base.specs.Prelude.{is_name}
pub use Rattle.sc_event.specs.declared.interface.Proto.{Proto}
pub use Rattle.sc_core.specs.Prelude.{IsWellTyped, entry_in, global_fits, main_name, place_named, structs_fit, total}
pub use Rattle.sc_core.specs.declared.section.TypedFunction.{TypedFunction}
pub use Rattle.rv_code.specs.Prelude.{IsInstr, IsJumpOffset}
unfoldable pub use Rattle.rv_code.specs.Prelude.{word_of}
pub use Rattle.sc_tac.specs.declared.machine_code.CodeTree.{CodeTree}
pub use Rattle.sc_linker.specs.Image.{cell_word, comp_code, comp_part, comp_parts, entry_jump, entry_jumps}
pub use Rattle.sc_linker.specs.Image.{export_parts, function_address, global_words, import_part, linked_codes}
pub use Rattle.sc_linker.specs.Image.{linked_image, linked_part, section_code, use_heap}
pub use Rattle.sc_linker.specs.Interfaces.{HasInterface, HasInterfaces, HasProto}
pub use Rattle.sc_linker.specs.Laws.{AreNamed, EntriesStand, FunctionsStand, GlobalsAreWords, GlobalsStand}
pub use Rattle.sc_linker.specs.Laws.{ImportsStand, IsStart, IsWhole, LinkedImagesHold, StandFrom, StandsAt}
pub use Rattle.sc_linker.specs.Layout.{addresses_at, cells, codes_at, codes_in, entry_address, exports_at, exports_in}
pub use Rattle.sc_linker.specs.Layout.{instructions, section_addresses, section_at, section_or_none}
pub use Rattle.sc_linker.specs.Linkable.{IsLinkable, RefersInside}
pub use Rattle.sc_linker.specs.Sections.{AreKnown, CanBeLinked, Fits, IsCodeAddress, IsKnown, IsNamed, addresses_of}
pub use Rattle.sc_linker.specs.Sections.{code_sizes, global_sizes, initial_words, is_known}
pub use Rattle.sc_linker.specs.Sections.{section_layout, starts, with_jump, with_upper}
