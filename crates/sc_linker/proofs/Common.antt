-- The names that several proofs of this crate cite, passed on from one place. Declares nothing.
pub use Rattle.std.proofs.Common.{All, AllPairs, Bool, IfSome, IsSome, IsSomeAnd, IsTrue, List, None, Option, Some, []}
pub use Rattle.std.proofs.Common.{add-one, ap, append-nil, append_assoc, ap₂, arith, bytes_eq, codes, cond, drop}
pub use Rattle.std.proofs.Common.{eq-eqb, eqb-true, false, flat_map, get_or, if◌then◌else◌, inl, inr}
pub use Rattle.std.proofs.Common.{is_some, le-leb, leb-true, length, length-append, length-drop, length-take}
pub use Rattle.std.proofs.Common.{length-take-le, lit<, ltb-false, ltb-true, map, nat_eq, nat_le, nat_lt, ne_eqb}
pub use Rattle.std.proofs.Common.{negsuc, not, option_and_then, option_map, pos, position, refl, replicate, rules}
pub use Rattle.std.proofs.Common.{slice_get, slice_index, slice_index_or, subst, suc, sym, take, take-append-drop}
pub use Rattle.std.proofs.Common.{take_all, true, zero, ℕ, ℤ, ⊎_elim, ◌%◌, ◌&&◌, ◌*◌, ◌++◌, ◌+◌, ◌-ℤ◌, ◌-◌, ◌/◌, ◌<◌}
pub use Rattle.std.proofs.Common.{◌==◌, ◌^◌, ◌||◌, ◌∙◌, ◌∷◌, ◌≡◌, ◌≢◌, ◌≤◌, ◌⊎◌}
pub use Rattle.byteorder.specs.Endian.{little_bytes}
pub use Rattle.std.proofs.lemmas.Bool.{cases_lt, false≢true, not-true, or_left, or_parts, or_right}
pub use Rattle.std.proofs.lemmas.Grind.{common_steps}
pub use Rattle.std.proofs.lemmas.List.{get_or_append_left, length-map, length_push, map-append}
pub use Rattle.std.proofs.lemmas.List.{replicate-append-replicate, take-map}
pub use Rattle.std.proofs.lemmas.List.Elements.{All-append, All-cons, All-drop, All-head, All-map, All-nil, All-tail}
pub use Rattle.std.proofs.lemmas.List.Elements.{All-take, All-weaker}
pub use Rattle.std.proofs.lemmas.Option.{get_or_from_slice_get, same_Some, slice_get-get_or, slice_get-map}
pub use Rattle.std.proofs.lemmas.Option.{slice_get_read, slice_get_within}
pub use Rattle.std.specs.List.{list_all, list_any}
pub use Rattle.std.specs.Option.{option_map_or}
pub use Rattle.sc_base.proofs.Bools.{and_first, and_rest}
pub use Rattle.sc_base.proofs.Lists.{drop-step, get_after, list_all_along, position-cons, take-step}
pub use Rattle.sc_base.proofs.Texts.{bytes_eq_self, same_either_way}
pub use Rattle.sc_base.specs.Prelude.{is_name, number_by_name}
pub use Rattle.sc_event.specs.Prelude.{comp_at, export_at, imports, is_function, is_input, is_output}
pub use Rattle.sc_event.specs.declared.interface.Import.{Import}
pub use Rattle.sc_event.specs.declared.interface.Interfaces.{Interfaces}
pub use Rattle.sc_core.specs.Prelude.{Block, IsWellTyped, are_distinct, base_cells, base_within, base_zeros}
pub use Rattle.sc_core.specs.Prelude.{callable_in, callable_names, cells_at, cells_of, entry_in, export_fits}
pub use Rattle.sc_core.specs.Prelude.{export_names, first_blocks, function_fits, global_block, global_fits, globals_of}
pub use Rattle.sc_core.specs.Prelude.{has_distinct_names, has_few_compartments, has_fitting_sections, has_main}
pub use Rattle.sc_core.specs.Prelude.{import_fits, import_name, interface_fits, is_main, is_plain_name, live_cells}
pub use Rattle.sc_core.specs.Prelude.{main_fits, main_name, member_zeros, members_fit, most_compartments, most_exports}
pub use Rattle.sc_core.specs.Prelude.{most_params, place_named, place_of_export, proto_signature, repeated}
pub use Rattle.sc_core.specs.Prelude.{same_signature, same_types, scalar_ty, section_fits, sections_fit, signature_of}
pub use Rattle.sc_core.specs.Prelude.{starred_cells, starred_within, starred_zeros, struct_cells, struct_fits}
pub use Rattle.sc_core.specs.Prelude.{struct_zeros, structs_fit, total, type_within, variable_fits, with_words}
pub use Rattle.sc_core.specs.Prelude.{words_fit, zeros_of}
pub use Rattle.sc_core.specs.declared.section.TypedMember.{TypedMember}
pub use Rattle.sc_core.specs.declared.ty.BaseTy.{BaseTy}
pub use Rattle.sc_core.specs.declared.ty.Ty.{Ty}
pub use Rattle.sc_core_kind_laws.proofs.Sections.{all_at, any_along, first_of, found_passes, main_so, sections_so}
pub use Rattle.rv_code.proofs.OneEach.{HasWord-own, decoded-word_of, word-below}
pub use Rattle.rv_code.specs.Prelude.{IsImmediate, IsInstr, IsJumpOffset, IsUpper, word_of}
pub use Rattle.sc_store.specs.Prelude.{load_of}
pub use Rattle.sc_image.specs.Prelude.{IsByte, IsComp, IsDistinct, IsEntry, IsExport, IsImport, IsWellFormed, IsWord}
pub use Rattle.sc_image.specs.Prelude.{code_in, code_start, export_params, exported_by, has_heap, has_result}
pub use Rattle.sc_image.specs.Prelude.{may_call_export, may_input, may_output, most_globals, stack_top, start_memory}
pub use Rattle.sc_image.specs.Prelude.{stretch}
unfoldable pub use Rattle.sc_image.specs.Prelude.{word_at}
pub use Rattle.sc_image.specs.declared.parts.CompPart.{CompPart}
pub use Rattle.sc_image.specs.declared.parts.ExportPart.{ExportPart}
pub use Rattle.sc_image.specs.Prelude.{ImportPart}
pub use Rattle.sc_tac.specs.declared.machine_code.Relocation.{Relocation}
pub use Rattle.sc_tac.specs.declared.machine_code.Target.{Target}
pub use Rattle.sc_tac.specs.declared.machine_code.Target.TheVariants.{Entry, Function, Global}
pub use Rattle.sc_emit_select.specs.Prelude.{Addresses, is_named, linked, linked_from, low_of_target, lower_part}
pub use Rattle.sc_emit_select.specs.Prelude.{relocations_after, target_at, upper_part, with_low, with_target}
pub use Rattle.sc_linker.specs.Common.{Cell, Export, ImageParts, Instr, Interface, Jal, Main, ProgramTree, TypedGlobal}
pub use Rattle.sc_linker.specs.Common.{TypedSection, TypedStruct, Upper}
pub use Rattle.sc_linker.specs.Prelude.{AreKnown, AreNamed, CanBeLinked, CodeTree, EntriesStand, Fits, FunctionsStand}
pub use Rattle.sc_linker.specs.Prelude.{GlobalsAreWords, GlobalsStand, ImportsStand, IsCodeAddress, IsKnown, IsLinkable}
pub use Rattle.sc_linker.specs.Prelude.{IsNamed, IsStart, IsWhole, LinkedImagesHold, Proto, RefersInside, StandFrom}
pub use Rattle.sc_linker.specs.Prelude.{StandsAt, TypedFunction, addresses_at, addresses_of, cell_word, cells}
pub use Rattle.sc_linker.specs.Prelude.{code_sizes, codes_at, codes_in, comp_code, comp_part, comp_parts, entry_address}
pub use Rattle.sc_linker.specs.Prelude.{entry_jump, entry_jumps, export_parts, exports_at, exports_in, function_address}
pub use Rattle.sc_linker.specs.Prelude.{global_sizes, global_words, import_part, initial_words, instructions, is_known}
pub use Rattle.sc_linker.specs.Prelude.{linked_codes, linked_image, section_addresses, section_at, section_code}
pub use Rattle.sc_linker.specs.Prelude.{section_layout, section_or_none, starts, use_heap}
pub use Rattle.sc_linker.specs.declared.layout.SectionLayout.{SectionLayout}
