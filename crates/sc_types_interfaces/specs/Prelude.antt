-- What this crate's contracts, its proofs and the crates above cite, passed on from one place. Declares nothing.
pub use Rattle.sc_base.specs.Prelude.{first_by_name}
pub use Rattle.sc_types_scope.specs.Prelude.{among, environment, function_names, head_in, heads_in, interfaces_of}
pub use Rattle.sc_types_scope.specs.Prelude.{line_of_text, main_name, proto_names, refused_at, scalar_of, unless}
pub use Rattle.sc_types_scope.specs.Prelude.{with_lines}
unfoldable pub use Rattle.sc_types_scope.specs.Prelude.{noted_all}
pub use Rattle.sc_types_interfaces.specs.Offering.{HasFewExports, HasFewParams, IsWithinCounts, Placed, all_placed}
pub use Rattle.sc_types_interfaces.specs.Offering.{export_by, export_name, export_places, function_at, function_name}
pub use Rattle.sc_types_interfaces.specs.Offering.{function_places, import_by, interface_by, interfaces_by, main_by}
pub use Rattle.sc_types_interfaces.specs.Offering.{offered_by, option_placed, promised_by}
pub use Rattle.sc_types_interfaces.specs.Rules.{agree, agrees_as, agrees_there, agrees_with, crosses}
pub use Rattle.sc_types_interfaces.specs.Rules.{decl_interface_lines}
pub use Rattle.sc_types_interfaces.specs.Rules.{decls_from, environment_offers, export_fits, export_holds, exports_from}
pub use Rattle.sc_types_interfaces.specs.Rules.{gives_int, head_crosses, head_fits, head_holds, import_fits}
pub use Rattle.sc_types_interfaces.specs.Rules.{import_holds, imported_agrees, imports_from, input_name, int_type}
pub use Rattle.sc_types_interfaces.specs.Rules.{interface_broken, is_input_head, is_int_type, is_main_head, is_offered}
pub use Rattle.sc_types_interfaces.specs.Rules.{is_output_head}
pub use Rattle.sc_types_interfaces.specs.Rules.{is_plain, interface_lines_from, main_holds, name_fits, name_holds}
pub use Rattle.sc_types_interfaces.specs.Rules.{output_name}
pub use Rattle.sc_types_interfaces.specs.Rules.{result_crosses, same_named_base, same_params, same_result, same_type}
pub use Rattle.sc_types_interfaces.specs.Rules.{section_interface_lines, takes_int, takes_nothing}
pub use Rattle.sc_types_interfaces.specs.Tables.{added, added_beside, agrees_first, all_added, all_numbered, allowed}
pub use Rattle.sc_types_interfaces.specs.Tables.{decl_broken, decls_broken, environment_added, exports_broken}
pub use Rattle.sc_types_interfaces.specs.Tables.{first_added, forbidden, head_added, head_fits_by, import_added}
pub use Rattle.sc_types_interfaces.specs.Tables.{imported_by, imports_added, imports_broken, input_head, is_offered_by}
pub use Rattle.sc_types_interfaces.specs.Tables.{lines_broken, no_heads, offering_number, offering_table, others_added}
pub use Rattle.sc_types_interfaces.specs.Tables.{output_head, section_broken, table_of}
