-- The names that several proofs of this crate cite, passed on from one place. Declares nothing.
pub use Rattle.std.proofs.Common.{All, Bool, IfNone, List, None, Option, Some, [], ap, ap₂, arith, bytes_eq, cond, drop}
pub use Rattle.std.proofs.Common.{eqb-true, false, get_or, if◌then◌else◌, inr, is_some, length, length-take-le, map}
pub use Rattle.std.proofs.Common.{min, nat_eq, not, refl, slice_get, subst, suc, sym, take, true, ℕ, ◌&&◌, ◌++◌, ◌+◌}
pub use Rattle.std.proofs.Common.{◌<◌, ◌==◌, ◌||◌, ◌∙◌, ◌∷◌, ◌≡◌, ◌≤◌, ◌⊎◌}
pub use Rattle.std.proofs.Math.Bool.{and-false, and-true, or-false}
pub use Rattle.std.proofs.lemmas.Cmp.{nat_eq_equiv, nat_list_eq_equiv}
pub use Rattle.std.proofs.lemmas.List.{drop_all, length-map, map-append, take-map}
pub use Rattle.std.proofs.lemmas.List.Elements.{All-cons, All-get_or, All-head, All-nil, All-tail, filter_map-append}
pub use Rattle.std.proofs.lemmas.List.Folds.{list_all-append, list_any-append}
pub use Rattle.std.proofs.lemmas.Option.{get_or_from_slice_get, slice_get-map, slice_get_read, slice_get_within}
pub use Rattle.std.specs.Cmp.Lexicographic.{pointwise}
pub use Rattle.std.specs.List.{list_all, list_any}
pub use Rattle.std.specs.Option.{option_and_then, option_map}
pub use Rattle.sc_base.proofs.Lists.{drop-step, position-cons, take_all}
pub use Rattle.sc_base.proofs.Texts.{same_text}
pub use Rattle.sc_base.specs.Prelude.{Text, first_by_name, is_numbered, number_by_name, numbered, with_first}
pub use Rattle.sc_ast.specs.Prelude.{head_of, param_of}
pub use Rattle.sc_ast.specs.declared.section.FunctionParam.{FunctionParam}
pub use Rattle.sc_ast.specs.declared.section.ParamTree.{ParamTree}
pub use Rattle.sc_ast.specs.declared.types.TypeName.{TypeName}
pub use Rattle.sc_types_scope.proofs.Lines.{noted_all-append, with_lines-append, with_lines-nil}
pub use Rattle.sc_types_scope.specs.Prelude.{among, defines_main, export_names, function_in, function_named}
pub use Rattle.sc_types_scope.specs.Prelude.{function_names, function_decls, head_in, heads_in, import_names, import_of}
pub use Rattle.sc_types_scope.specs.Prelude.{interface_of, interfaces_from, interfaces_of, line_of_text, main_from}
pub use Rattle.sc_types_scope.specs.Prelude.{main_name, noted_all, number_or_zero, offered, offering, offers, promised}
pub use Rattle.sc_types_scope.specs.Prelude.{proto_names, proto_of, refused_at, scalar_of, unless, with_lines}
pub use Rattle.sc_types_interfaces.specs.Common.{Decl, ExportLine, Function, HeadTree, ImportLine, Proto, SectionTable}
pub use Rattle.sc_types_interfaces.specs.Common.{SectionTree}
pub use Rattle.sc_types_interfaces.specs.Prelude.{HasFewExports, HasFewParams, IsWithinCounts, Placed, added}
pub use Rattle.sc_types_interfaces.specs.Prelude.{added_beside, agree, agrees_first, agrees_with, all_added}
pub use Rattle.sc_types_interfaces.specs.Prelude.{all_numbered, all_placed, allowed, decl_broken, decls_broken}
pub use Rattle.sc_types_interfaces.specs.Prelude.{environment_added, export_by, export_fits, export_name, export_places}
pub use Rattle.sc_types_interfaces.specs.Prelude.{exports_broken, first_added, forbidden, function_at, function_name}
pub use Rattle.sc_types_interfaces.specs.Prelude.{function_places, gives_int, head_added, head_fits_by, import_added}
pub use Rattle.sc_types_interfaces.specs.Prelude.{import_by, import_fits, imported_by, imports_added, imports_broken}
pub use Rattle.sc_types_interfaces.specs.Prelude.{input_head, input_name, int_type, interface_by, interfaces_by}
pub use Rattle.sc_types_interfaces.specs.Prelude.{is_input_head, is_offered_by, is_output_head, lines_broken, main_by}
pub use Rattle.sc_types_interfaces.specs.Prelude.{no_heads}
pub use Rattle.sc_types_interfaces.specs.Prelude.{offered_by, offering_number, offering_table, others_added}
pub use Rattle.sc_types_interfaces.specs.Prelude.{output_head, output_name, promised_by, same_named_base, same_params}
pub use Rattle.sc_types_interfaces.specs.Prelude.{same_result, same_type, section_broken, table_of, takes_int}
pub use Rattle.sc_types_interfaces.specs.Prelude.{takes_nothing}
pub use Rattle.sc_types_interfaces.specs.declared.agreements.Agreements.{Agreements}
