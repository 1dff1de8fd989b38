-- What this crate's contracts, its proofs and the crates above cite, passed on from one place. Declares nothing.
pub use Rattle.sc_base.specs.Prelude.{Text}
pub use Rattle.sc_ast.specs.declared.section.FunctionParam.{FunctionParam}
pub use Rattle.sc_types_scope.specs.Broken.{earlier, line_of_text, noted, refused_at, unless, with_lines}
unfoldable pub use Rattle.sc_types_scope.specs.Broken.{noted_all}
pub use Rattle.sc_types_scope.specs.Declarations.{among, are_distinct, export_names, function_in, function_names}
pub use Rattle.sc_types_scope.specs.Declarations.{function_decls, global_in, global_names, globals_in, head_in}
pub use Rattle.sc_types_scope.specs.Declarations.{heads_in}
pub use Rattle.sc_types_scope.specs.Declarations.{import_names, is_new, proto_names, protos_in, struct_in, struct_names}
pub use Rattle.sc_types_scope.specs.Declarations.{structs_in}
pub use Rattle.sc_types_scope.specs.Interfaces.{base_scalar, defines_main, environment, function_named, import_of}
pub use Rattle.sc_types_scope.specs.Interfaces.{interface_of, interfaces_from, interfaces_of, is_environment, main_from}
pub use Rattle.sc_types_scope.specs.Interfaces.{main_name, number_or_zero, offered, offering, offers, promised}
pub use Rattle.sc_types_scope.specs.Interfaces.{proto_of, scalar_of}
pub use Rattle.sc_types_scope.specs.Names.{Known, all_in, base_known, body_lines, call_known, decl_name_lines, declared}
pub use Rattle.sc_types_scope.specs.Names.{expr_known, function_name_lines, global_known, head_known, head_of_known}
pub use Rattle.sc_types_scope.specs.Names.{is_callable, known, known_in, knows, local_known, local_names, locals_from}
pub use Rattle.sc_types_scope.specs.Names.{malloc_known, member_known, member_names, name_lines_from, names_broken}
pub use Rattle.sc_types_scope.specs.Names.{option_knows, param_names, part_name_lines, pointed_known, proto_known}
pub use Rattle.sc_types_scope.specs.Names.{result_known, section_name_lines, simple_known, stmt_name_lines}
pub use Rattle.sc_types_scope.specs.Names.{struct_known, with_decl}
