-- What this crate's contracts, its proofs and the crates above cite, passed on from one place. Declares nothing.
pub use Rattle.sc_ast.specs.Prelude.{head_of, limited, param_of}
pub use Rattle.sc_ast.specs.declared.section.SectionTree.{SectionTree}
pub use Rattle.sc_types_scope.specs.Prelude.{function_decls, globals_in, heads_in, import_of, interfaces_of}
pub use Rattle.sc_types_scope.specs.Prelude.{line_of_text}
pub use Rattle.sc_types_scope.specs.Prelude.{refused_at, struct_names, structs_in, unless, with_lines}
unfoldable pub use Rattle.sc_types_scope.specs.Prelude.{noted_all}
pub use Rattle.sc_core.specs.Prelude.{Scope, cells_of}
pub use Rattle.sc_types_elab_expr.specs.Prelude.{Suits, base_of, called, member_names, names_of, type_of_name, visible}
pub use Rattle.sc_types_elab_stmt.specs.Prelude.{init_goes}
unfoldable pub use Rattle.sc_types_elab_stmt.specs.Prelude.{value_in}
pub use Rattle.sc_types_elab.specs.Called.{CallsIn, calling_heads, function_name, function_signature, head_name}
pub use Rattle.sc_types_elab.specs.Called.{import_line_name, struct_name}
pub use Rattle.sc_types_elab.specs.Sections.{called_head, callees_of, cells_from, decl_type_lines}
pub use Rattle.sc_types_elab.specs.Sections.{end_of_member}
pub use Rattle.sc_types_elab.specs.Sections.{function_type_lines, global_type_lines, global_variable, head_named}
pub use Rattle.sc_types_elab.specs.Sections.{import_named}
pub use Rattle.sc_types_elab.specs.Sections.{import_target, imported_target, init_holds, init_words, is_null, is_sized}
pub use Rattle.sc_types_elab.specs.Sections.{local_holds, local_variable, typed_locals_from, members_from, or_first}
pub use Rattle.sc_types_elab.specs.Sections.{param_ty}
pub use Rattle.sc_types_elab.specs.Sections.{program_of, result_of, scope_in, section_type_lines, sections_from}
pub use Rattle.sc_types_elab.specs.Sections.{signature_by, struct_lines, structs, tags, type_of}
pub use Rattle.sc_types_elab.specs.Sections.{type_with, typed_function, typed_global, typed_init, typed_local}
pub use Rattle.sc_types_elab.specs.Sections.{typed_param, typed_section, typed_struct, types_broken, visible_in}
pub use Rattle.sc_types_elab.specs.Sections.{visible_of, word_of_const}
unfoldable pub use Rattle.sc_types_elab.specs.Sections.{typed_locals, typed_structs}
pub use Rattle.sc_types_elab.specs.Stands.{Stands, StandsIn, local_in}
