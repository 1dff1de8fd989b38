-- The names from below that several definitions of this crate cite, passed on from one place. Declares nothing.
pub use Rattle.sc_event.specs.declared.interface.Import.{Import}
pub use Rattle.sc_ast.specs.Prelude.{head_of, limited}
pub use Rattle.sc_ast.specs.declared.section.Decl.{Decl}
pub use Rattle.sc_ast.specs.declared.section.FunctionTree.{FunctionTree}
pub use Rattle.sc_ast.specs.declared.section.HeadTree.{HeadTree}
pub use Rattle.sc_ast.specs.declared.section.ImportLine.{ImportLine}
pub use Rattle.sc_ast.specs.declared.section.LocalTree.{LocalTree}
pub use Rattle.sc_ast.specs.declared.section.SectionTree.{SectionTree}
pub use Rattle.sc_ast.specs.declared.section.StructTree.{StructTree}
pub use Rattle.sc_types_scope.specs.Prelude.{function_named, function_names, function_decls, globals_in, heads_in}
pub use Rattle.sc_types_scope.specs.Prelude.{import_of, interfaces_of, line_of_text, struct_names}
pub use Rattle.sc_types_scope.specs.Prelude.{structs_in, unless}
pub use Rattle.sc_core.specs.Prelude.{Scope, Signature, cells_of, init_fits, starred}
pub use Rattle.sc_core.specs.declared.section.TypedLocal.{TypedLocal}
pub use Rattle.sc_types_elab_stmt.specs.Prelude.{stmt_type_lines, typed_stmt, value_in}
