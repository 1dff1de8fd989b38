-- The names from below that several definitions of this crate cite, passed on from one place. Declares nothing.
pub use Rattle.sc_base.specs.Prelude.{Text, all_hold, first_by_name, most_compartments, most_exports, numbered}
pub use Rattle.sc_base.specs.Prelude.{with_first}
pub use Rattle.sc_ast.specs.Prelude.{head_of}
pub use Rattle.sc_ast.specs.declared.section.Decl.{Decl}
pub use Rattle.sc_ast.specs.declared.section.Decl.TheVariants.{Function, Proto}
pub use Rattle.sc_ast.specs.declared.section.ExportLine.{ExportLine}
pub use Rattle.sc_ast.specs.declared.section.HeadTree.{HeadTree}
pub use Rattle.sc_ast.specs.declared.section.ImportLine.{ImportLine}
pub use Rattle.sc_ast.specs.declared.section.SectionTree.{SectionTree}
pub use Rattle.sc_types_scope.specs.Prelude.{among, defines_main, environment, export_names, function_in}
pub use Rattle.sc_types_scope.specs.Prelude.{function_names, function_decls, head_in, heads_in, import_names}
pub use Rattle.sc_types_scope.specs.Prelude.{is_environment, is_new, line_of_text, main_name, number_or_zero, offering}
pub use Rattle.sc_types_scope.specs.Prelude.{proto_names, scalar_of, unless}
pub use Rattle.sc_types_interfaces.specs.declared.tables.SectionTable.{SectionTable}
