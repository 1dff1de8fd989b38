-- The names from below that several definitions of this crate cite, passed on from one place. Declares nothing.
pub use Rattle.sc_base.specs.Prelude.{Text, most_compartments, most_exports, most_height}
pub use Rattle.sc_lex.specs.Prelude.{IsSplit}
pub use Rattle.sc_lex.specs.declared.section.Section.{Section}
pub use Rattle.sc_ast.specs.declared.section.FunctionTree.{FunctionTree}
pub use Rattle.sc_ast.specs.declared.section.LocalTree.{LocalTree}
pub use Rattle.sc_ast.specs.declared.section.SectionTree.{SectionTree}
pub use Rattle.sc_types_scope.specs.Prelude.{function_decls, globals_in, heads_in, line_of_text, names_broken}
pub use Rattle.sc_types_scope.specs.Prelude.{refused_at}
pub use Rattle.sc_types_scope.specs.Prelude.{struct_names, structs_in, unless}
pub use Rattle.sc_core.specs.Prelude.{cells_of, most_cells, most_nodes, most_params, nodes, total}
pub use Rattle.sc_core.specs.declared.program.ProgramTree.{ProgramTree}
pub use Rattle.sc_types_elab.specs.Prelude.{callees_of, program_of, structs, type_of, type_of_name, typed_section}
pub use Rattle.sc_types_elab.specs.Prelude.{types_broken}
