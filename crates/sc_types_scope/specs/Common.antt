-- The names from below that several definitions of this crate cite, passed on from one place. Declares nothing.
pub use Rattle.sc_base.specs.Prelude.{Text, all_hold, is_numbered, number_by_name}
pub use Rattle.sc_ast.specs.Prelude.{head_of}
pub use Rattle.sc_ast.specs.declared.section.Decl.{Decl}
pub use Rattle.sc_ast.specs.declared.section.Decl.TheVariants.{Function, Global, Proto, Struct}
pub use Rattle.sc_ast.specs.declared.section.ExportLine.{ExportLine}
pub use Rattle.sc_ast.specs.declared.section.FunctionTree.{FunctionTree}
pub use Rattle.sc_ast.specs.declared.section.GlobalTree.{GlobalTree}
pub use Rattle.sc_ast.specs.declared.section.HeadTree.{HeadTree}
pub use Rattle.sc_ast.specs.declared.section.ImportLine.{ImportLine}
pub use Rattle.sc_ast.specs.declared.section.ParamTree.{ParamTree}
pub use Rattle.sc_ast.specs.declared.section.SectionTree.{SectionTree}
pub use Rattle.sc_ast.specs.declared.section.StructTree.{StructTree}
pub use Rattle.sc_ast.specs.declared.types.BaseTree.{BaseTree}
pub use Rattle.sc_ast.specs.declared.types.TypeName.{TypeName}
