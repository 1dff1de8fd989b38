-- The names from below that several definitions of this crate cite, passed on from one place. Declares nothing.
pub use Rattle.sc_base.specs.Prelude.{loosest_level, unary_level}
pub use Rattle.sc_base.specs.declared.op.BinaryOp.{BinaryOp}
pub use Rattle.sc_ast.specs.Prelude.{Number, array_length, head_of, is_place, malloc_argument, stmt_kind_of, non_empty}
pub use Rattle.sc_ast.specs.Prelude.{section_height}
pub use Rattle.sc_ast.specs.declared.expr.CallTree.{CallTree}
pub use Rattle.sc_ast.specs.declared.expr.ExprTree.{ExprTree}
pub use Rattle.sc_ast.specs.declared.section.ConstTree.{ConstTree}
pub use Rattle.sc_ast.specs.declared.section.Decl.{Decl}
pub use Rattle.sc_ast.specs.declared.section.ExportLine.{ExportLine}
pub use Rattle.sc_ast.specs.declared.section.FunctionHead.{FunctionHead}
pub use Rattle.sc_ast.specs.declared.section.FunctionTree.{FunctionTree}
pub use Rattle.sc_ast.specs.declared.section.HeadTree.{HeadTree}
pub use Rattle.sc_ast.specs.declared.section.ImportLine.{ImportLine}
pub use Rattle.sc_ast.specs.declared.section.InitTree.{InitTree}
pub use Rattle.sc_ast.specs.declared.section.LocalTree.{LocalTree}
pub use Rattle.sc_ast.specs.declared.section.MemberTree.{MemberTree}
pub use Rattle.sc_ast.specs.declared.section.ParamTree.{ParamTree}
pub use Rattle.sc_ast.specs.declared.section.SectionTree.{SectionTree}
pub use Rattle.sc_ast.specs.declared.section.StructTree.{StructTree}
pub use Rattle.sc_ast.specs.declared.stmt.SimpleKind.{SimpleKind}
pub use Rattle.sc_ast.specs.declared.stmt.SimpleTree.{SimpleTree}
pub use Rattle.sc_ast.specs.declared.stmt.StmtKind.{StmtKind}
pub use Rattle.sc_ast.specs.declared.stmt.StmtTree.{StmtTree}
pub use Rattle.sc_ast.specs.declared.types.BaseTree.{BaseTree}
pub use Rattle.sc_ast.specs.declared.types.TypeName.{TypeName}
pub use Rattle.sc_ast.specs.declared.types.TypeTree.{TypeTree}
pub use Rattle.sc_parse_expr.specs.Prelude.{IsIdent, IsMark, Spells, following, is_mark, lexeme_of, most_open, name_at}
pub use Rattle.sc_parse_expr.specs.Prelude.{name_by, read, ◌>>=◌}
pub use Rattle.sc_parse_expr.specs.declared.lexeme.Lexeme.{Lexeme}
pub use Rattle.sc_parse_expr.specs.declared.lexeme.Symbol.{Symbol}
pub use Rattle.sc_parse_expr.specs.declared.mark.Keyword.{Keyword}
pub use Rattle.sc_parse_expr.specs.declared.mark.Mark.{Mark}
pub use Rattle.sc_parse.specs.declared.types.Declarator.{Declarator}
