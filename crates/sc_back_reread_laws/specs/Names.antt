-- Helping: names in trees that were read are identifiers.
use Rattle.sc_back_reread_laws.specs.Common.{Reads, SectionTree, is_ident}
use Rattle.sc_base.specs.Prelude.{is_name}
use Rattle.sc_types_scope.specs.Prelude.{function_names, heads_in}
use Rattle.std.specs.Prelude.{ℕ, IsTrue, List, All}
use Rattle.sc_ast.specs.declared.section.ExportLine.{ExportLine}
use Rattle.sc_ast.specs.declared.section.HeadTree.{HeadTree}
use Rattle.sc_ast.specs.declared.section.ImportLine.{ImportLine}

abbrev pub IsNamedExport : ExportLine → Type 0
IsNamedExport line = IsTrue (is_name line.name)

pub record IsNamedImport (line : ImportLine) : Type 0 where
  pub comp : IsTrue (is_name line.comp)
  pub name : IsTrue (is_name line.name)

abbrev pub IsIdentifier : List ℕ → Type 0
IsIdentifier name = IsTrue (is_ident name)

abbrev pub IsNamedHead : HeadTree → Type 0
IsNamedHead head = IsIdentifier head.name

-- the section and its directives have names of at most 63 bytes, and its functions have identifiers
pub record IsNamedSection (tree : SectionTree) : Type 0 where
  pub name : IsTrue (is_name tree.name)
  pub exports : All IsNamedExport tree.exports
  pub imports : All IsNamedImport tree.imports
  pub heads : All IsNamedHead (heads_in tree.decls)
  pub functions : All IsIdentifier (function_names tree.decls)

abbrev pub NamesAreIdentifiers : Type 0
NamesAreIdentifiers = (text : List ℕ) (trees : List SectionTree) → Reads text trees → All IsNamedSection trees
