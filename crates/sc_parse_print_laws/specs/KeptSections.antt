-- Helping: what the names of sections keep.
use Rattle.sc_parse_print_laws.specs.Common.{SectionTree, is_name}
use Rattle.std.specs.Prelude.{Bool, ◌&&◌}
use Rattle.std.specs.List.{list_all}
use Rattle.sc_ast.specs.declared.section.ExportLine.{ExportLine}
use Rattle.sc_ast.specs.declared.section.ImportLine.{ImportLine}
use Rattle.sc_parse_print_laws.specs.KeptDecls.{is_kept_decl}

abbrev pub kept_export : ExportLine → Bool
kept_export line = is_name line.name

abbrev pub kept_import : ImportLine → Bool
kept_import line = is_name line.comp && is_name line.name

abbrev pub kept_section : SectionTree → Bool
kept_section tree = is_name tree.name && (list_all kept_export tree.exports &&
    (list_all kept_import tree.imports && list_all is_kept_decl tree.decls))
