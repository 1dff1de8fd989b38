-- Trees without their lines, which a text that is laid out anew doesn't keep.
use Rattle.std.specs.Prelude.{◌≡◌, List, map, Option, Some, None}
use Rattle.sc_ast.specs.declared.stmt.SimpleTree.{SimpleTree}
use Rattle.sc_ast.specs.declared.stmt.StmtTree.{StmtTree, StmtTree-F, fold-StmtTree}
use Rattle.sc_ast.specs.declared.stmt.StmtKind.{StmtKind, StmtKind-F, roll-StmtKind, fold-StmtKind}
use Rattle.sc_ast.specs.declared.stmt.StmtKind.TheOpen as layer
use Rattle.sc_ast.specs.declared.section.ExportLine.{ExportLine}
use Rattle.sc_ast.specs.declared.section.ImportLine.{ImportLine}
use Rattle.sc_ast.specs.declared.section.StructTree.{StructTree}
use Rattle.sc_ast.specs.declared.section.GlobalTree.{GlobalTree}
use Rattle.sc_ast.specs.declared.section.HeadTree.{HeadTree}
use Rattle.sc_ast.specs.declared.section.FunctionHead.{FunctionHead}
use Rattle.sc_ast.specs.declared.section.LocalTree.{LocalTree}
use Rattle.sc_ast.specs.declared.section.FunctionTree.{FunctionTree}
use Rattle.sc_ast.specs.declared.section.Decl.{Decl}
use Rattle.sc_ast.specs.declared.section.Decl.TheVariants.{Struct, Global, Proto, Function}
use Rattle.sc_ast.specs.declared.section.SectionTree.{SectionTree}

abbrev pub lineless_simple : SimpleTree → SimpleTree
lineless_simple simple = record simple { line = 0 }

abbrev pub lineless_option : Option SimpleTree → Option SimpleTree
lineless_option None = None
lineless_option (Some simple) = Some (lineless_simple simple)

-- a kind of statement, where those inside are without lines
abbrev pub kind_step : StmtKind-F StmtKind StmtTree → StmtKind
kind_step (layer.For first cond next body) = roll-StmtKind
    (layer.For (lineless_option first) cond (lineless_option next) body)
kind_step kind = roll-StmtKind kind

abbrev pub stmt_step : StmtTree-F StmtKind StmtTree → StmtTree
stmt_step stmt = record { line = 0; kind = stmt.kind }

abbrev pub lineless_stmt : StmtTree → StmtTree
lineless_stmt = fold-StmtTree StmtKind StmtTree kind_step stmt_step

abbrev pub lineless_kind : StmtKind → StmtKind
lineless_kind = fold-StmtKind StmtKind StmtTree kind_step stmt_step

abbrev pub lineless_stmts : List StmtTree → List StmtTree
lineless_stmts stmts = map lineless_stmt stmts

abbrev pub lineless_head : HeadTree → HeadTree
lineless_head head = record head { line = 0 }

abbrev pub lineless_function_head : FunctionHead → FunctionHead
lineless_function_head head = record head { line = 0 }

abbrev pub lineless_local : LocalTree → LocalTree
lineless_local tree = record tree { line = 0 }

abbrev pub lineless_function : FunctionTree → FunctionTree
lineless_function tree =
    record {
      head = lineless_function_head tree.head;
      locals = map lineless_local tree.locals;
      body = lineless_stmts tree.body;
      close_line = 0;
    }

abbrev pub lineless_struct : StructTree → StructTree
lineless_struct tree = record tree { line = 0 }

abbrev pub lineless_global : GlobalTree → GlobalTree
lineless_global tree = record tree { line = 0 }

abbrev pub lineless_decl : Decl → Decl
lineless_decl (Struct tree) = Struct (lineless_struct tree)
lineless_decl (Global tree) = Global (lineless_global tree)
lineless_decl (Proto tree) = Proto (lineless_head tree)
lineless_decl (Function tree) = Function (lineless_function tree)

abbrev pub lineless_export : ExportLine → ExportLine
lineless_export line = record line { line = 0 }

abbrev pub lineless_import : ImportLine → ImportLine
lineless_import line = record line { line = 0 }

abbrev pub lineless_section : SectionTree → SectionTree
lineless_section tree =
    record {
      name = tree.name;
      line = 0;
      exports = map lineless_export tree.exports;
      imports = map lineless_import tree.imports;
      decls = map lineless_decl tree.decls;
    }

-- two sections are the same, lines aside
abbrev pub SameButLines : SectionTree → SectionTree → Type 0
SameButLines tree other = lineless_section tree ≡ lineless_section other
