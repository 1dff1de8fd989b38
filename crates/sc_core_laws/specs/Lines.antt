-- A program whose trees stand on other lines.
use Rattle.sc_core_laws.specs.Common.{ProgramTree}
use Rattle.std.specs.Prelude.{ℕ, map}
use Rattle.std.specs.Option.{option_map}
use Rattle.sc_core.specs.declared.section.TypedFunction.{TypedFunction}
use Rattle.sc_core.specs.declared.section.TypedLocal.{TypedLocal}
use Rattle.sc_core.specs.declared.section.TypedSection.{TypedSection}
use Rattle.sc_core.specs.declared.stmt.TypedSimple.{TypedSimple}
use Rattle.sc_core.specs.declared.stmt.TypedStmt.{TypedStmt, fold-TypedStmt}
use Rattle.sc_core.specs.declared.stmt.TypedStmtKind.{TypedStmtKind, TypedStmtKind-F, roll-TypedStmtKind}
use Rattle.sc_core.specs.declared.stmt.TypedStmtKind.TheOpen as layer

-- where each line goes
module _ (line_of : ℕ → ℕ) where
  abbrev pub simple_lined : TypedSimple → TypedSimple
  simple_lined s = record s { line = line_of s.line }

  -- the parts in the head of a `for` have lines
  abbrev pub layer_lined : TypedStmtKind-F TypedStmtKind TypedStmt → TypedStmtKind-F TypedStmtKind TypedStmt
  layer_lined layer.Empty = layer.Empty
  layer_lined (layer.Assign place value) = layer.Assign place value
  layer_lined (layer.AssignCall place call) = layer.AssignCall place call
  layer_lined (layer.Call call) = layer.Call call
  layer_lined (layer.Malloc place count cells) = layer.Malloc place count cells
  layer_lined (layer.Free pointer) = layer.Free pointer
  layer_lined (layer.If cond first second) = layer.If cond first second
  layer_lined (layer.While cond body) = layer.While cond body
  layer_lined (layer.For first cond next body) =
      layer.For (option_map simple_lined first) cond (option_map simple_lined next) body
  layer_lined layer.Break = layer.Break
  layer_lined layer.Continue = layer.Continue
  layer_lined layer.Return = layer.Return
  layer_lined (layer.ReturnValue value) = layer.ReturnValue value
  layer_lined (layer.ReturnCall call) = layer.ReturnCall call

  abbrev pub stmt_lined : TypedStmt → TypedStmt
  stmt_lined =
      fold-TypedStmt TypedStmtKind TypedStmt (λ k. roll-TypedStmtKind (layer_lined k))
      (λ s. record { line = line_of s.line; kind = s.kind })

  abbrev pub local_lined : TypedLocal → TypedLocal
  local_lined local = record local { line = line_of local.line }

  abbrev pub function_lined : TypedFunction → TypedFunction
  function_lined f = record f {
    locals = map local_lined f.locals;
    body = map stmt_lined f.body;
    close_line = line_of f.close_line;
  }

  abbrev pub section_lined : TypedSection → TypedSection
  section_lined section = record section { functions = map function_lined section.functions }

  abbrev pub program_lined : ProgramTree → ProgramTree
  program_lined program = record program { sections = map section_lined program.sections }
