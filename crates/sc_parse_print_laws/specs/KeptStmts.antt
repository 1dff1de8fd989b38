-- Helping: what the leaves of statements keep.
use Rattle.sc_parse_print_laws.specs.Common.{ExprTree, StmtTree, StmtTree-F, fold-StmtTree, is_ident, is_place}
use Rattle.std.specs.Prelude.{Bool, true, ◌&&◌, List, map, Option, Some, None}
use Rattle.std.specs.List.{list_all}
use Rattle.sc_ast.specs.declared.expr.CallTree.{CallTree}
use Rattle.sc_ast.specs.declared.stmt.SimpleKind.{SimpleKind}
use Rattle.sc_ast.specs.declared.stmt.SimpleKind.TheVariants.{Assign, AssignCall, Call, Malloc, Free}
use Rattle.sc_ast.specs.declared.stmt.SimpleTree.{SimpleTree}
use Rattle.sc_ast.specs.declared.stmt.StmtKind.{StmtKind, StmtKind-F, fold-StmtKind}
use Rattle.sc_ast.specs.declared.stmt.StmtKind.TheOpen as layer
use Rattle.sc_ast.specs.declared.types.TypeName.{TypeName}
use Rattle.sc_parse_print_laws.specs.Kept.{is_kept, kept_base, kept_value}

-- a place is an expression that names one
abbrev pub kept_place : ExprTree → Bool
kept_place place = is_place place && is_kept place

abbrev pub kept_call : CallTree → Bool
kept_call call = is_ident call.name && list_all is_kept call.args

abbrev pub kept_malloc : ExprTree → Option ExprTree → TypeName → Bool
kept_malloc place count of = kept_place place && (kept_value count && kept_base of.base)

abbrev pub kept_simple : SimpleKind → Bool
kept_simple (Assign place value) = kept_place place && is_kept value
kept_simple (AssignCall place call) = kept_place place && kept_call call
kept_simple (Call call) = kept_call call
kept_simple (Malloc place count of) = kept_malloc place count of
kept_simple (Free pointer) = is_kept pointer

abbrev pub kept_option : Option SimpleTree → Bool
kept_option None = true
kept_option (Some simple) = kept_simple simple.kind

abbrev pub all_kept : List Bool → Bool
all_kept parts = list_all (λ part. part) parts

abbrev pub kind_step : StmtKind-F Bool Bool → Bool
kind_step (layer.Assign place value) = kept_place place && is_kept value
kind_step (layer.AssignCall place call) = kept_place place && kept_call call
kind_step (layer.Call call) = kept_call call
kind_step (layer.Malloc place count of) = kept_malloc place count of
kind_step (layer.Free pointer) = is_kept pointer
kind_step (layer.If cond then_part else_part) = is_kept cond && (all_kept then_part && all_kept else_part)
kind_step (layer.While cond body) = is_kept cond && all_kept body
kind_step (layer.For first cond next body) = kept_option first && (is_kept cond && (kept_option next && all_kept body))
kind_step (layer.ReturnValue value) = is_kept value
kind_step (layer.ReturnCall call) = kept_call call
kind_step _ = true

abbrev pub stmt_step : StmtTree-F Bool Bool → Bool
stmt_step stmt = stmt.kind

abbrev pub is_kept_stmt : StmtTree → Bool
is_kept_stmt = fold-StmtTree Bool Bool kind_step stmt_step

abbrev pub kept_kind : StmtKind → Bool
kept_kind = fold-StmtKind Bool Bool kind_step stmt_step

abbrev pub are_kept : List StmtTree → Bool
are_kept stmts = all_kept (map is_kept_stmt stmts)
