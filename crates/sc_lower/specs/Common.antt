-- The names from below that several definitions of this crate cite, passed on from one place. Declares nothing.
pub use Rattle.sc_base.specs.declared.op.BinaryOp.{BinaryOp}
pub use Rattle.sc_event.specs.Prelude.{comp_at}
pub use Rattle.sc_event.specs.declared.interface.Interfaces.{Interfaces}
pub use Rattle.sc_event.specs.declared.row.Entry.{Entry}
pub use Rattle.sc_core.specs.Prelude.{Arith, IsWellTyped, Roles, cells_of, denotations_of, depth_by, is_array}
pub use Rattle.sc_core.specs.Prelude.{is_pointer, is_unsigned, is_unsigned_op, main_name, most_cells, most_exports}
pub use Rattle.sc_core.specs.Prelude.{most_nodes, most_params, nodes, run_of, run_step, scripted_depth_by}
pub use Rattle.sc_core.specs.Prelude.{scripted_run_of, scripted_step, size_in_bytes, target_cells, total}
pub use Rattle.sc_core.specs.Prelude.{variables, within}
pub use Rattle.sc_core.specs.declared.expr.TypedCall.{TypedCall}
pub use Rattle.sc_core.specs.declared.expr.TypedExpr.{TypedExpr, TypedExpr-F, fold-TypedExpr}
pub use Rattle.sc_core.specs.declared.expr.TypedKind.{TypedKind-F}
pub use Rattle.sc_core.specs.declared.expr.VarRef.{VarRef}
pub use Rattle.sc_core.specs.declared.expr.VarRef.TheVariants.{Global, Local, Param}
pub use Rattle.sc_core.specs.declared.program.ProgramTree.{ProgramTree}
pub use Rattle.sc_core.specs.declared.section.TypedFunction.{TypedFunction}
pub use Rattle.sc_core.specs.declared.section.TypedLocal.{TypedLocal}
pub use Rattle.sc_core.specs.declared.section.TypedSection.{TypedSection}
pub use Rattle.sc_core.specs.declared.section.TypedStruct.{TypedStruct}
pub use Rattle.sc_core.specs.declared.stmt.TypedSimple.{TypedSimple}
pub use Rattle.sc_core.specs.declared.stmt.TypedSimpleKind.{TypedSimpleKind}
pub use Rattle.sc_core.specs.declared.stmt.TypedStmt.{TypedStmt, fold-TypedStmt}
pub use Rattle.sc_core.specs.declared.stmt.TypedStmtKind.{TypedStmtKind-F}
pub use Rattle.sc_core.specs.declared.ty.Ty.{Ty}
pub use Rattle.sc_tac.specs.Prelude.{IsFunction, IsProgram, code_denotations, code_depth_by, code_run}
pub use Rattle.sc_tac.specs.Prelude.{scripted_code_depth_by, scripted_code_run}
pub use Rattle.sc_tac.specs.declared.stmt.TacStmt.{TacStmt, TacStmt-F, fold-TacStmt}
pub use Rattle.sc_tac.specs.declared.stmt.TacStmt.TheVariants.{Alloc, Break, CallCross, CallOwn, Const, Continue}
pub use Rattle.sc_tac.specs.declared.stmt.TacStmt.TheVariants.{Free, GlobalPlace, If, Input, Load, Loop, ObjectPlace}
pub use Rattle.sc_tac.specs.declared.stmt.TacStmt.TheVariants.{Op, Output, Return, Store}
