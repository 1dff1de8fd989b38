-- The names that several proofs of this crate cite, passed on from one place. Declares nothing.
pub use Rattle.std.proofs.Common.{Bool, List, None, Ok, Option, Some, [], ap, bytes_eq, codes, false, is_some, length}
pub use Rattle.std.proofs.Common.{map, not, refl, subst, suc, ℕ, ◌&&◌, ◌+◌, ◌==◌, ◌∙◌, ◌∷◌, ◌≡◌}
pub use Rattle.sc_core.specs.Common.{BinaryOp, Call, End, Event, Import, Interfaces, Out, Proto, Ret, Scalar, UnaryOp}
pub use Rattle.sc_core.specs.Prelude.{Acts, Arith, Break, Calls, Continue, Denotations, Function, Here, Judged, Meant}
pub use Rattle.sc_core.specs.Prelude.{Next, Piece, Reached, Return, Run, Scope, State, Stopped, Ways, all_do, and_then}
pub use Rattle.sc_core.specs.Prelude.{assign, assign_call, at_place, c_arith, call, call_statement, choose, closed}
pub use Rattle.sc_core.specs.Prelude.{code_bound, deepest, denotations_of, depth, entry_in, evaluated, expr_nodes}
pub use Rattle.sc_core.specs.Prelude.{follow, frame_bound, function_of, functions_in, globals_of, in_order, init_nodes}
pub use Rattle.sc_core.specs.Prelude.{inits_do, judged, leave, local_nodes, loop, main_name, meaning, meant, meant_step}
pub use Rattle.sc_core.specs.Prelude.{negated_word, nodes, on_all_words, roles_in, run_by, run_of, run_step}
pub use Rattle.sc_core.specs.Prelude.{scripted_depth_by, scripted_meaning, scripted_run_of, scripted_step, stmt_does}
pub use Rattle.sc_core.specs.Prelude.{stmt_nodes, stopped_at, term_judged, term_nodes, term_step, test, total}
pub use Rattle.sc_core.specs.Prelude.{variable_at, variables, ways, wrapped, wrapped_depth, wrapping}
pub use Rattle.sc_core.specs.declared.expr.CallTarget.{CallTarget}
pub use Rattle.sc_core.specs.declared.expr.TypedExpr.{TypedExpr, TypedExpr-F, fold-TypedExpr, fold-roll-TypedExpr}
pub use Rattle.sc_core.specs.declared.expr.TypedExpr.{ind-TypedExpr, roll-TypedExpr}
pub use Rattle.sc_core.specs.declared.expr.TypedKind.{TypedKind, TypedKind-F, fold-TypedKind, fold-roll-TypedKind}
pub use Rattle.sc_core.specs.declared.expr.TypedKind.{map-TypedKind, roll-TypedKind}
pub use Rattle.sc_core.specs.declared.expr.VarRef.TheVariants.{Global, Local, Param}
pub use Rattle.sc_core.specs.declared.section.TypedGlobal.{TypedGlobal}
pub use Rattle.sc_core.specs.declared.section.TypedStruct.{TypedStruct}
pub use Rattle.sc_core.specs.declared.stmt.TypedStmt.{TypedStmt, TypedStmt-F, fold-TypedStmt, fold-roll-TypedStmt}
pub use Rattle.sc_core.specs.declared.stmt.TypedStmt.{ind-TypedStmt, roll-TypedStmt}
pub use Rattle.sc_core.specs.declared.stmt.TypedStmtKind.{TypedStmtKind, TypedStmtKind-F, fold-TypedStmtKind}
pub use Rattle.sc_core.specs.declared.stmt.TypedStmtKind.{fold-roll-TypedStmtKind, map-TypedStmtKind}
pub use Rattle.sc_core.specs.declared.stmt.TypedStmtKind.{roll-TypedStmtKind}
pub use Rattle.sc_core.specs.declared.ty.Ty.{Ty}
