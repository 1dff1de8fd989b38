-- The names that several proofs of this crate cite, passed on from one place. Declares nothing.
pub use Rattle.std.proofs.Common.{Bool, Err, IfOk, IsTrue, List, None, Ok, OnOk, Option, Result, Some, [], add-one, ap}
pub use Rattle.std.proofs.Common.{append-nil, append_assoc, arith, drop, false, get_or, length, map, refl, rules, subst}
pub use Rattle.std.proofs.Common.{suc, sym, true, ℕ, ◌&&◌, ◌++◌, ◌+◌, ◌<◌, ◌∙◌, ◌∷◌, ◌≡◌, ◌≢◌, ◌≤◌}
pub use Rattle.std.proofs.lemmas.List.{drop_all}
pub use Rattle.std.specs.List.{concat}
pub use Rattle.sc_base.proofs.Lists.{drop-step}
pub use Rattle.sc_types_scope.specs.Prelude.{unless, with_lines}
pub use Rattle.sc_core.specs.Prelude.{Judged, Scope, Signature, all_go_into, args_fit, assign_fits, goes_into}
pub use Rattle.sc_core.specs.Prelude.{count_fits, is_int, is_scalar, is_target, is_type, judged, pointer_to, points}
pub use Rattle.sc_core.specs.Prelude.{result_goes}
pub use Rattle.std.specs.Option.{option_map}
pub use Rattle.sc_types_elab_expr.specs.Prelude.{Callees, Suits, Visible, called, going_to, type_of_name, typed}
pub use Rattle.sc_types_elab_expr.specs.Prelude.{visible}
unfoldable pub use Rattle.sc_types_elab_expr.specs.Prelude.{expr_in}
pub use Rattle.sc_types_elab_expr.specs.declared.scope.FunctionScope.{FunctionScope}
pub use Rattle.sc_types_elab_expr.specs.declared.scope.SectionScope.{SectionScope}
pub use Rattle.sc_types_elab_stmt.specs.Common.{CallTree, ExprTree, SimpleTree, StmtKind, StmtTree, Ty, TypeName}
pub use Rattle.sc_types_elab_stmt.specs.Common.{TypedExpr, cells_under}
pub use Rattle.sc_types_elab_stmt.specs.Prelude.{all_go, assign_call_holds, assign_holds, call_holds, cond_holds}
pub use Rattle.sc_types_elab_stmt.specs.Prelude.{first_of, free_holds, goes_in, going_to_all, going_to_some}
pub use Rattle.sc_types_elab_stmt.specs.Prelude.{int_pointer, lines_at, malloc_holds, params_called}
pub use Rattle.sc_types_elab_stmt.specs.Prelude.{part_type_lines, rest_of, return_call_holds, return_value_holds}
pub use Rattle.sc_types_elab_stmt.specs.Prelude.{stmt_type_lines}
unfoldable pub use Rattle.sc_types_elab_stmt.specs.Prelude.{args_in, call_in, count_in, kind_in, part_in, returned_in}
unfoldable pub use Rattle.sc_types_elab_stmt.specs.Prelude.{simple_in, stmt_in, value_in}
