-- What this crate's contracts, its proofs and the crates above cite, passed on from one place. Declares nothing.
pub use Rattle.sc_core.specs.Prelude.{Scope, count_fits, is_int, is_target, is_type, judged, option_goes, pointer_to}
pub use Rattle.sc_core.specs.Prelude.{result_goes}
pub use Rattle.sc_types_elab_expr.specs.Prelude.{Suits, called, type_of_name, typed, visible}
unfoldable pub use Rattle.sc_types_elab_expr.specs.Prelude.{expr_in}
pub use Rattle.sc_types_elab_stmt.specs.Args.{first_of, rest_of}
pub use Rattle.sc_types_elab_stmt.specs.Judging.{all_go, goes_in, init_goes, lines_at}
unfoldable pub use Rattle.sc_types_elab_stmt.specs.Seen.{args_in, call_in, count_in, kind_in, part_in, returned_in}
unfoldable pub use Rattle.sc_types_elab_stmt.specs.Seen.{simple_in, stmt_in, value_in}
pub use Rattle.sc_types_elab_stmt.specs.Statements.{assign_call_holds, assign_holds, call_holds, cond_holds}
pub use Rattle.sc_types_elab_stmt.specs.Statements.{element_cells, free_holds, going_to_all, going_to_some, int_pointer}
pub use Rattle.sc_types_elab_stmt.specs.Statements.{kind_type_lines, kind_typed, malloc_holds, params_called}
pub use Rattle.sc_types_elab_stmt.specs.Statements.{part_type_lines, return_call_holds, return_value_holds}
pub use Rattle.sc_types_elab_stmt.specs.Statements.{simple_holds, stmt_type_lines, stmt_typed, typed_call, typed_count}
pub use Rattle.sc_types_elab_stmt.specs.Statements.{typed_freed, typed_simple, typed_simple_kind, typed_stmt}
pub use Rattle.sc_types_elab_stmt.specs.Statements.{typed_value}
