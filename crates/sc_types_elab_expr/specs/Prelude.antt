-- What this crate's contracts, its proofs and the crates above cite, passed on from one place. Declares nothing.
pub use Rattle.sc_types_elab_expr.specs.Called.{called, imported, or_first_own}
pub use Rattle.sc_types_elab_expr.specs.Calls.{Callees, target_or}
pub use Rattle.sc_types_elab_expr.specs.Expressions.{beside, binary_ty, binary_typed, going_to, is_zero_literal}
pub use Rattle.sc_types_elab_expr.specs.Expressions.{literal_typed}
pub use Rattle.sc_types_elab_expr.specs.Expressions.{member_offset, member_ty, moved_ty, no_ty, or_int, expr_typed}
pub use Rattle.sc_types_elab_expr.specs.Expressions.{sizeof_typed, typed, unary_ty, variable_typed, zero_step}
pub use Rattle.sc_types_elab_expr.specs.Judging.{Suits}
pub use Rattle.sc_types_elab_expr.specs.Placed.{member_names, names_of, placed}
pub use Rattle.sc_types_elab_expr.specs.Scopes.{Found, Visible, variable_named, variable_in, member_named, or_else}
pub use Rattle.sc_types_elab_expr.specs.Scopes.{struct_of}
pub use Rattle.sc_types_elab_expr.specs.Seen.{visible}
pub use Rattle.sc_types_elab_expr.specs.TypeNames.{base_of, cells_under, type_of_name}
unfoldable pub use Rattle.sc_types_elab_expr.specs.Seen.{expr_in}
