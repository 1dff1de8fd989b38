-- The names that several proofs of this crate cite, passed on from one place. Declares nothing.
pub use Rattle.std.proofs.Common.{Bool, Err, IfOk, List, None, Ok, Option, Result, Some, [], ap, arith, bytes_eq}
pub use Rattle.std.proofs.Common.{eq-eqb, false, is_some, nat_le, position, refl, slice_get, suc, sym, true, zero, ℕ}
pub use Rattle.std.proofs.Common.{◌&&◌, ◌==◌, ◌∙◌, ◌∷◌, ◌≡◌}
pub use Rattle.std.specs.Option.{option_and_then, option_map}
pub use Rattle.sc_core.specs.Prelude.{Judged, Scope, binary_fits, decayed, has_member, is_address, is_int, is_pointer}
pub use Rattle.sc_core.specs.Prelude.{is_type, judged, literal_fits, member_of, most_cells, pointer_to, same_base}
pub use Rattle.sc_core.specs.Prelude.{same_ty, target, term_judged, unary_fits}
pub use Rattle.sc_types_elab_expr.specs.Common.{Global, Ty, TypedExpr, TypedMember, TypedParam, TypedStruct}
pub use Rattle.sc_types_elab_expr.specs.Prelude.{Found, Suits, Visible, variable_named, variable_in, is_zero_literal}
pub use Rattle.sc_types_elab_expr.specs.Prelude.{member_named}
pub use Rattle.sc_types_elab_expr.specs.Prelude.{member_names, member_offset, member_ty, no_ty, placed, struct_of}
pub use Rattle.sc_types_elab_expr.specs.Prelude.{variable_typed, visible, zero_step}
