-- The names that several proofs of this crate cite, passed on from one place. Declares nothing.
pub use Rattle.std.proofs.Common.{Bool, Err, List, None, Ok, Option, Result, Some, add-one, ap, arith, drop, drop-cons}
pub use Rattle.std.proofs.Common.{false, get_or, if◌then◌else◌, length, map, mul-one, neg_ℤ, negsuc, pos, refl}
pub use Rattle.std.proofs.Common.{slice_get, suc, sym, true, zero, ℕ, ℤ, ◌*ℤ◌, ◌*◌, ◌++◌, ◌+◌, ◌<◌, ◌∙◌, ◌∷◌, ◌≡◌}
pub use Rattle.sc_core.specs.Prelude.{Blocks, Here, Meant, Memory, Ways, at_pointer, binary, bind, c_arith, cells_at}
pub use Rattle.sc_core.specs.Prelude.{is_array, is_live, is_pointer, is_true, load, loaded, meant, meant_step, moved}
pub use Rattle.sc_core.specs.Prelude.{moved_back, number_of, of_bool, term_step, values, wanted, ways}
pub use Rattle.sc_core.specs.declared.expr.TypedExpr.{TypedExpr, fold-roll-TypedExpr}
pub use Rattle.sc_run_value.specs.Common.{Cause, Value}
pub use Rattle.sc_run_value.specs.Prelude.{Ptr, Word, decided, here_of, joined, memory_of, typed}
