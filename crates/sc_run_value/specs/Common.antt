-- The names from below that several definitions of this crate cite, passed on from one place. Declares nothing.
pub use Rattle.sc_core.specs.Prelude.{Blocks, Here, Memory, Ways, applied, bind, c_arith, cells_at, is_true, of_bool}
pub use Rattle.sc_core.specs.Prelude.{store, with_blocks}
pub use Rattle.sc_core.specs.declared.cause.Cause.{Cause}
pub use Rattle.sc_core.specs.declared.value.Value.{Value}
pub use Rattle.sc_core.specs.declared.value.Value.TheVariants.{Null, Ptr, Word}
