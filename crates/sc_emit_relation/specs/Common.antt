-- The names from below that several definitions of this crate cite, passed on from one place. Declares nothing.
pub use Rattle.sc_core.specs.Prelude.{Block, Blocks, Break, Calls, Continue, Exit, Function, Here, Left, Memory, Next}
pub use Rattle.sc_core.specs.Prelude.{Piece, Reached, Return, State, Stopped, and_then, begun, cells_at, done, spans_of}
pub use Rattle.sc_core.specs.declared.expr.CallTarget.{CallTarget}
pub use Rattle.sc_core.specs.declared.value.Cell.{Cell}
pub use Rattle.sc_core.specs.declared.value.Value.{Value}
pub use Rattle.sc_core_laws.specs.Prelude.{AllBefore, Goes, Grown, last, stack_depth}
pub use Rattle.rv_code.specs.declared.instr.Instr.TheVariants.{Ecall, Jal, Jalr}
pub use Rattle.sc_image.specs.Prelude.{Crossing, IsSteadyState, Traps, Walks, data_end, data_start, jalr_target}
pub use Rattle.sc_image.specs.Prelude.{stack_size, stack_top, step, word_at, zone_address, zone_start}
unfoldable pub use Rattle.sc_image.specs.Prelude.{are_data}
pub use Rattle.sc_image.specs.declared.parts.ImageParts.{ImageParts}
pub use Rattle.sc_tac.specs.Prelude.{Codes, FrameFits, IsClear, IsFrame, Lives, TempSet, Temps, Trail, ahead_at}
pub use Rattle.sc_tac.specs.Prelude.{readings, row_first, row_fresh, row_points}
pub use Rattle.sc_tac.specs.declared.place.Place.{Place}
pub use Rattle.sc_emit_select.specs.Prelude.{Addresses, Plan, a0, a7, completed, low_after, ra, register_of, sp}
pub use Rattle.sc_emit_hart.specs.Prelude.{CodeAt, Fetches, Owned, Registers, at, look, word}
