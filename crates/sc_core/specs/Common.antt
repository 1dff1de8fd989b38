-- The names from below that several definitions of this crate cite, passed on from one place. Declares nothing.
pub use Rattle.sc_base.specs.Prelude.{all_hold, most_compartments, most_exports, most_height, most_params}
pub use Rattle.sc_base.specs.declared.op.BinaryOp.{BinaryOp}
pub use Rattle.sc_base.specs.declared.op.UnaryOp.{UnaryOp}
pub use Rattle.sc_event.specs.Prelude.{count_of, export_at, imports, is_function, is_input, is_output, part, takes}
pub use Rattle.sc_event.specs.declared.event.Event.{Event}
pub use Rattle.sc_event.specs.declared.event.Event.TheVariants.{Call, End, In, Out, Ret}
pub use Rattle.sc_event.specs.declared.interface.Import.{Import}
pub use Rattle.sc_event.specs.declared.interface.Interfaces.{Interfaces}
pub use Rattle.sc_event.specs.declared.interface.Proto.{Proto}
pub use Rattle.sc_event.specs.declared.interface.Scalar.{Scalar}
pub use Rattle.sc_event.specs.declared.row.Entry.{Entry}
pub use Rattle.sc_event.specs.declared.row.Entry.TheVariants.{Export, Main}
