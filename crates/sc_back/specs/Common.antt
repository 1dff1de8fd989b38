-- The names from below that several definitions of this crate cite, passed on from one place. Declares nothing.
pub use Rattle.sc_base.specs.Prelude.{is_name, signed_text}
pub use Rattle.sc_event.specs.Prelude.{comp_at, comp_name, export_at}
pub use Rattle.sc_event.specs.declared.interface.Import.{Import}
pub use Rattle.sc_event.specs.declared.interface.Interface.{Interface}
pub use Rattle.sc_event.specs.declared.interface.Interfaces.{Interfaces}
pub use Rattle.sc_event.specs.declared.interface.Proto.{Proto}
pub use Rattle.sc_event.specs.declared.interface.Scalar.{Scalar}
pub use Rattle.sc_event.specs.declared.row.Action.{Action}
pub use Rattle.sc_event.specs.declared.row.Action.TheVariants.{Call, End, In, Out, Ret}
pub use Rattle.sc_event.specs.declared.row.Entry.{Entry}
pub use Rattle.sc_event.specs.declared.row.Entry.TheVariants.{Export, Main}
pub use Rattle.sc_event.specs.declared.row.Row.{Row}
pub use Rattle.sc_ast.specs.declared.section.SectionTree.{SectionTree}
