-- The names from below that several definitions of this crate cite, passed on from one place. Declares nothing.
pub use Rattle.sc_event.specs.declared.event.Event.{Event}
pub use Rattle.sc_event.specs.declared.interface.Interfaces.{Interfaces}
pub use Rattle.sc_core.specs.Prelude.{meaning, scripted_meaning}
pub use Rattle.sc_core.specs.declared.cause.Cause.{Cause}
pub use Rattle.sc_core.specs.declared.program.ProgramTree.{ProgramTree}
pub use Rattle.sc_core.specs.declared.run.RunEnd.TheVariants.{Blamed}
pub use Rattle.sc_types.specs.Prelude.{Accepts, SourceParts}
pub use Rattle.sc_compile.specs.Prelude.{image_of}
pub use Rattle.sc_back.specs.Prelude.{back_text, new_text, new_texts}
pub use Rattle.sc_chain.specs.declared.composed.Replacement.{Replacement}
pub use Rattle.sc_core.specs.declared.explanation.Link.{Link}
