-- The names from below that several definitions of this crate cite, passed on from one place. Declares nothing.
pub use Rattle.sc_event.specs.Prelude.{comp_at, comp_name}
pub use Rattle.sc_event.specs.declared.interface.Interfaces.{Interfaces}
pub use Rattle.sc_edge.specs.Edge.{Adds, IsAtEnd, Rose, Takes}
pub use Rattle.sc_lex.specs.declared.refusal.Refusal.{Refusal}
pub use Rattle.sc_core.specs.declared.program.ProgramTree.{ProgramTree}
pub use Rattle.sc_types.specs.Prelude.{Accepts, Fails, IsSource, SourceParts}
pub use Rattle.sc_image.specs.Prelude.{IsButFor, IsImage, MachineRun, bad, bad_part, cause_number, image_bytes}
pub use Rattle.sc_image.specs.Prelude.{image_interfaces, machine}
pub use Rattle.sc_compile.specs.Prelude.{IsCompiled, image_of, too_large}
pub use Rattle.sc_compile.specs.declared.fault.CompileFault.{CompileFault}
pub use Rattle.sc_chain.specs.Prelude.{IsAnotherProgram, IsExplained, IsImageExplained, is_listed, performing}
pub use Rattle.sc_chain.specs.Prelude.{recomposed}
pub use Rattle.sc_core.specs.declared.explanation.Link.{Link}
pub use Rattle.sc_top_words.specs.declared.command.Command.{Command}
