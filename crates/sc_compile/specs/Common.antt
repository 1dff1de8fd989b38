-- The names from below that several definitions of this crate cite, passed on from one place. Declares nothing.
pub use Rattle.sc_core.specs.Prelude.{Arith, c_arith, cells_of, code_bound, frame_bound, meaning, meaning_by, nodes}
pub use Rattle.sc_core.specs.Prelude.{most_nodes, most_params, run_of, scripted_meaning, total, variables, wrapping}
pub use Rattle.sc_core.specs.declared.program.ProgramTree.{ProgramTree}
pub use Rattle.sc_core.specs.declared.section.TypedGlobal.{TypedGlobal}
pub use Rattle.sc_core.specs.declared.section.TypedSection.{TypedSection}
pub use Rattle.sc_image.specs.Prelude.{IsWord, machine, most_globals, stretch}
pub use Rattle.sc_image.specs.declared.parts.ImageParts.{ImageParts}
pub use Rattle.sc_tac.specs.Prelude.{frame_of, intervals_of}
pub use Rattle.sc_tac.specs.declared.function.TacFnTree.{TacFnTree}
pub use Rattle.sc_tac.specs.declared.program.TacSection.{TacSection}
pub use Rattle.sc_lower.specs.Prelude.{branches, lowered_program}
pub use Rattle.sc_alloc.specs.Prelude.{assigned}
pub use Rattle.sc_linker.specs.Prelude.{IsWhole, linked_image}
pub use Rattle.sc_emit.specs.Prelude.{IsEmitted, is_branch, is_ebreak}
pub use Rattle.sc_emit_run_laws.specs.Prelude.{IsBlamed, StackIsFull, functions_in}
pub use Rattle.sc_compile.specs.declared.fault.CompileFault.{CompileFault}
pub use Rattle.sc_compile.specs.declared.fault.CompileFault.TheVariants.{CodeTooLarge, DataTooLarge, FrameTooLarge}
pub use Rattle.sc_compile.specs.declared.fault.CompileFault.TheVariants.{OutOfMemory}
