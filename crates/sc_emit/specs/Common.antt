-- The names from below that several definitions of this crate cite, passed on from one place. Declares nothing.
pub use Rattle.sc_core.specs.Prelude.{total, wrapping}
pub use Rattle.rv_code.specs.declared.instr.Instr.{Instr}
pub use Rattle.sc_tac.specs.Prelude.{branches, code_function, entry_weight, everywhere, parts, passes_words, uses_heap}
pub use Rattle.sc_tac.specs.Prelude.{weight}
pub use Rattle.sc_tac.specs.declared.machine_code.CodeTree.{CodeTree}
pub use Rattle.sc_tac.specs.declared.stmt.TacStmt.{TacStmt, TacStmt-F, fold-TacStmt}
pub use Rattle.sc_emit_select.specs.Prelude.{frame_taken, linked, ra, refers_only}
pub use Rattle.sc_emit_relation.specs.Prelude.{FunctionFollows, IsAddress, Setting}
