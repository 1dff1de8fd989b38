-- What this crate's contracts, its proofs and the crates above cite, passed on from one place. Declares nothing.
pub use Rattle.sc_emit.specs.Emission.{IsEmitted, IsPlaced}
pub use Rattle.sc_emit.specs.Naming.{AreReached, IsCodeAddress, calls_only, is_call}
pub use Rattle.sc_emit.specs.Shapes.{code_back_edges, code_branches, has_known_jumps, has_no_ebreak, is_backward}
pub use Rattle.sc_emit.specs.Shapes.{is_branch, is_ebreak, is_known_jump, leads_back, loop_step, loops, names_only}
pub use Rattle.sc_emit.specs.Shapes.{stmt_loops}
