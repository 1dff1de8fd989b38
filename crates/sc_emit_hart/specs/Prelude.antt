-- What this crate's contracts, its proofs and the crates above cite, passed on from one place. Declares nothing.
pub use Rattle.sc_emit_hart.specs.Code.{CodeAt, Fetches}
pub use Rattle.sc_emit_hart.specs.Frames.{FrameOverflows, LeavesFrame, TakesFrame, epilogue_to_jump}
pub use Rattle.sc_emit_hart.specs.FullStacks.{LacksRoom, TakesLast}
pub use Rattle.sc_emit_hart.specs.Hart.{Registers, World, at, listed, look, put, set, words_from}
pub use Rattle.sc_emit_hart.specs.Laws.{CodeIsFetched, WordsAreKept}
pub use Rattle.sc_emit_hart.specs.Operators.{AreOperands, op_word, stepped_word, unary_word}
pub use Rattle.sc_emit_hart.specs.Pieces.{Besides, Computes, Does, IsFromSp, IsWritable, Stores}
pub use Rattle.sc_emit_hart.specs.Words.{Apart, Owned}
unfoldable pub use Rattle.sc_emit_hart.specs.Words.{put_word, word}
