-- Helping: what an operator of three-address code asks for.
use Rattle.std.specs.Prelude.{ℕ, ◌^◌, ◌<◌}
use Rattle.sc_tac.specs.declared.stmt.TacOp.{TacOp}
use Rattle.sc_tac.specs.declared.stmt.TacOp.TheVariants as tacop

-- an element has a cell at least, and its bytes are a positive number as a signed word too
pub record IsElement (cells : ℕ) : Type 0 where
  pub some : 0 < cells
  pub few : cells < 2 ^ 29

abbrev pub IsSound : TacOp → Type 0
IsSound (tacop.PointerDifference cells) = IsElement cells
IsSound o = Unit {0}
