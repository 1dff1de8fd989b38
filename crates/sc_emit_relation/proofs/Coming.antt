-- A run that came to a state comes to where `n` steps lead from it.
use Rattle.sc_emit_relation.proofs.Common.{Came, Setting, Walks, ℕ, ◌+◌}
use Rattle.sc_image.specs.Prelude.{MachineState}
use Rattle.sc_image.proofs.Running.{walk_together}

pub came_by : (T : Setting) (n : ℕ) (s t : MachineState) → Walks T.image T.inputs n s t → Came T s → Came T t
came_by T n s t walks came = record {
  steps = came.steps + n;
  walks = walk_together T.image T.inputs came.steps n T.from s t came.walks walks;
}
