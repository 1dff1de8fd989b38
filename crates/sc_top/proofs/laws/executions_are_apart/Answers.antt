use Rattle.sc_top.proofs.Apart.{executions_are_apart}
use Rattle.sc_top.proofs.laws.executions_are_apart.Goals as goal

pub returns : goal.returns
returns c = executions_are_apart c.one_image.ensures
