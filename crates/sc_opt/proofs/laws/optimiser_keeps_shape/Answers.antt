use Rattle.sc_opt.proofs.Promises.{optimiser_keeps_shape}
use Rattle.sc_opt.proofs.laws.optimiser_keeps_shape.Goals as goal

pub returns : goal.returns
returns c = optimiser_keeps_shape
