use Rattle.sc_opt.proofs.Promises.{optimiser_keeps_rules}
use Rattle.sc_opt.proofs.laws.optimiser_keeps_rules.Goals as goal

pub returns : goal.returns
returns c = optimiser_keeps_rules
