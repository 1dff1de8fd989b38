use Rattle.sc_core_laws.proofs.Depths.{deepest_is_reached}
use Rattle.sc_core_laws.proofs.laws.deepest_is_reached.Goals as goal

pub returns : goal.returns
returns c = deepest_is_reached
