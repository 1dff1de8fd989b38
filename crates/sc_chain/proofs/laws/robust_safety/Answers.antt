use Rattle.sc_chain.proofs.Safety.{robust_safety}
use Rattle.sc_chain.proofs.laws.robust_safety.Goals as goal

pub returns : goal.returns
returns c = robust_safety
