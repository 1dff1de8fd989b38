use Rattle.sc_lower.proofs.Branches.{keeps_branches}
use Rattle.sc_lower.proofs.laws.keeps_branches.Goals as goal

pub returns : goal.returns
returns c = keeps_branches
