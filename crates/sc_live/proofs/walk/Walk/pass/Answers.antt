use Rattle.sc_live.proofs.Marking.{passed}
use Rattle.sc_live.proofs.walk.Walk.pass.Goals as goal

pub returns-clause-walked : goal.returns-clause-walked
returns-clause-walked c = passed _ _ _ c.pass_to.ensures.passed
