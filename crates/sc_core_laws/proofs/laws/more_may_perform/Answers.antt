use Rattle.sc_core_laws.proofs.ProgramLaws.{more_may_perform}
use Rattle.sc_core_laws.proofs.laws.more_may_perform.Goals as goal

pub returns : goal.returns
returns c = more_may_perform
