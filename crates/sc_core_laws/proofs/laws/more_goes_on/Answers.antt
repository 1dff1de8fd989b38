use Rattle.sc_core_laws.proofs.ProgramLaws.{more_goes_on}
use Rattle.sc_core_laws.proofs.laws.more_goes_on.Goals as goal

pub returns : goal.returns
returns c = more_goes_on
