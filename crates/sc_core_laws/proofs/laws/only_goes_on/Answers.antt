use Rattle.sc_core_laws.proofs.ProgramLaws.{only_goes_on}
use Rattle.sc_core_laws.proofs.laws.only_goes_on.Goals as goal

pub returns : goal.returns
returns c = only_goes_on
