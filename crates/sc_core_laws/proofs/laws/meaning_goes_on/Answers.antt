use Rattle.sc_core_laws.proofs.ProgramLaws.{meaning_goes_on}
use Rattle.sc_core_laws.proofs.laws.meaning_goes_on.Goals as goal

pub returns : goal.returns
returns c = meaning_goes_on
