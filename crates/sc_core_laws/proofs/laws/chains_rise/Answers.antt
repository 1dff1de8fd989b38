use Rattle.sc_core_laws.proofs.ProgramLaws.{chains_rise}
use Rattle.sc_core_laws.proofs.laws.chains_rise.Goals as goal

pub returns : goal.returns
returns c = chains_rise
