use Rattle.sc_core_laws.proofs.ProgramLaws.{chain_is_least}
use Rattle.sc_core_laws.proofs.laws.chain_is_least.Goals as goal

pub returns : goal.returns
returns c = chain_is_least
