use Rattle.sc_core_laws.proofs.ProgramLaws.{chain_exists}
use Rattle.sc_core_laws.proofs.laws.chain_exists.Goals as goal

pub returns : goal.returns
returns c = chain_exists
