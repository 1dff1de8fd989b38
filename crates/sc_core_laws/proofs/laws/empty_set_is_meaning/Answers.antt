use Rattle.sc_core_laws.proofs.ProgramLaws.{empty_set}
use Rattle.sc_core_laws.proofs.laws.empty_set_is_meaning.Goals as goal

pub returns : goal.returns
returns c = empty_set
