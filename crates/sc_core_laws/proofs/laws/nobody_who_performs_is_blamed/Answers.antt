use Rattle.sc_core_laws.proofs.ProgramLaws.{nobody_who_performs_is_blamed}
use Rattle.sc_core_laws.proofs.laws.nobody_who_performs_is_blamed.Goals as goal

pub returns : goal.returns
returns c = nobody_who_performs_is_blamed
