use Rattle.sc_core_laws.proofs.ProgramLaws.{depths_are_kept}
use Rattle.sc_core_laws.proofs.laws.depths_are_kept.Goals as goal

pub returns : goal.returns
returns c = depths_are_kept
