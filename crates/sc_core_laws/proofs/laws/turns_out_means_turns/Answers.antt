use Rattle.sc_core_laws.proofs.ProgramLaws.{turns_out_means_turns}
use Rattle.sc_core_laws.proofs.laws.turns_out_means_turns.Goals as goal

pub returns : goal.returns
returns c = turns_out_means_turns
