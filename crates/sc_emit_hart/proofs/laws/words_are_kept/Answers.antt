use Rattle.sc_emit_hart.proofs.Words.{words_are_kept}
use Rattle.sc_emit_hart.proofs.laws.words_are_kept.Goals as goal

pub returns : goal.returns
returns c = words_are_kept
