use Rattle.sc_emit_hart.proofs.Fetching.{code_is_fetched}
use Rattle.sc_emit_hart.proofs.laws.code_is_fetched.Goals as goal

pub returns : goal.returns
returns c = code_is_fetched
