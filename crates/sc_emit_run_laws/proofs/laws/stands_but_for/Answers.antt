use Rattle.sc_emit_run_laws.proofs.Given.{stands_but_for}
use Rattle.sc_emit_run_laws.proofs.laws.stands_but_for.Goals as goal

pub returns : goal.returns
returns c = stands_but_for
