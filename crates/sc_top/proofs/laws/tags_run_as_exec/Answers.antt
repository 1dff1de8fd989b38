use Rattle.sc_top.proofs.TaggedRuns.{tags_run_as_exec}
use Rattle.sc_top.proofs.laws.tags_run_as_exec.Goals as goal

pub returns : goal.returns
returns c = tags_run_as_exec c.tags_agree.ensures
